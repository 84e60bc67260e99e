use Rattle.program_files.specs.Files.{storage}
use Rattle.radoscls_program.specs.Change.{changed}
use Rattle.radoscls_program.specs.Streams.{stream}
use Rattle.radoscls_program.proofs.LoopEnds.{not_run, ran_by_loops}
use Rattle.radoscls_program.proofs.looping.run_looped.Goals as goal

pub returns-in-Ok : goal.returns-in-Ok
returns-in-Ok g c =
    let change = changed (storage g.F.ReadableFiles.disk g.F.Files.failed g.F.Files.in_place) c.args.files.now c.run_by_loops.new.files (stream g.O.Output.printed g.O.Output.failed) c.args.out.now c.show-status.new.out in
    ran_by_loops change c.args.call.now c.args.telling c.in-Ok.report c.show-status.result c.in-Ok.ensures.ok c.show-status.ensures

pub returns-in-Err : goal.returns-in-Err
returns-in-Err g c =
    let change = changed (storage g.F.ReadableFiles.disk g.F.Files.failed g.F.Files.in_place) c.args.files.now c.run_by_loops.new.files (stream g.O.Output.printed g.O.Output.failed) c.args.out.now c.tell_unrun.new.out in
    not_run change c.args.call.now c.args.telling c.in-Err.failed.failure c.tell_unrun.result c.tell_unrun.ensures.status c.in-Err.ensures.err c.tell_unrun.ensures.told

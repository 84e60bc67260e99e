use Rattle.std.proofs.Common.{map, refl}
use Rattle.program_files.specs.Files.{storage}
use Rattle.radoscls_program.specs.Change.{changed}
use Rattle.radoscls_program.specs.Streams.{stream}
use Rattle.radoscls_program.proofs.Ended.{ended, explained}
use Rattle.radoscls_program.proofs.perform.perform.Goals as goal

pub returns-in-Err : goal.returns-in-Err
returns-in-Err g c =
    let change = changed (storage g.F.ReadableFiles.disk g.F.Files.failed g.F.Files.in_place) c.args.files.now c.args.files.now (stream g.O.Output.printed g.O.Output.failed) c.args.out.now c.explain-status.new.out in
    let said = c.explain-status.ensures in
    explained change (map g.S.AsStr.text c.args.words.now) c.in-Err.error c.explain-status.result refl c.in-Err.ensures.unasked said.done said.refused said.usage

pub returns-in-Ok : goal.returns-in-Ok
returns-in-Ok g c =
    let change = changed (storage g.F.ReadableFiles.disk g.F.Files.failed g.F.Files.in_place) c.args.files.now c.do_task-status.new.files (stream g.O.Output.printed g.O.Output.failed) c.args.out.now c.do_task-status.new.out in
    ended change (map g.S.AsStr.text c.args.words.now) c.in-Ok.task c.do_task-status.result c.in-Ok.ensures.asked c.do_task-status.ensures

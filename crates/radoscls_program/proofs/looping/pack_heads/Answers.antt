use Rattle.loop_tool.specs.PackedHeads.{PackHeadsFail}
use Rattle.program_files.specs.Files.{storage}
use Rattle.radoscls_program.specs.Change.{changed}
use Rattle.radoscls_program.specs.Streams.{stream}
use Rattle.radoscls_program.proofs.LoopEnds.{headless}
use Rattle.radoscls_program.proofs.looping.pack_heads.Goals as goal

pub returns-in-Err : goal.returns-in-Err
returns-in-Err g c =
    let change = changed (storage g.F.ReadableFiles.disk g.F.Files.failed g.F.Files.in_place) c.args.files.now c.pack_with_heads.new.files (stream g.O.Output.printed g.O.Output.failed) c.args.out.now c.tell_headless.new.out in
    rw c.tell_headless.ensures.status (headless change (PackHeadsFail change.before change.after c.args.asked.now) c.in-Err.error c.in-Err.ensures.err c.tell_headless.ensures.told)

use Rattle.radoscls_program.specs.Streams.{stream}
use Rattle.radoscls_program.proofs.LoopEnds.{looped}
use Rattle.radoscls_program.proofs.looping.judge_loops.Goals as goal

pub returns-in-Ok : goal.returns-in-Ok
returns-in-Ok g c =
    let out = stream g.O.Output.printed g.O.Output.failed in
    looped (g.F.ReadableFiles.disk c.args.files.now) (out c.args.out.now) (out c.show_loops.new.out) c.args.asked.now c.in-Ok.reports c.show_loops.result
    c.in-Ok.ensures c.show_loops.ensures

use Rattle.radoscls_program.specs.Streams.{stream}
use Rattle.radoscls_program.proofs.Verdicts.{judged, unjudged}
use Rattle.radoscls_program.proofs.judging.judge.Goals as goal

pub returns-in-Ok : goal.returns-in-Ok
returns-in-Ok g c =
    let out = stream g.O.Output.printed g.O.Output.failed in
    judged (g.F.ReadableFiles.disk c.args.files.now) (out c.args.out.now) (out c.show.new.out) c.args.image.now c.args.is_explained c.in-Ok.verdicts c.show.result
    c.in-Ok.ensures.ok c.show.ensures

pub returns-in-Err : goal.returns-in-Err
returns-in-Err g c =
    let out = stream g.O.Output.printed g.O.Output.failed in
    rw c.tell_as.ensures.status (unjudged (g.F.ReadableFiles.disk c.args.files.now) (out c.args.out.now) (out c.tell_as.new.out) c.args.image.now c.args.is_explained c.in-Err.failed.failure
    c.in-Err.ensures.err c.tell_as.ensures.told)

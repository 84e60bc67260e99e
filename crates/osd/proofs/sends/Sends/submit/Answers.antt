use Rattle.std.proofs.Common.{refl, subst}
use Rattle.op_shards.specs.Passes.{Sender}
use Rattle.carried.specs.declared.operation.Operation.{Operation}
use Rattle.osd.specs.Sent.{OnlySent, IsThat}
use Rattle.osd.proofs.Sending.{only_submitted}
use Rattle.osd.proofs.sends.Sends.submit.Goals as goal

pub returns-clause-only : goal.returns-clause-only
returns-clause-only g c =
    let of = IsThat c.args.queued in
    let only = only_submitted of c.self.inside.pass c.submit.new.pass _ c.args.queued _ _ c.submit.result refl c.submit.ensures.answer in
    subst (λ (s : Sender Operation). OnlySent s c.submit.new.pass of) c.self.view_is only

use Rattle.std.proofs.lemmas.Result.{IfOk-weaker}
use Rattle.sim_world.proofs.Bucketing.{number_found}
use Rattle.sim_world.proofs.sent.lowest_equal.Goals as goal

pub returns : goal.returns
returns c =
    IfOk-weaker c.first_equal.result _ _
    (λ n is. number_found c.args.message.now c.args.kept.now c.args.buckets.now.items c.bucket-at.result n c.index.result.now c.items.result.now c.requires c.bucket-at.ensures.value c.bucket-at.ensures.below c.index.ensures c.items.ensures is)
    c.first_equal.ensures

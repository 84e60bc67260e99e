use Rattle.std.proofs.Common.{arith}
use Rattle.std.proofs.lemmas.Grind.{common_steps}
use Rattle.sim_world.proofs.Bucketing.{in_buckets_more}
use Rattle.sim_world.proofs.sent.keep_numbered.Goals as goal

pub returns-in-Ok-clause-in_buckets : goal.returns-in-Ok-clause-in_buckets
returns-in-Ok-clause-in_buckets c =
    in_buckets_more c.args.kept.now.items c.push.new.self.items c.args.buckets.now.items c.put.new.buckets.items c.args.message c.bucket-at.result c.last_number.result
    c.bucket-at.ensures.value c.bucket-at.ensures.below c.in_ok-push.ensures.items c.last_number.ensures c.requires c.in-Ok.ensures.ok

pub returns-in-Err-clause-in_buckets : goal.returns-in-Err-clause-in_buckets
returns-in-Err-clause-in_buckets c = grind (arith, common_steps)

pub returns-in-Err-clause-err : goal.returns-in-Err-clause-err
returns-in-Err-clause-err c = grind (arith, common_steps)

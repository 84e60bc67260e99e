use Rattle.std.proofs.lemmas.Grind.{common_steps}
use Rattle.std.proofs.Common.{◌≡◌, refl, arith, rules, Some}
use Rattle.std.specs.List.{slice_get}
use Rattle.std.proofs.lemmas.Option.{slice_get_read}
use Rattle.pg_log.specs.Entries.{requests_of}
use Rattle.pg_log.proofs.Kept.{requests_at}
use Rattle.pg_log.proofs.Adopted.{common_more}
use Rattle.pg_log.proofs.group.adopt.common_beginning.Goals as goal

pub loop-k-preserved : goal.loop-k-preserved
loop-k-preserved c =
    let es = c.args.entries.now in
    let list = c.args.list.now in
    let k = c.loop-k.k in
    let e = c.index-entries-k.result in
    let r = c.index-list-k.result in
    let entry : slice_get es k ≡ Some e = slice_get_read es _ k e refl (omega arith) c.index-entries-k.is in
    let there : slice_get list k ≡ Some r = slice_get_read list _ k r refl (omega arith) c.index-list-k.is in
    common_more (requests_of es) list k e.request r (requests_at es k e entry) there (search rules) c.loop-k.invariant

-- turned by adopt_keeps_a_divergent_entry
pub returns-then-not-is : goal.returns-then-not-is
returns-then-not-is c = grind (arith, common_steps)

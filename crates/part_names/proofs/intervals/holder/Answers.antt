use Rattle.std.proofs.Common.{◌≡◌, Some, None, sym, ap, ◌∙◌, arith, rules, cond}
use Rattle.std.specs.List.{slice_get}
use Rattle.std.proofs.lemmas.Grind.{common_steps}
use Rattle.std.proofs.lemmas.Option.{gets}
use Rattle.std.proofs.lemmas.List.Sorted.{IsPartitionPoint-from_clause}
use Rattle.part_names.proofs.Searches.{ends_upto, if_holds, search_holder, parted}
use Rattle.part_names.proofs.intervals.holder.Goals as goal
use Rattle.part_names.proofs.intervals.holder.Goals.{in_default-via-in-Some+else-holds, in_default-via-in_default}

pub returns-in-Some : goal.returns-in-Some
returns-in-Some c =
    let is = c.args.list.now in
    let a = c.args.at.now in
    let n = c.partition_point-n.result in
    let i = c.in-Some.interval.now in
    let point = IsPartitionPoint-from_clause (ends_upto a) is n c.partition_point-n.ensures.partitioned (parted a is c.requires) (λ s r q k. search rules) in
    let there : slice_get is n ≡ Some i = grind (arith, common_steps, gets) in
    sym (search_holder a is n c.requires point ∙ ap (if_holds a) there ∙ ap (λ b. cond b (Some i) None) (sym c.holds.ensures ∙ c.if-holds.true))

pub returns-in_default : goal.returns-in_default
returns-in_default c =
    let is = c.args.list.now in
    let a = c.args.at.now in
    let n = c.partition_point-n.result in
    let point = IsPartitionPoint-from_clause (ends_upto a) is n c.partition_point-n.ensures.partitioned (parted a is c.requires) (λ s r q k. search rules) in
    elim c.in_default.branch [
      | in_default-via-in-Some+else-holds w ↦
          let i = w.in-Some.interval.now in
          let there : slice_get is n ≡ Some i = grind (arith, common_steps, gets) in
          sym (search_holder a is n c.requires point ∙ ap (if_holds a) there ∙ ap (λ b. cond b (Some i) None) (sym w.holds.ensures ∙ w.if-holds.false))
      | in_default-via-in_default w ↦
          let there : slice_get is n ≡ None = grind (arith, common_steps, gets) in
          sym (search_holder a is n c.requires point ∙ ap (if_holds a) there)
    ]

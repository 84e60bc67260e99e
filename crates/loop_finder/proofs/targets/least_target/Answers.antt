use Rattle.std.proofs.Common.{◌<◌, ◌+◌, Some, None, refl, ap, ◌∙◌, sym, subst, arith, length}
use Rattle.std.proofs.lemmas.Option.{slice_get_read}
use Rattle.bpf_machine.specs.State.{◌>>=◌}
use Rattle.loop_finder.proofs.Jumps.{Searched, over, misses_none, misses_all, misses_below, better, some_of, none_of, searched_all}
use Rattle.loop_finder.proofs.targets.least_target.Goals.{in-Some+in-Some-back_target+then-target-least, in-Some+in-Some-back_target+else-target-least, in-Some+in_default-back_target, in_default}
use Rattle.loop_finder.proofs.targets.least_target.Goals as goal

pub loop-slot-preserved : goal.loop-slot-preserved
loop-slot-preserved c =
    let code = c.args.code.now in
    let slot = c.loop-slot.slot in
    let least = c.args.least in
    let first = c.loop-slot.first in
    let lt : slot < length code = omega arith in
    elim c.match-begun.branch [
      | in-Some+in-Some-back_target+then-target-least w ↦
          let at = slice_get_read code (length code) slot _ refl lt c.index-code-slot.is ∙ ap Some w.in-Some.is in
          let to = some_of w.back_target.result w.in-Some-back_target.target _ _ w.in-Some-back_target.is w.back_target.ensures in
          let lesser = w.nearer.ensures.lesser in
          subst (Searched code least (slot + 1)) (sym w.first-is) (better code least slot w.in-Some.insn first _ _ c.loop-slot.invariant (ap (λ o. o >>= λ i. i) at) to w.nearer.ensures.one lesser.0 lesser.1)
      | in-Some+in-Some-back_target+else-target-least w ↦
          let at = slice_get_read code (length code) slot _ refl lt c.index-code-slot.is ∙ ap Some w.in-Some.is in
          let to = some_of w.back_target.result w.in-Some-back_target.target _ _ w.in-Some-back_target.is w.back_target.ensures in
          let misses = misses_below least slot w.in-Some-back_target.target first w.in-Some.insn (omega arith) to in
          subst (Searched code least (slot + 1)) (sym w.first-is) (over code least slot (Some w.in-Some.insn) first (ap (λ o. o >>= λ i. i) at) misses c.loop-slot.invariant)
      | in-Some+in_default-back_target w ↦
          let at = slice_get_read code (length code) slot _ refl lt c.index-code-slot.is ∙ ap Some w.in-Some.is in
          let none = none_of w.back_target.result _ _ w.in_default-back_target.is w.back_target.ensures in
          subst (Searched code least (slot + 1)) (sym w.first-is) (over code least slot (Some w.in-Some.insn) first (ap (λ o. o >>= λ i. i) at) (misses_all least slot first w.in-Some.insn none) c.loop-slot.invariant)
      | in_default w ↦
          let at = slice_get_read code (length code) slot _ refl lt c.index-code-slot.is ∙ ap Some w.in_default.is in
          subst (Searched code least (slot + 1)) (sym w.first-is) (over code least slot None first (ap (λ o. o >>= λ i. i) at) (misses_none least slot first) c.loop-slot.invariant)
    ]

pub returns-clause-found : goal.returns-clause-found
returns-clause-found c = c.loop-slot.invariant.found

pub returns-clause-least : goal.returns-clause-least
returns-clause-least c = searched_all c.args.code.now c.args.least c.loop-slot.slot c.loop-slot.first (omega arith) c.loop-slot.invariant

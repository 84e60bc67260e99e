use Rattle.std.proofs.Common.{◌≡◌, ℕ, ◌-◌, ◌≤◌, ◌++◌, List, length, length-drop, drop, min, ap, sym, ◌∙◌, arith}
use Rattle.std.proofs.lemmas.Grind.{common_steps}
use Rattle.std.proofs.lemmas.List.{take_all}
use Rattle.peering.proofs.Raising.{raised_end}
use Rattle.peering.proofs.node.serve.raised.Goals as goal

pub returns-clause-ok : goal.returns-clause-ok
returns-clause-ok c =
    let ns : List ℕ = c.args.acting.now in
    let ks : List ℕ = c.args.acked.now in
    let k : ℕ = c.loop-place.place in
    let p : k ≡ c.min-common.result = omega arith in
    let q : k ≡ min (length ns) (length ks) = omega arith in
    let m : ℕ = c.min-common.result in
    let rest : length (drop m ks) ≡ length ks - m = length-drop m ks in
    let short : length (drop m ks) ≤ length ks - m = omega arith in
    c.in_ok-extend_from_slice.ensures.items
    ∙ ap (λ w. c.loop-place.lengths.items ++ w) (take_all (length ks - m) (drop m ks) short)
    ∙ ap (λ j. c.loop-place.lengths.items ++ drop j ks) (sym p)
    ∙ ap (λ w. c.loop-place.lengths.items ++ w) (sym (raised_end c.args.member c.args.length k ns ks q))
    ∙ c.loop-place.invariant

pub loop-place-preserved : goal.loop-place-preserved
loop-place-preserved c = grind (arith, common_steps)

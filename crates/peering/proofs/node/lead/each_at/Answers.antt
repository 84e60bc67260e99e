use Rattle.std.proofs.Common.{◌≡◌, ℕ, ◌+◌, ◌++◌, ◌∷◌, [], List, drop, ap, sym, ◌∙◌, append_assoc, arith}
use Rattle.std.proofs.lemmas.Grind.{common_steps}
use Rattle.std.proofs.lemmas.List.{drop_more}
use Rattle.group_world.specs.Rules.{each_at}
use Rattle.peering.proofs.node.lead.each_at.Goals as goal

pub loop-node-preserved : goal.loop-node-preserved
loop-node-preserved c =
    let k : ℕ = c.loop-node._node-index in
    let ns : List ℕ = c.args.nodes.now in
    let j : ℕ = c.args.length in
    let t : List ℕ = each_at (drop (k + 1) ns) j in
    let step : each_at (drop k ns) j ≡ j ∷ t = ap (λ w. each_at w j) (drop_more ns k 0 c.loop-node-test.true) in
    ap (λ x. x ++ t) c.in_ok-push.ensures.items ∙ append_assoc c.loop-node.lengths.items (j ∷ []) t ∙ ap (λ x. c.loop-node.lengths.items ++ x) (sym step) ∙ c.loop-node.invariant

pub returns-clause-ok : goal.returns-clause-ok
returns-clause-ok c = grind (arith, common_steps)

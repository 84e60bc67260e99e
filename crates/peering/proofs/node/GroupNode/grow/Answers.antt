use Rattle.std.proofs.Common.{◌≡◌, ◌≤◌, ◌+◌, ap, arith, length}
use Rattle.std.proofs.lemmas.Grind.{common_steps}
use Rattle.peering.proofs.Growing.{still_within}
use Rattle.peering.proofs.node.GroupNode.grow.Goals as goal

pub invariant_of-self-2 : goal.invariant_of-self-2
invariant_of-self-2 g c =
    let n = c.self.inside in
    let same = ap (λ z. length z.state.log) c.self.view_is in
    let within : c.args.commit.point ≤ length n.group + 1 = omega (arith, same, c.requires.within) in
    let none : length c.none.result ≡ 0 = ap (λ w. length w) c.none.ensures in
    (still_within c.args.commit.point c.keep.result n.group c.keep.new.self c.args.entry.request c.if-is_err.ensures.value c.keep.ensures.ok within, λ h. absurd (omega arith))

pub keep-requires : goal.keep-requires
keep-requires g c = grind (arith, common_steps)

pub returns-clause-done : goal.returns-clause-done
returns-clause-done g c = grind (arith, common_steps)

use Rattle.std.proofs.Common.{not, is_some, ap, sym, ◌∙◌}
use Rattle.std.specs.FinMap as fin
use Rattle.shared_map.specs.Entries.{sorted}
use Rattle.shared_map.proofs.Halves.{sorted-without}
use Rattle.shared_map.proofs.Maps.{map_of, get-map, without-map, remove-absent, is_some-copied}
use Rattle.shared_map.proofs.shared_map.SharedMap.remove.Goals as goal

pub invariant_of-self : goal.invariant_of-self
invariant_of-self g c = ap sorted c.in_ok-self-inside.ensures ∙ sorted-without c.args.key.now c.self.inside.tree.entries c.self.invariant

pub returns-clause-ok : goal.returns-clause-ok
returns-clause-ok g c =
    ap map_of c.in_ok-self-inside.ensures ∙ without-map c.self.inside.tree.entries c.args.key.now c.self.invariant ∙ ap (λ m. fin.remove m c.args.key.now) c.self.view_is

pub returns-then-is_none-clause-ok : goal.returns-then-is_none-clause-ok
returns-then-is_none-clause-ok g c = remove-absent c.args.self.now c.args.key.now
    (ap (λ m. is_some (fin.get m c.args.key.now)) (sym c.self.view_is) ∙ ap is_some (get-map _ c.args.key.now c.self.invariant) ∙ ap is_some (sym c.get.ensures) ∙ is_some-copied c.get.result ∙ c.is_none.ensures ∙ ap not c.if-is_none.true)

-- The node of a number, as it is held.
use Rattle.std.proofs.Common.{◌≡◌, ◌<◌, ℕ, Bool, true, false, if◌then◌else◌, List, length, Some, None, sym, ap, ◌∙◌, subst, slice_get}
use Rattle.std.specs.Prelude.{nat_lt}
use Rattle.std.proofs.lemmas.Bool.{ltb-false, ltb-true}
use Rattle.std.proofs.lemmas.Option.{slice_get-get_or, slice_get_past}
use Rattle.pg_log.specs.Log.{Classes}
use Rattle.peering.specs.Numbered.{NumberedNode}
use Rattle.sim_world.specs.Step.{Played}
use Rattle.sim_world.specs.Holds.{Holds, node_at}
use Rattle.sim_world.specs.inner.Parts.{Parts, nth_node}

node_if : (nodes : List NumberedNode) (n : ℕ) (x : NumberedNode) (b : Bool) → nat_lt n (length nodes) ≡ b
    → (n < length nodes → nth_node nodes n ≡ x) → slice_get nodes n ≡ (if b then Some x else None)
node_if nodes n x true e f =
    slice_get-get_or nodes n _ (ltb-true n (length nodes) e) ∙ ap Some (f (ltb-true n (length nodes) e))
node_if nodes n x false e f = slice_get_past nodes n (ltb-false n (length nodes) e)

pub node_held : (classes : Classes) (parts : Parts) (n : ℕ) (p : Played) → Holds classes parts p → slice_get parts.nodes n ≡ node_at p n
node_held classes parts n p held =
    node_if parts.nodes n (record { number = n; state = p.world.nodes n }) (nat_lt n (length p.stopped))
    (ap (nat_lt n) (held.count ∙ sym held.flags)) (λ low. held.nodes n (subst (λ (l : ℕ). n < l) held.count low))

use Rattle.std.proofs.Common.{◌≡◌, [], ◌∷◌, ◌++◌, ap, sym, subst, ◌∙◌}
use Rattle.std.specs.Arc.{arc_value}
use Rattle.std.proofs.lemmas.List.{append-nil}
use Rattle.std.proofs.lemmas.Result.{IfOk-weaker}
use Rattle.shared_map.specs.Shape.{Shape}
use Rattle.shared_map.specs.Tree.{pair, IsSplit}
use Rattle.shared_map.proofs.Halves.{sorted-along}
use Rattle.shared_map.proofs.tree.without_entry.Goals as goal

pub balanced-requires : goal.balanced-requires
balanced-requires g c =
    let b = c.args.b.now in
    let rest : b.right.entries ≡ pair (arc_value c.in-Some.first) ∷ c.in-Some.right.entries = subst (IsSplit b.right.entries) c.in-Some.is c.in_ok-split_first.ensures in
    sorted-along _ _ (ap (λ r. b.left.entries ++ r) rest ∙ ap (λ (s : Shape g.row.V.Denot). s.entries ++ pair (arc_value c.in-Some.first) ∷ c.in-Some.right.entries) (sym c.in_ok-copy-in-Some.ensures)) c.requires

pub returns-in_ok-copy-in-Some : goal.returns-in_ok-copy-in-Some
returns-in_ok-copy-in-Some g c =
    let b = c.args.b.now in
    let rest : b.right.entries ≡ pair (arc_value c.in-Some.first) ∷ c.in-Some.right.entries = subst (IsSplit b.right.entries) c.in-Some.is c.in_ok-split_first.ensures in
    IfOk-weaker c.balanced.result _ _ (λ t is. is ∙ ap (λ (s : Shape g.row.V.Denot). s.entries ++ pair (arc_value c.in-Some.first) ∷ c.in-Some.right.entries) c.in_ok-copy-in-Some.ensures ∙ sym (ap (λ r. b.left.entries ++ r) rest)) c.balanced.ensures

pub returns-in-None : goal.returns-in-None
returns-in-None g c =
    let b = c.args.b.now in
    let rest : b.right.entries ≡ [] = subst (IsSplit b.right.entries) c.in-None.is c.in_ok-split_first.ensures in
    IfOk-weaker c.copy.result _ _ (λ t is. ap (λ (s : Shape g.row.V.Denot). s.entries) is ∙ sym (ap (λ r. b.left.entries ++ r) rest ∙ append-nil b.left.entries)) c.copy.ensures

use Rattle.std.proofs.Common.{◌≡◌, List, [], ◌∷◌, refl, ap, ◌∙◌, arith, length, take, drop}
use Rattle.std.proofs.lemmas.List.{take_at}
use Rattle.abstract_regs.specs.declared.kind.Kind.{Kind}
use Rattle.abstract_regs.specs.Kind.{join_kind}
use Rattle.abstract_regs.specs.Frame.{join_each}
use Rattle.abstract_regs.specs.Seen.{seen, seen_each}
use Rattle.abstract_regs.proofs.slots.join_slots.Goals as goal

-- a join has no more slots than the other frame
join_cut : (xs ys : List Kind) → join_each (seen_each (take (length ys) xs)) (seen_each ys) ≡ join_each (seen_each xs) (seen_each ys)
join_cut [] [] = refl
join_cut [] (y ∷ ys) = refl
join_cut (x ∷ xs) [] = refl
join_cut (x ∷ xs) (y ∷ ys) = ap (λ t. join_kind (seen x) (seen y) ∷ t) (join_cut xs ys)

pub returns : goal.returns
returns c =
    let kinds = c.join_all.new.kinds in
    let others = c.args.others.now in
    let long : length kinds ≡ c.truncate.new.self.len = omega arith in
    ap seen_each (take_at kinds (drop (length kinds) c.truncate.new.self.items) c.truncate.new.self.len long)
    ∙ c.join_all.ensures
    ∙ ap (λ t. join_each (seen_each t) (seen_each others)) (c.deref_mut.ensures.value ∙ c.truncate.ensures.items)
    ∙ join_cut c.args.slots.now.items others

use Rattle.std.proofs.Common.{◌≡◌, List, [], ◌∷◌, refl, ap, ◌∙◌, arith, length, take, drop}
use Rattle.std.proofs.lemmas.List.{take_at}
use Rattle.abstract_regs.specs.declared.link.Link.{Link}
use Rattle.abstract_regs.specs.Link.{join_link, join_links}
use Rattle.abstract_regs.proofs.links.join_links.Goals as goal

-- a join has no more places than the other frame
join_cut : (xs ys : List Link) → join_links (take (length ys) xs) ys ≡ join_links xs ys
join_cut [] [] = refl
join_cut [] (y ∷ ys) = refl
join_cut (x ∷ xs) [] = refl
join_cut (x ∷ xs) (y ∷ ys) = ap (λ t. join_link x y ∷ t) (join_cut xs ys)

pub returns : goal.returns
returns c =
    let links = c.join_all.new.links in
    let others = c.args.others.now in
    let long : length links ≡ c.truncate.new.self.len = omega arith in
    take_at links (drop (length links) c.truncate.new.self.items) c.truncate.new.self.len long
    ∙ c.join_all.ensures
    ∙ ap (λ t. join_links t others) (c.deref_mut.ensures.value ∙ c.truncate.ensures.items)
    ∙ join_cut c.args.links.now.items others

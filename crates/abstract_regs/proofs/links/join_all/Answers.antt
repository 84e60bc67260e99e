use Rattle.std.proofs.Common.{◌≡◌, ℕ, zero, suc, ◌+◌, ◌<◌, ◌≤◌, List, [], ◌∷◌, ◌++◌, refl, ap, ◌∙◌, sym, arith, length, take, drop, get_or}
use Rattle.std.proofs.lemmas.List.{take_more, take_more_set, length-take-le, length-set, drop_more, drop-set-lt, take_all}
use Rattle.abstract_regs.specs.declared.link.Link.{Link}
use Rattle.abstract_regs.specs.Link.{no_link, join_link, join_links}
use Rattle.abstract_regs.proofs.links.join_all.Goals as goal

join_push : (f g : List Link) (x y : Link) → length f ≡ length g → join_links (f ++ x ∷ []) (g ++ y ∷ []) ≡ join_links f g ++ join_link x y ∷ []
join_push [] [] x y e = refl
join_push [] (b ∷ g) x y e = absurd (omega arith)
join_push (a ∷ f) [] x y e = absurd (omega arith)
join_push (a ∷ f) (b ∷ g) x y e =
    let less : length f ≡ length g = omega arith in
    ap (λ t. join_link a b ∷ t) (join_push f g x y less)

-- what is past the shorter list isn't looked at
join_front : (f g : List Link) (n : ℕ) → length f ≤ n → join_links f (take n g) ≡ join_links f g
join_front [] g n le = refl
join_front (a ∷ f) [] zero le = refl
join_front (a ∷ f) [] (suc n) le = refl
join_front (a ∷ f) (b ∷ g) zero le = absurd (omega (arith, le))
join_front (a ∷ f) (b ∷ g) (suc n) le = ap (λ t. join_link a b ∷ t) (join_front f g n (omega (arith, le)))

pub loop-i-preserved : goal.loop-i-preserved
loop-i-preserved c =
    let i = c.loop-i.i in
    let xs = c.loop-i.links in
    let f = c.args.links.now in
    let g = c.args.others.now in
    let k = c.join.result in
    let lx = c.loop-i.invariant.long in
    let in_f : i < length f = omega arith in
    let in_g : i < length g = omega arith in
    let in_x : i < length xs = omega (arith, lx) in
    let more = drop_more xs i no_link in_x in
    let more' = drop_more f i no_link in_f in
    let same = sym more ∙ c.loop-i.invariant.rest ∙ more' in
    let here : get_or xs i no_link ≡ get_or f i no_link = ap (λ t. get_or t 0 no_link) same in
    let m : length (take i f) ≡ i = length-take-le i f (omega arith) in
    let n : length (take i g) ≡ i = length-take-le i g (omega arith) in
    record {
      long = length-set xs i k ∙ lx;
      joined =
          take_more_set xs i k in_x
          ∙ ap (λ t. t ++ k ∷ []) c.loop-i.invariant.joined
          ∙ ap (λ v. join_links (take i f) (take i g) ++ v ∷ []) (c.join.ensures ∙ ap (λ x. join_link x (get_or g i no_link)) here)
          ∙ sym (join_push (take i f) (take i g) (get_or f i no_link) (get_or g i no_link) (m ∙ sym n))
          ∙ ap (λ t. join_links t (take i g ++ get_or g i no_link ∷ [])) (sym (take_more f i no_link in_f))
          ∙ ap (λ t. join_links (take (i + 1) f) t) (sym (take_more g i no_link in_g));
      rest = drop-set-lt (i + 1) xs i k (omega arith) ∙ ap (drop 1) same;
    }

pub returns : goal.returns
returns c =
    let i = c.loop-i.i in
    let xs = c.loop-i.links in
    let f = c.args.links.now in
    let g = c.args.others.now in
    let lx = c.loop-i.invariant.long in
    let past : length f ≤ i = omega arith in
    let past' : length xs ≤ i = omega (arith, lx) in
    sym (take_all i xs past')
    ∙ c.loop-i.invariant.joined
    ∙ ap (λ t. join_links t (take i g)) (take_all i f past)
    ∙ join_front f g i past

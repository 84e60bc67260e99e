use Rattle.std.proofs.Common.{◌≡◌, ℕ, zero, suc, ◌+◌, ◌<◌, ◌≤◌, List, [], ◌∷◌, ◌++◌, refl, ap, ◌∙◌, sym, arith, length, take, drop, get_or}
use Rattle.std.proofs.lemmas.List.{take_more, take_more_set, length-take-le, length-set, drop_more, drop-set-lt, take_all}
use Rattle.abstract_regs.specs.declared.kind.Kind.{Kind}
use Rattle.abstract_regs.specs.Kind.{join_kind}
use Rattle.abstract_regs.specs.Frame.{join_each}
use Rattle.abstract_regs.specs.Seen.{seen, seen_each}
use Rattle.abstract_regs.proofs.slots.join_all.Goals as goal

join_push : (f g : List Kind) (x y : Kind) → length f ≡ length g →
    join_each (seen_each (f ++ x ∷ [])) (seen_each (g ++ y ∷ [])) ≡ join_each (seen_each f) (seen_each g) ++ join_kind (seen x) (seen y) ∷ []
join_push [] [] x y e = refl
join_push [] (b ∷ g) x y e = absurd (omega arith)
join_push (a ∷ f) [] x y e = absurd (omega arith)
join_push (a ∷ f) (b ∷ g) x y e =
    let less : length f ≡ length g = omega arith in
    ap (λ t. join_kind (seen a) (seen b) ∷ t) (join_push f g x y less)

-- what is past the shorter list isn't looked at
join_front : (f g : List Kind) (n : ℕ) → length f ≤ n → join_each (seen_each f) (seen_each (take n g)) ≡ join_each (seen_each f) (seen_each g)
join_front [] g n le = refl
join_front (a ∷ f) [] zero le = refl
join_front (a ∷ f) [] (suc n) le = refl
join_front (a ∷ f) (b ∷ g) zero le = absurd (omega (arith, le))
join_front (a ∷ f) (b ∷ g) (suc n) le = ap (λ t. join_kind (seen a) (seen b) ∷ t) (join_front f g n (omega (arith, le)))

seen_push : (f : List Kind) (x : Kind) → seen_each (f ++ x ∷ []) ≡ seen_each f ++ seen x ∷ []
seen_push [] x = refl
seen_push (a ∷ f) x = ap (λ t. seen a ∷ t) (seen_push f x)

pub loop-i-preserved : goal.loop-i-preserved
loop-i-preserved c =
    let i = c.loop-i.i in
    let xs = c.loop-i.kinds in
    let f = c.args.kinds.now in
    let g = c.args.others.now in
    let k = c.join_one.new.kind in
    let a = c.index-kinds-i.result in
    let b = c.index-others-i.result in
    let lx = c.loop-i.invariant.long in
    let in_f : i < length f = omega arith in
    let in_g : i < length g = omega arith in
    let in_x : i < length xs = omega (arith, lx) in
    let more = drop_more xs i a in_x in
    let more' = drop_more f i a in_f in
    let same = sym more ∙ c.loop-i.invariant.rest ∙ more' in
    let here : get_or xs i a ≡ get_or f i a = ap (λ t. get_or t 0 a) same in
    let m : length (take i f) ≡ i = length-take-le i f (omega arith) in
    let n : length (take i g) ≡ i = length-take-le i g (omega arith) in
    record {
      long = length-set xs i k ∙ lx;
      joined =
          ap seen_each (take_more_set xs i k in_x)
          ∙ seen_push (take i xs) k
          ∙ ap (λ t. t ++ seen k ∷ []) c.loop-i.invariant.joined
          ∙ ap (λ v. join_each (seen_each (take i f)) (seen_each (take i g)) ++ v ∷ []) (c.join_one.ensures ∙ ap (λ x. join_kind (seen x) (seen b)) here ∙ ap (λ y. join_kind (seen (get_or f i a)) (seen y)) c.index-others-i.is)
          ∙ sym (join_push (take i f) (take i g) (get_or f i a) (get_or g i b) (m ∙ sym n))
          ∙ ap (λ t. join_each (seen_each t) (seen_each (take i g ++ get_or g i b ∷ []))) (sym (take_more f i a in_f))
          ∙ ap (λ t. join_each (seen_each (take (i + 1) f)) (seen_each t)) (sym (take_more g i b in_g));
      rest = drop-set-lt (i + 1) xs i k (omega arith) ∙ ap (drop 1) same;
    }

pub returns : goal.returns
returns c =
    let i = c.loop-i.i in
    let xs = c.loop-i.kinds in
    let f = c.args.kinds.now in
    let g = c.args.others.now in
    let lx = c.loop-i.invariant.long in
    let past : length f ≤ i = omega arith in
    let past' : length xs ≤ i = omega (arith, lx) in
    sym (ap seen_each (take_all i xs past'))
    ∙ c.loop-i.invariant.joined
    ∙ ap (λ t. join_each (seen_each t) (seen_each (take i g))) (take_all i f past)
    ∙ join_front f g i past

use Rattle.std.proofs.Common.{◌≡◌, ◌-◌, [], ◌++◌, length, take, drop, replicate, refl, ap, ◌∙◌, arith}
use Rattle.std.proofs.lemmas.Result.{IfOk-weaker}
use Rattle.object_store.specs.Extents.{flat, cut}
use Rattle.object_store.proofs.Flats.{length-flat-take, length-flat-drop, cut-after, cut-before, resized_is}
use Rattle.object_store.proofs.Packs.{packed-drop}
use Rattle.object_store.proofs.extents.with_near_len.Goals as goal

pub past-count-requires : goal.past-count-requires
past-count-requires c =
    omega (arith, ap (λ l. length (flat l)) c.split_at.ensures.back, length-flat-drop c.args.parts.now c.before-kept.result.0, c.requires.len)

pub touched-requires-clause-small : goal.touched-requires-clause-small
touched-requires-clause-small c =
    omega (arith, ap (λ l. length (flat l)) c.split_at-2.ensures.front, length-flat-take c.split_at.result.1.now c.past-count.result.0, ap (λ l. length (flat l)) c.split_at.ensures.back, length-flat-drop c.args.parts.now c.before-kept.result.0, c.requires.len)

pub replaced-requires-clause-packed : goal.replaced-requires-clause-packed
replaced-requires-clause-packed c = packed-drop c.args.parts.now (length c.args.parts.now) c.requires.packed

pub returns-clause-bytes : goal.returns-clause-bytes
returns-clause-bytes c =
    let xs = c.args.parts.now in
    let len = c.args.new_len in
    let kept = c.before-kept.result.0 in
    let from = c.before-kept.result.1 in
    let count = c.past-count.result.0 in
    let b = c.split_at.ensures.back in
    let m = c.in_ok-middle.middle.items in
    let none : 0 ≡ from - from = omega arith in
    let first : cut 0 (len - from) (flat c.split_at-2.result.0.now) ≡ cut from len (flat xs) =
    ap (λ l. cut 0 (len - from) (flat l)) (c.split_at-2.ensures.front ∙ ap (take count) b)
    ∙ cut-before (drop kept xs) count 0 (len - from) (omega arith) (omega (arith, c.past-count.ensures.1, c.past-count.ensures.2, ap (λ l. length (flat l)) b, ap (λ l. length (flat (take count l))) b))
    ∙ ap (λ n. cut n (len - from) (flat (drop kept xs))) none
    ∙ cut-after xs kept from len from c.before-kept.ensures.place.1 (omega arith) c.before-kept.ensures.place.2 in
    let em : m ≡ ((cut from len (flat xs) ++ replicate (len - length (flat xs)) 0) ++ []) ++ cut 0 0 (flat xs) =
    c.in_ok-middle.ensures
    ∙ ap (λ n. ((cut 0 (len - from) (flat c.split_at-2.result.0.now) ++ replicate n 0) ++ []) ++ cut 0 0 (flat xs)) (c.saturating_sub-gap.ensures ∙ ap (λ n. len - n) c.requires.len.0)
    ∙ ap (λ l. ((l ++ replicate (len - length (flat xs)) 0) ++ []) ++ cut 0 0 (flat xs)) first in
    IfOk-weaker c.replaced.result _ _
    (λ v is. resized_is xs len kept from (length xs) m (flat v.items) c.before-kept.ensures.place.1 c.before-kept.ensures.place.2 refl em is)
    c.replaced.ensures.bytes

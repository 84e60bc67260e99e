use Rattle.std.proofs.Common.{◌≡◌, ◌+◌, ◌-◌, min, ◌++◌, length, take, drop, replicate, refl, ap, sym, ◌∙◌, arith, length-append, length-drop}
use Rattle.std.proofs.lemmas.Result.{IfOk-weaker}
use Rattle.object_store.specs.Extents.{flat, cut}
use Rattle.object_store.proofs.Flats.{flat-halves, length-flat-take, length-flat-drop, touched_is, spliced_laid}
use Rattle.object_store.proofs.Packs.{packed-drop, fills}
use Rattle.object_store.proofs.extents.with_text_within.Goals as goal

pub past-count-requires : goal.past-count-requires
past-count-requires c =
    omega (arith, ap (λ l. length (flat l)) c.split_at.ensures.back, length-flat-drop c.args.parts.now c.before-kept.result.0, c.requires.len)

pub touched-requires-clause-small : goal.touched-requires-clause-small
touched-requires-clause-small c =
    omega (arith, ap (λ l. length (flat l)) c.split_at-2.ensures.front, length-flat-take c.split_at.result.1.now c.past-count.result.0, ap (λ l. length (flat l)) c.split_at.ensures.back, length-flat-drop c.args.parts.now c.before-kept.result.0, c.requires.len)

pub replaced-requires-clause-packed : goal.replaced-requires-clause-packed
replaced-requires-clause-packed c = packed-drop c.args.parts.now (c.before-kept.result.0 + c.past-count.result.0) c.requires.packed

pub replaced-requires-clause-seam : goal.replaced-requires-clause-seam
replaced-requires-clause-seam c =
    λ h. let xs = c.args.parts.now in
    let at = c.args.at in
    let text = c.args.text.now in
    let kept = c.before-kept.result.0 in
    let from = c.before-kept.result.1 in
    let count = c.past-count.result.0 in
    let to = c.past-count.result.1 in
    let b = c.split_at.ensures.back in
    let rest = drop kept xs in
    let p = flat (take count rest) in
    let whole : length (flat xs) ≡ length (flat (take kept xs)) + length (flat rest) =
    sym (ap length (flat-halves xs kept)) ∙ length-append (flat (take kept xs)) (flat rest) in
    let em : c.in_ok-middle.middle.items ≡ ((cut 0 (at - from) p ++ replicate 0 0) ++ text) ++ cut (min (at - from + length text) to) to p =
    c.in_ok-middle.ensures
    ∙ ap (λ l. ((cut 0 (at - from) (flat l) ++ replicate 0 0) ++ text) ++ cut c.min.result to (flat l)) (c.split_at-2.ensures.front ∙ ap (take count) b)
    ∙ ap (λ n. ((cut 0 (at - from) p ++ replicate 0 0) ++ text) ++ cut n to p) c.min.ensures in
    fills rest count (at - from) 0 (at - from + length text) to text c.in_ok-middle.middle.items
    (packed-drop xs kept c.requires.packed) (omega (arith, h, length-drop kept xs))
    (c.past-count.ensures.1 ∙ ap (λ l. length (flat (take count l))) b)
    (omega (arith, c.past-count.ensures.2, ap (λ l. length (flat l)) b))
    refl
    (λ e. refl)
    em

pub returns-clause-bytes : goal.returns-clause-bytes
returns-clause-bytes c =
    let xs = c.args.parts.now in
    let at = c.args.at in
    let text = c.args.text.now in
    let kept = c.before-kept.result.0 in
    let from = c.before-kept.result.1 in
    let count = c.past-count.result.0 in
    let to = c.past-count.result.1 in
    let b = c.split_at.ensures.back in
    let p = flat (take count (drop kept xs)) in
    let m = c.in_ok-middle.middle.items in
    let none : 0 ≡ at - length (flat xs) = omega arith in
    let em : m ≡ ((cut 0 (at - from) p ++ replicate (at - length (flat xs)) 0) ++ text) ++ cut (min (at - from + length text) to) to p =
    c.in_ok-middle.ensures
    ∙ ap (λ l. ((cut 0 (at - from) (flat l) ++ replicate 0 0) ++ text) ++ cut c.min.result to (flat l)) (c.split_at-2.ensures.front ∙ ap (take count) b)
    ∙ ap (λ n. ((cut 0 (at - from) p ++ replicate n 0) ++ text) ++ cut c.min.result to p) none
    ∙ ap (λ n. ((cut 0 (at - from) p ++ replicate (at - length (flat xs)) 0) ++ text) ++ cut n to p) c.min.ensures in
    IfOk-weaker c.replaced.result _ _
    (λ v is. touched_is xs at text kept from count to m (flat v.items) c.before-kept.ensures.place.1 c.before-kept.ensures.place.2
    (c.past-count.ensures.1 ∙ ap (λ l. length (flat (take count l))) b)
    (omega (arith, c.past-count.ensures.2, ap (λ l. length (flat l)) b))
    em
    is
    ∙ sym (spliced_laid (flat xs) at text c.requires.text))
    c.replaced.ensures.bytes

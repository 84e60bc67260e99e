use Rattle.std.proofs.Common.{◌≡◌, ◌-◌, ◌++◌, length, take, drop, ap, ◌∙◌, arith}
use Rattle.object_store.specs.Extents.{flat, cut}
use Rattle.object_store.proofs.Flats.{length-flat-take, length-flat-drop, cut-after, cut-before}
use Rattle.object_store.proofs.extents.copy_out.Goals as goal

pub past-count-requires : goal.past-count-requires
past-count-requires c =
    omega (arith, ap (λ l. length (flat l)) c.split_at.ensures.back, length-flat-drop c.args.parts.now c.before-kept.result.0, c.requires.small)

pub copy_cut-requires-clause-small : goal.copy_cut-requires-clause-small
copy_cut-requires-clause-small c =
    omega (arith, ap (λ l. length (flat l)) c.split_at-2.ensures.front, length-flat-take c.split_at.result.1.now c.past-count.result.0, ap (λ l. length (flat l)) c.split_at.ensures.back, length-flat-drop c.args.parts.now c.before-kept.result.0, c.requires.small)

pub returns : goal.returns
returns c =
    let xs = c.args.parts.now in
    let k = c.before-kept.result.0 in
    let start = c.before-kept.result.1 in
    let n = c.past-count.result.0 in
    let from = c.args.from in
    let to = c.args.to in
    let b = c.split_at.ensures.back in
    let same : cut (from - start) (to - start) (flat c.split_at-2.result.0.now) ≡ cut from to (flat xs) =
    ap (λ l. cut (from - start) (to - start) (flat l)) (c.split_at-2.ensures.front ∙ ap (take n) b)
    ∙ cut-before (drop k xs) n (from - start) (to - start) (omega (arith, c.requires.order)) (omega (arith, c.past-count.ensures.1, c.past-count.ensures.2, ap (λ l. length (flat l)) b, ap (λ l. length (flat (take n l))) b))
    ∙ cut-after xs k from to start c.before-kept.ensures.place.1 c.before-kept.ensures.place.2 c.requires.order in
    record {
      count = c.copy_cut.ensures.count ∙ ap length same;
      bytes = c.copy_cut.ensures.bytes ∙ ap (λ l. l ++ drop c.copy_cut.result c.args.out.now) same;
    }

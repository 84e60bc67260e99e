use Rattle.std.proofs.Common.{◌≡◌, ◌-◌, min, ◌++◌, length, take, drop, get_or, ap, sym, ◌∙◌, append_assoc, arith}
use Rattle.std.proofs.lemmas.Grind.{common_steps}
use Rattle.object_store.specs.Extents.{flat, cut}
use Rattle.object_store.proofs.Flats.{flat-more, length-flat-more, flat-more-fits, cut-append, cut-min}
use Rattle.object_store.proofs.extents.append.Goals as goal

pub overflow_add-start : goal.overflow_add-start
overflow_add-start c =
    let x = c.part-item.result in
    let b = (get_or c.args.parts.now c.loop-part.part-index x) in
    let v : c.bytes-bytes.result.now ≡ b = c.bytes-bytes.ensures.value ∙ c.part-item.is in
    let n : length c.bytes-bytes.result.now ≡ length b = ap length v in
    let f = flat-more-fits c.args.parts.now c.loop-part.part-index x c.loop-part-test.true in
    omega (arith, n, f, c.requires.small, c.loop-part.invariant.place)

pub loop-part-preserved : goal.loop-part-preserved
loop-part-preserved c =
    let x = c.part-item.result in
    let i = c.loop-part.part-index in
    let from = c.args.from in
    let to = c.args.to in
    let b = (get_or c.args.parts.now i x) in
    let f = flat (take i c.args.parts.now) in
    let o = c.args.out.now.items in
    let v : c.bytes-bytes.result.now ≡ b = c.bytes-bytes.ensures.value ∙ c.part-item.is in
    let n : length c.bytes-bytes.result.now ≡ length b = ap length v in
    let low : c.min-low.result ≡ min (from - length f) (length b) = c.min-low.ensures ∙ ap (λ k. min k (length c.bytes-bytes.result.now)) (c.saturating_sub.ensures ∙ ap (λ k. from - k) c.loop-part.invariant.place) ∙ ap (min (from - length f)) n in
    let high : c.min-high.result ≡ min (to - length f) (length b) = c.min-high.ensures ∙ ap (λ k. min k (length c.bytes-bytes.result.now)) (c.saturating_sub-in-loop-part.ensures ∙ ap (λ k. to - k) c.loop-part.invariant.place) ∙ ap (min (to - length f)) n in
    let same : take (c.min-high.result - c.min-low.result) (drop c.min-low.result c.bytes-bytes.result.now) ≡ cut (from - length f) (to - length f) b =
    ap (λ l. take (c.min-high.result - c.min-low.result) (drop c.min-low.result l)) v
    ∙ ap (λ m. take (c.min-high.result - m) (drop m b)) low
    ∙ ap (λ m. take (m - min (from - length f) (length b)) (drop (min (from - length f) (length b)) b)) high
    ∙ cut-min (from - length f) (to - length f) b (omega (arith, c.requires.order)) in
    let m = flat-more c.args.parts.now i x c.loop-part-test.true in
    record {
      place = omega (arith, n, c.loop-part.invariant.place, length-flat-more c.args.parts.now i x c.loop-part-test.true);
      bytes =
          c.in_ok-extend_from_slice.ensures.items
          ∙ ap (λ l. l ++ take (c.min-high.result - c.min-low.result) (drop c.min-low.result c.bytes-bytes.result.now)) c.loop-part.invariant.bytes
          ∙ append_assoc o (cut from to f) _
          ∙ ap (λ l. o ++ (cut from to f ++ l)) same
          ∙ ap (λ l. o ++ l) (sym (cut-append from to f b c.requires.order))
          ∙ ap (λ l. o ++ cut from to l) (sym m);
    }

pub returns : goal.returns
returns c = grind (arith, common_steps)

use Rattle.std.proofs.Common.{◌≡◌, ◌+◌, ◌-◌, min, ◌++◌, length, take, drop, get_or, ap, sym, ◌∙◌, arith, length-append, length-drop}
use Rattle.std.proofs.lemmas.Grind.{common_steps}
use Rattle.std.proofs.lemmas.List.{length-take}
use Rattle.object_store.specs.Extents.{flat, cut}
use Rattle.object_store.proofs.Flats.{flat-more, length-flat-more, flat-more-fits, cut-append, cut-min, length-cut, overlay_next}
use Rattle.object_store.proofs.extents.copy_cut.Goals as goal

pub overlay-requires : goal.overlay-requires
overlay-requires c =
    let x = c.part-item.result in
    let i = c.loop-part.part-index in
    let from = c.args.from in
    let to = c.args.to in
    let b = (get_or c.args.parts.now i x) in
    let f = flat (take i c.args.parts.now) in
    let v : c.bytes-bytes.result.now ≡ b = c.bytes-bytes.ensures.value ∙ c.part-item.is in
    let n : length c.bytes-bytes.result.now ≡ length b = ap length v in
    let low : c.min-low.result ≡ min (from - length f) (length b) = c.min-low.ensures ∙ ap (λ k. min k (length c.bytes-bytes.result.now)) (c.saturating_sub.ensures ∙ ap (λ k. from - k) c.loop-part.invariant.place) ∙ ap (min (from - length f)) n in
    let high : c.min-high.result ≡ min (to - length f) (length b) = c.min-high.ensures ∙ ap (λ k. min k (length c.bytes-bytes.result.now)) (c.saturating_sub-in-loop-part.ensures ∙ ap (λ k. to - k) c.loop-part.invariant.place) ∙ ap (min (to - length f)) n in
    let chunk = take (c.min-high.result - c.min-low.result) (drop c.min-low.result c.bytes-bytes.result.now) in
    let same : chunk ≡ cut (from - length f) (to - length f) b =
    ap (λ l. take (c.min-high.result - c.min-low.result) (drop c.min-low.result l)) v
    ∙ ap (λ m. take (c.min-high.result - m) (drop m b)) low
    ∙ ap (λ m. take (m - min (from - length f) (length b)) (drop (min (from - length f) (length b)) b)) high
    ∙ cut-min (from - length f) (to - length f) b (omega (arith, c.requires.order)) in
    let m = flat-more c.args.parts.now i x c.loop-part-test.true in
    let whole : cut from to f ++ chunk ≡ cut from to (flat (take (i + 1) c.args.parts.now)) =
    ap (λ l. cut from to f ++ l) same ∙ sym (cut-append from to f b c.requires.order) ∙ ap (cut from to) (sym m) in
    let size : length chunk ≡ c.min-high.result - c.min-low.result =
    omega (arith, length-take (c.min-high.result - c.min-low.result) (drop c.min-low.result c.bytes-bytes.result.now), length-drop c.min-low.result c.bytes-bytes.result.now, n, high) in
    let total : c.loop-part.done + length chunk ≡ length (cut from to (flat (take (i + 1) c.args.parts.now))) =
    ap (λ k. k + length chunk) c.loop-part.invariant.count ∙ sym (length-append (cut from to f) chunk) ∙ ap length whole in
    let room : length c.loop-part.out ≡ length (cut from to f) + (length c.args.out.now - c.loop-part.done) =
    ap length c.loop-part.invariant.bytes ∙ length-append (cut from to f) (drop c.loop-part.done c.args.out.now) ∙ ap (λ k. length (cut from to f) + k) (length-drop c.loop-part.done c.args.out.now) in
    omega (arith, room, total, length-cut from to (flat (take (i + 1) c.args.parts.now)), c.requires.room, c.loop-part.invariant.count)

pub overflow_add-start : goal.overflow_add-start
overflow_add-start c =
    let x = c.part-item.result in
    let b = (get_or c.args.parts.now c.loop-part.part-index x) in
    let v : c.bytes-bytes.result.now ≡ b = c.bytes-bytes.ensures.value ∙ c.part-item.is in
    let n : length c.bytes-bytes.result.now ≡ length b = ap length v in
    let f = flat-more-fits c.args.parts.now c.loop-part.part-index x c.loop-part-test.true in
    omega (arith, n, f, c.requires.small, c.loop-part.invariant.place)

pub loop-part-preserved : goal.loop-part-preserved
loop-part-preserved c =
    let x = c.part-item.result in
    let i = c.loop-part.part-index in
    let from = c.args.from in
    let to = c.args.to in
    let b = (get_or c.args.parts.now i x) in
    let f = flat (take i c.args.parts.now) in
    let v : c.bytes-bytes.result.now ≡ b = c.bytes-bytes.ensures.value ∙ c.part-item.is in
    let n : length c.bytes-bytes.result.now ≡ length b = ap length v in
    let low : c.min-low.result ≡ min (from - length f) (length b) = c.min-low.ensures ∙ ap (λ k. min k (length c.bytes-bytes.result.now)) (c.saturating_sub.ensures ∙ ap (λ k. from - k) c.loop-part.invariant.place) ∙ ap (min (from - length f)) n in
    let high : c.min-high.result ≡ min (to - length f) (length b) = c.min-high.ensures ∙ ap (λ k. min k (length c.bytes-bytes.result.now)) (c.saturating_sub-in-loop-part.ensures ∙ ap (λ k. to - k) c.loop-part.invariant.place) ∙ ap (min (to - length f)) n in
    let chunk = take (c.min-high.result - c.min-low.result) (drop c.min-low.result c.bytes-bytes.result.now) in
    let same : chunk ≡ cut (from - length f) (to - length f) b =
    ap (λ l. take (c.min-high.result - c.min-low.result) (drop c.min-low.result l)) v
    ∙ ap (λ m. take (c.min-high.result - m) (drop m b)) low
    ∙ ap (λ m. take (m - min (from - length f) (length b)) (drop (min (from - length f) (length b)) b)) high
    ∙ cut-min (from - length f) (to - length f) b (omega (arith, c.requires.order)) in
    let m = flat-more c.args.parts.now i x c.loop-part-test.true in
    let whole : cut from to f ++ chunk ≡ cut from to (flat (take (i + 1) c.args.parts.now)) =
    ap (λ l. cut from to f ++ l) same ∙ sym (cut-append from to f b c.requires.order) ∙ ap (cut from to) (sym m) in
    let size : length chunk ≡ c.min-high.result - c.min-low.result =
    omega (arith, length-take (c.min-high.result - c.min-low.result) (drop c.min-low.result c.bytes-bytes.result.now), length-drop c.min-low.result c.bytes-bytes.result.now, n, high) in
    let total : c.loop-part.done + length chunk ≡ length (cut from to (flat (take (i + 1) c.args.parts.now))) =
    ap (λ k. k + length chunk) c.loop-part.invariant.count ∙ sym (length-append (cut from to f) chunk) ∙ ap length whole in
    record {
      place = omega (arith, n, c.loop-part.invariant.place, length-flat-more c.args.parts.now i x c.loop-part-test.true);
      count = ap (λ k. c.loop-part.done + k) (sym size) ∙ total;
      bytes =
          c.overlay.ensures
          ∙ ap (λ l. take c.loop-part.done l ++ chunk ++ drop (c.loop-part.done + length chunk) l) c.loop-part.invariant.bytes
          ∙ overlay_next (cut from to f) chunk c.args.out.now c.loop-part.done c.loop-part.invariant.count
          ∙ ap (λ l. l ++ drop (c.loop-part.done + length chunk) c.args.out.now) whole
          ∙ ap (λ k. cut from to (flat (take (i + 1) c.args.parts.now)) ++ drop (c.loop-part.done + k) c.args.out.now) size;
    }

pub returns-clause-bytes : goal.returns-clause-bytes
returns-clause-bytes c = grind (arith, common_steps)

pub overflow_add-done : goal.overflow_add-done
overflow_add-done c = grind (arith, common_steps)

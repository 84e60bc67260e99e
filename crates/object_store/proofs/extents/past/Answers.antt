use Rattle.std.proofs.Common.{◌≡◌, length, get_or, ap, ◌∙◌, arith}
use Rattle.object_store.proofs.Flats.{length-flat-more, flat-more-fits}
use Rattle.object_store.proofs.extents.past.Goals as goal

pub overflow_add-start : goal.overflow_add-start
overflow_add-start c =
    let x = c.index-parts-i.result in
    let n : length c.bytes-bytes.result.now ≡ length (get_or c.args.parts.now c.loop-i.i x) = ap length (c.bytes-bytes.ensures.value ∙ c.index-parts-i.is) in
    let f = flat-more-fits c.args.parts.now c.loop-i.i x c.loop-i-test.true in
    omega (arith, n, f, c.requires, c.loop-i.invariant)

pub loop-i-preserved : goal.loop-i-preserved
loop-i-preserved c =
    let x = c.index-parts-i.result in
    let n : length c.bytes-bytes.result.now ≡ length (get_or c.args.parts.now c.loop-i.i x) = ap length (c.bytes-bytes.ensures.value ∙ c.index-parts-i.is) in
    let f = length-flat-more c.args.parts.now c.loop-i.i x c.loop-i-test.true in
    omega (arith, n, f, c.loop-i.invariant)

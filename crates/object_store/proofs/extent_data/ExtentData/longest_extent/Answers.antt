use Rattle.std.proofs.Common.{◌≡◌, length, take, get_or, ap, ◌∙◌, arith}
use Rattle.std.proofs.lemmas.List.{length-take}
use Rattle.object_store.proofs.Flats.{length-flat-more}
use Rattle.object_store.proofs.Packs.{full-take, length-flat-full}
use Rattle.object_store.proofs.extent_data.ExtentData.longest_extent.Goals as goal

pub loop-part-preserved : goal.loop-part-preserved
loop-part-preserved c =
    let xs = c.parts-parts.result.now in
    let x = c.part-item.result in
    let i = c.loop-part.part-index in
    let n : length c.bytes-bytes.result.now ≡ length (get_or xs i x) = ap length (c.bytes-bytes.ensures.value ∙ c.part-item.is) in
    let m = length-flat-more xs i x c.loop-part-test.true in
    let full = length-flat-full (take i xs) (full-take xs i c.parts-parts.ensures.packed c.loop-part-test.true) in
    omega (arith, n, m, full, length-take i xs, ap length c.part-item.is, c.bytes-bytes.ensures.within, c.loop-part.invariant)

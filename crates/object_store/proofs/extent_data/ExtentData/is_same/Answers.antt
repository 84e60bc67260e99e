use Rattle.std.proofs.Common.{ap, sym, ◌∙◌}
use Rattle.object_store.specs.Extents.{flat}
use Rattle.object_store.proofs.Packs.{packed-one}
use Rattle.object_store.proofs.extent_data.ExtentData.is_same.Goals as goal

pub returns : goal.returns
returns c =
    let one = c.parts.ensures in
    let other = c.parts-2.ensures in (
      λ t. sym one.bytes ∙ ap flat (c.are_same.ensures.0 t) ∙ other.bytes,
      λ e. c.are_same.ensures.1 (packed-one c.parts.result.now c.parts-2.result.now one.packed other.packed (one.bytes ∙ e ∙ sym other.bytes)),
    )

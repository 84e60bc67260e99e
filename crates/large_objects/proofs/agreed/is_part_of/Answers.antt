use Rattle.std.proofs.Common.{◌∙◌, Some, subst, sym}
use Rattle.part_bytes.specs.Part.{PlainPart}
use Rattle.part_bytes.specs.View.{part_view}
use Rattle.parts.specs.Agreed.{AgreesPart}
use Rattle.large_objects.proofs.agreed.is_part_of.Goals as goal

pub returns-in-Ok-Some : goal.returns-in-Ok-Some
returns-in-Ok-Some c h p s =
    let found = rw c.in-Ok-Some.field-0-is at c.in-Ok-Some.ensures.found in
    subst (λ (x : PlainPart). AgreesPart x (Some c.args.object.now)) (c.one_part.ensures (part_view (Some c.in-Ok-Some.known)) p found.part s.part (found.spelled ∙ sym s.spelled)) (c.agrees.ensures h)

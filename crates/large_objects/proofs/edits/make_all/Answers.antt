use Rattle.std.proofs.Common.{inl, inr, sym}
use Rattle.part_bytes.proofs.Held.{is_empty}
use Rattle.edit_bytes.proofs.Spelled.{edit_shorter, is_some}
use Rattle.large_objects.proofs.Spelled.{is_made, made_next, none_next, refused_next}
use Rattle.large_objects.proofs.edits.make_all.Goals as goal

pub returns-in_default-clause-refused : goal.returns-in_default-clause-refused
returns-in_default-clause-refused c = inr (none_next _ _ _ _ (is_some _ c.loop-rest-test.ensures) c.loop-rest.invariant c.in_default.ensures)

pub returns-in-Err-clause-refused : goal.returns-in-Err-clause-refused
returns-in-Err-clause-refused c =
    elim c.in-Err.ensures [
      | inl memory ↦ inl memory
      | inr refused ↦ inr (refused_next _ _ _ _ (is_some _ c.loop-rest-test.ensures) c.loop-rest.invariant _ _ c.in-Some.ensures _ refused)
    ]

pub loop-rest-preserved : goal.loop-rest-preserved
loop-rest-preserved c = made_next _ _ _ _ (is_some _ c.loop-rest-test.ensures) c.loop-rest.invariant _ _ c.in-Some.ensures _ c.in-Ok.ensures

pub loop-rest-smaller : goal.loop-rest-smaller
loop-rest-smaller c = edit_shorter _ _ _ c.in-Some.ensures

pub returns-clause-made : goal.returns-clause-made
returns-clause-made c = is_made _ _ _ _ (is_empty _ (sym c.loop-rest-test.ensures)) c.loop-rest.invariant

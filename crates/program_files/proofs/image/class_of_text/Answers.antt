use Rattle.std.proofs.Common.{inl, inr}
use Rattle.program_files.proofs.Refused.{text_refused}
use Rattle.program_files.proofs.image.class_of_text.Goals as goal

pub returns-in-Err-clause-fails : goal.returns-in-Err-clause-fails
returns-in-Err-clause-fails c =
    elim (text_refused _ c.in-Err.error c.in-Err.ensures.refused c.in-Err.ensures.only) [
      | inl lack ↦ inl lack
      | inr fault ↦ inr (c.requires, fault)
    ]

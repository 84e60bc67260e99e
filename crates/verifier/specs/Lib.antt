-- To be believed: RuleNumber (numbers, names, texts), Kind and Frame (what the rules ask of what is
-- known; what is known and how it flows stands in abstract_regs), Facets (what an instruction
-- does), Rules (which rule refuses what), Answers (the number that a call leaves), Verdict (the
-- table of frames, the verdict), Verified (what callers are told). The steps of the code, in
-- private contracts alone: inner.
pub mod RuleNumber
pub mod Kind
pub mod Frame
pub mod Facets
pub mod Rules
pub mod Answers
pub mod Verdict
pub mod Verified
pub mod inner

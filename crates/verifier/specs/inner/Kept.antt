-- The code's own; no promise of the crate rests on it.
-- A step of the code: the frames that are kept, out of their boxes.
use Rattle.std.specs.Prelude.{List, [], ◌∷◌, Option, Some, None, Box}
use Rattle.abstract_regs.specs.Frame.{PlainFrame}
use Rattle.verifier.specs.Verdict.{Table}

abbrev pub unbox : {A : Type 0} → Option (Box PlainFrame A) → Option PlainFrame
unbox None = None
unbox (Some frame) = Some frame.value

abbrev pub unboxed : {A : Type 0} → List (Option (Box PlainFrame A)) → Table
unboxed [] = []
unboxed (frame ∷ rest) = unbox frame ∷ unboxed rest

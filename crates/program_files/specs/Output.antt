-- The knowledge of a printer, and the text that a failed print left.
use Rattle.std.specs.Prelude.{ℕ, List, Option, Bool, take}
use Rattle.std.specs.Io.KnownBytes.{Appends}
use Rattle.program_files.specs.declared.output.Printer.{Printer}

-- what a printer writes to
abbrev pub writer_of : {W : Type 0} → Printer W → W
writer_of p = p.writer

-- a write or a flush failed
abbrev pub has_failed : {W : Type 0} → Printer W → Bool
has_failed p = p.failed

-- If the printed text was known, it grew by a beginning of that text.
pub record Begins (old new : Option (List ℕ)) (text : List ℕ) : Type 0 where
  pub count : ℕ
  pub grew : Appends old new (take count text)

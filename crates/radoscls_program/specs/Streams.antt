-- Standard output.
use Rattle.std.specs.Prelude.{◌≡◌, ◌⊎◌, ◌++◌, ℕ, List, Option, Bool, true, codes}
use Rattle.std.specs.Io.KnownBytes.{Appends}
use Rattle.program_files.specs.Failure.{failure_text}
use Rattle.class_tool.specs.Note.{IsNote}
use Rattle.program_files.specs.Output.{Begins}
use Rattle.program_files.specs.declared.failure.Failure.{Failure}

-- The text that was printed on it, and whether a write or a flush of it failed.
pub record Stream : Type 0 where
  pub printed : Option (List ℕ)
  pub failed : Bool

-- by what is known of an output
abbrev pub stream : {O : Type 0} → (O → Option (List ℕ)) → (O → Bool) → O → Stream
stream printed failed out = record { printed = printed out; failed = failed out }

-- the printed text grew by that text, and no write or flush failed
pub record Took (old new : Stream) (text : List ℕ) : Type 0 where
  pub grew : Appends old.printed new.printed text
  pub well : new.failed ≡ old.failed

-- the printed text grew by a beginning of that text, and a write or a flush failed
pub record Lost (old new : Stream) (text : List ℕ) : Type 0 where
  pub begun : Begins old.printed new.printed text
  pub failed : new.failed ≡ true

-- a text was printed; or a beginning of it was printed, and a write or a flush failed
abbrev pub IsPrinted : Stream → Stream → List ℕ → Type 0
IsPrinted old new text = Took old new text ⊎ Lost old new text

-- a failure's line
abbrev pub failure_line : Failure → List ℕ
failure_line failure = failure_text failure ++ codes "\n"

-- A failure's line was printed, and a note below it, if one is asked for.
pub record IsTold (old new : Stream) (failure : Failure) (is_explained : Bool) : Type 0 where
  pub note : List ℕ
  pub noted : IsNote is_explained note
  pub printed : IsPrinted old new (failure_line failure ++ note)

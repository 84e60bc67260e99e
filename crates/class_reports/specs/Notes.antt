-- What stands below the line of a failure, and lines that begin with a file's name.
use Rattle.std.specs.Prelude.{◌≡◌, ◌&&◌, ◌||◌, ℕ, Bool, true, false, List, ◌++◌, codes, if◌then◌else◌}
use Rattle.std.specs.List.{flat_map}
use Rattle.program_files.specs.Failure.{failure_text}
use Rattle.class_tool.specs.Note.{IsNote}
use Rattle.program_files.specs.declared.failure.Failure.{Failure}
use Rattle.program_files.specs.declared.failure.Failure.TheVariants as failed
use Rattle.file_words.specs.Words.{ended_lines_of}
use Rattle.class_reports.specs.declared.notes.Notes.{Notes}

-- a failure is a wrong line of a text
abbrev pub is_of_text : Failure → Bool
is_of_text (failed.Text error) = true
is_of_text why = false

-- a note is asked for below a failure's line
abbrev pub is_noted : Notes → Failure → Bool
is_noted notes failure = notes.is_explained || (notes.is_each_line && is_of_text failure)

-- a failure's line, and a note below it, if one is asked for
abbrev pub IsFailureText : Notes → Failure → List ℕ → Type 0
IsFailureText notes failure text =
    (note : List ℕ) × IsNote (is_noted notes failure) note × (text ≡ failure_text failure ++ codes "\n" ++ note)

-- a line after that name
abbrev pub named_line : List ℕ → List ℕ → List ℕ
named_line name line = name ++ codes ": " ++ line ++ codes "\n"

-- the lines of a text, each after that name
abbrev pub named_text : List ℕ → List ℕ → List ℕ
named_text name text = flat_map (named_line name) (ended_lines_of text)

-- a text, or its lines after that name
abbrev pub told_text : Bool → List ℕ → List ℕ → List ℕ
told_text is_named name text = if is_named then named_text name text else text

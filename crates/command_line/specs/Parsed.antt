-- What is read of words.
use Rattle.std.specs.Prelude.{◌≡◌, ℕ, Bool, false, List, [], Option, Some, None, codes}
use Rattle.std.specs.Option.{unwrap_or}
use Rattle.std.specs.Str.{bytes_eq}
use Rattle.clap.specs.Words.{Row, all_of, fault_of, first_of, found_of, kind_of, rows_of, subcommand_of}
use Rattle.clap.specs.declared.error.kind.ErrorKind.TheVariants.{OutOfMemory}
use Rattle.command_line.specs.CommandLine.{command_line}
use Rattle.command_line.specs.declared.parsed.ParsedWords.{ParsedWords}
use Rattle.command_line.specs.declared.unparsed.Unparsed.{Unparsed}

-- a word, or a value, as bytes
abbrev pub Text : Type 0
Text = List ℕ

-- the subcommand that words name, and the values of its arguments
pub record Parsed : Type 0 where
  pub name : Text
  pub rows : List Row

-- the first text of an argument, by its id
abbrev pub one_in : Parsed → Text → Option Text
one_in p id = first_of id p.rows

-- all its texts
abbrev pub texts_of : Option (List Text) → List Text
texts_of texts = unwrap_or texts []

-- all texts of an argument, by its id
abbrev pub all_in : Parsed → Text → List Text
all_in p id = texts_of (all_of id p.rows)

-- a flag is there, by its text
abbrev pub is_set : Option Text → Bool
is_set None = false
is_set (Some text) = bytes_eq text (codes "true")

-- a flag is there, by its id
abbrev pub is_set_in : Parsed → Text → Bool
is_set_in p id = is_set (one_in p id)

-- The words have no fault, and that is read of them.
pub record IsParse (words : List Text) (p : Parsed) : Type 0 where
  pub faultless : fault_of command_line words ≡ []
  pub entered : subcommand_of command_line words ≡ Some (p.name, p.rows)

-- The words have a fault, or name no subcommand.
abbrev pub IsNoParse : List Text → Type 0
IsNoParse words = (p : Parsed) → IsParse words p → ⊥

-- how contracts see what was parsed
abbrev pub parsed_of : ParsedWords → Parsed
parsed_of p = record { name = p.name.now; rows = rows_of (found_of p.values) }

-- memory was refused
abbrev pub IsMemory : Unparsed → Type 0
IsMemory u = kind_of u.error ≡ OutOfMemory

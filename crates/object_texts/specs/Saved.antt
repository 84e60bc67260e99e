-- An object as a text: its lines, as `--show` prints them, and none for an absent object.
use Rattle.std.specs.Prelude.{◌≡◌, ◌⊎◌, ℕ, ◌+◌, ◌==◌, true, List, [], ◌∷◌, Option, Some, None, Result, Ok, Err, codes}
use Rattle.std.specs.Prelude.{length, if◌then◌else◌}
use Rattle.std.specs.Borrow.{Bor}
use Rattle.std.specs.Str.{bytes_eq}
use Rattle.file_words.specs.Words.{ended_lines_of, words}
use Rattle.object_store.specs.Object.{Content, PlainObject}
use Rattle.program_files.specs.Files.{FailsToWrite, Storage, Writes}
use Rattle.object_texts.specs.Given.{and_then, with_data, with_words}
use Rattle.object_texts.specs.Shown.{shown_text}
use Rattle.object_texts.specs.declared.given.Part.{Part}
use Rattle.object_texts.specs.declared.given.Part.TheVariants.{Xattrs, Keys}
use Rattle.program_files.specs.declared.failure.Failure.{Failure}
use Rattle.program_files.specs.declared.failure.Failure.TheVariants.{CannotWrite, NoMemory, ObjectLine, ObjectNotHex}

-- `-` means no digits
abbrev pub digits_of : List ℕ → List ℕ
digits_of word = if bytes_eq word (codes "-") then [] else word

-- the first line has the data
abbrev pub of_data : List (List ℕ) → Result Content Failure
of_data (word ∷ value ∷ []) = if bytes_eq word (codes "data") then with_data (digits_of value) else Err ObjectNotHex
of_data words = Err ObjectNotHex

-- each further line has an xattr or a key, in any order; if a name repeats, its last line counts
abbrev pub part_named : List ℕ → Option Part
part_named word =
    if bytes_eq word (codes "xattr") then Some Xattrs else if bytes_eq word (codes "key") then Some Keys else None

-- what a further line's words make of an object: by the value, by the name, by the first word:
abbrev pub of_value : Part → Content → List ℕ → List (List ℕ) → Result Content Failure
of_value part content name [] = Err ObjectNotHex
of_value part content name (value ∷ more) =
    if length more == 0 then with_words part content name (digits_of value) else Err ObjectNotHex

abbrev pub of_name : Part → Content → List (List ℕ) → Result Content Failure
of_name part content [] = Err ObjectNotHex
of_name part content (name ∷ words) = of_value part content name words

abbrev pub of_part : Option Part → Content → List (List ℕ) → Result Content Failure
of_part None content words = Err ObjectNotHex
of_part (Some part) content words = of_name part content words

abbrev pub of_entry : Content → List (List ℕ) → Result Content Failure
of_entry content [] = Err ObjectNotHex
of_entry content (word ∷ words) = of_part (part_named word) content words

-- of the first line, and of a further one
abbrev pub of_words : PlainObject → List (List ℕ) → Result Content Failure
of_words None words = of_data words
of_words (Some content) words = of_entry content words

-- a line that spells neither, or that makes the object too large, is refused by its number
abbrev pub at_line : ℕ → Result Content Failure → Result Content Failure
at_line number (Ok content) = Ok content
at_line number (Err e) = Err (ObjectLine number)

-- of all lines, the first of which has that number
abbrev pub of_lines : ℕ → PlainObject → List (List ℕ) → Result PlainObject Failure
of_lines number object [] = Ok object
of_lines number object (line ∷ lines) =
    and_then (at_line number (of_words object (words line))) (λ content. of_lines (number + 1) (Some content) lines)

-- an empty text has no line
abbrev pub lines_in : List ℕ → List (List ℕ)
lines_in [] = []
lines_in (b ∷ bs) = ended_lines_of (b ∷ bs)

-- the object that a text spells, or the first line that spells none
abbrev pub spelled_object : List ℕ → Result PlainObject Failure
spelled_object text = of_lines 1 None (lines_in text)

-- The file holds the object's text, which is read back as the same object; every other file is as
-- it was.
pub record IsSaved (before after : Storage) (name : List ℕ) (object : PlainObject) : Type 0 where
  pub same : spelled_object (shown_text true object) ≡ Ok object
  pub writes : Writes before after name (shown_text true object)

-- the object is saved if a file is named for it
abbrev pub Saves : Storage → Storage → Option (Bor (List ℕ)) → PlainObject → Type 0
Saves before after None object = after ≡ before
Saves before after (Some file) object = IsSaved before after file.now object

-- why it is not saved: memory was refused, or the text would be read back as another object, and no
-- file changed; or the write failed
abbrev pub IsUnwritten : Storage → Storage → List ℕ → PlainObject → Failure → Type 0
IsUnwritten before after name object failure =
    ((failure ≡ NoMemory) × (after ≡ before))
    ⊎ ((failure ≡ CannotWrite) × (after ≡ before) × (spelled_object (shown_text true object) ≡ Ok object → ⊥))
    ⊎ ((failure ≡ CannotWrite) × FailsToWrite before after name)

-- nothing is to be saved if no file is named
abbrev pub SaveFails : Storage → Storage → Option (Bor (List ℕ)) → PlainObject → Failure → Type 0
SaveFails before after None object failure = ⊥
SaveFails before after (Some file) object failure = IsUnwritten before after file.now object failure

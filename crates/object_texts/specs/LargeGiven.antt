-- The object that a call by an OSD's limits begins with, as words and a text spell it.
use Rattle.std.specs.Prelude.{◌≡◌, ◌⊎◌, ℕ, ◌+◌, true, List, [], ◌∷◌, Option, Some, None, Result, Ok, Err, codes}
use Rattle.std.specs.Prelude.{if◌then◌else◌}
use Rattle.std.specs.Borrow.{Bor}
use Rattle.std.specs.Prelude.{option_map}
use Rattle.std.specs.Str.{bytes_eq}
use Rattle.file_words.specs.Words.{words}
use Rattle.large_objects.specs.Large.{after}
use Rattle.object_store.specs.Object.{PlainObject}
use Rattle.object_store.specs.declared.store_error.StoreError.{StoreError}
use Rattle.txn.specs.Edits.{Edit, SetXattr, SetKey, Write}
use Rattle.program_files.specs.Assembly.{TextFails}
use Rattle.program_files.specs.Files.{Disk, FailsToWrite, Holds, Storage, Writes}
use Rattle.object_texts.specs.Given.{and_then, bytes_in, name_in}
use Rattle.object_texts.specs.Saved.{digits_of, lines_in, part_named}
use Rattle.object_texts.specs.Shown.{shown_text}
use Rattle.object_texts.specs.declared.method_call.MethodCall.{MethodCall}
use Rattle.object_texts.specs.declared.method_call.SpelledEntry.{SpelledEntry}
use Rattle.object_texts.specs.declared.large_given.LineEntry.{LineEntry}
use Rattle.object_texts.specs.declared.given.Part.{Part}
use Rattle.object_texts.specs.declared.given.Part.TheVariants.{Xattrs, Keys}
use Rattle.program_files.specs.declared.failure.Failure.{Failure}
use Rattle.program_files.specs.declared.failure.Failure.TheVariants.{CannotWrite, NoMemory, Object, ObjectLine}
use Rattle.program_files.specs.declared.failure.Failure.TheVariants.{ObjectNotHex}

-- what a change came to
abbrev pub of_store : Result PlainObject StoreError → Result PlainObject Failure
of_store (Ok o) = Ok o
of_store (Err e) = Err (Object e)

-- the edit that sets an xattr, or a key
abbrev pub set_edit : Part → List ℕ → List ℕ → Edit
set_edit Xattrs name value = SetXattr name value
set_edit Keys name value = SetKey name value

-- an object after one is set, by words; and one of that data
abbrev pub large_words : Part → PlainObject → List ℕ → List ℕ → Result PlainObject Failure
large_words part o name value =
    and_then (name_in name) (λ n. and_then (bytes_in value) (λ v. of_store (after (set_edit part n v) o)))

abbrev pub large_data : List ℕ → Result PlainObject Failure
large_data text = and_then (bytes_in text) (λ bytes. of_store (after (Write 0 bytes) None))

-- after several are set, one after the other
abbrev pub large_entries : Part → PlainObject → List SpelledEntry → Result PlainObject Failure
large_entries part o [] = Ok o
large_entries part o (entry ∷ entries) =
    and_then (large_words part o entry.name.now entry.value.now) (λ more. large_entries part more entries)

-- an object with that data, those xattrs and those keys; there is none without any
abbrev pub large_content : List ℕ → List SpelledEntry → List SpelledEntry → Result PlainObject Failure
large_content text xattrs keys =
    and_then (large_data text) (λ o. and_then (large_entries Xattrs o xattrs) (λ more. large_entries Keys more keys))

abbrev pub large_in : Option (Bor (List ℕ)) → List SpelledEntry → List SpelledEntry → Result PlainObject Failure
large_in (Some text) xattrs keys = large_content text.now xattrs keys
large_in None [] [] = Ok None
large_in None [] (key ∷ keys) = large_content [] [] (key ∷ keys)
large_in None (xattr ∷ xattrs) keys = large_content [] (xattr ∷ xattrs) keys

abbrev pub large_before : MethodCall → Result PlainObject Failure
large_before call = large_in call.data call.xattrs.items call.keys.items

-- ---- as a text

-- the digits of a first line, and the entry of a further one
abbrev pub data_in : List (List ℕ) → Option (List ℕ)
data_in (word ∷ value ∷ []) = if bytes_eq word (codes "data") then Some (digits_of value) else None
data_in words = None

abbrev pub entry_in : List (List ℕ) → Option (Part × List ℕ × List ℕ)
entry_in (word ∷ name ∷ value ∷ []) = option_map (λ part. (part, name, digits_of value)) (part_named word)
entry_in words = None

-- what was spelled, or a bad line
abbrev pub or_bad : {X : Type 0} → Option X → (X → Result PlainObject Failure) → Result PlainObject Failure
or_bad None next = Err ObjectNotHex
or_bad (Some x) next = next x

abbrev pub large_line : PlainObject → List (List ℕ) → Result PlainObject Failure
large_line None words = or_bad (data_in words) large_data
large_line (Some c) words = or_bad (entry_in words) (λ e. large_words e.0 (Some c) e.1 e.2)

-- a bad line is refused by its number
abbrev pub at_number : ℕ → Result PlainObject Failure → Result PlainObject Failure
at_number number (Ok o) = Ok o
at_number number (Err e) = Err (ObjectLine number)

abbrev pub large_lines : ℕ → PlainObject → List (List ℕ) → Result PlainObject Failure
large_lines number o [] = Ok o
large_lines number o (line ∷ lines) =
    and_then (at_number number (large_line o (words line))) (λ more. large_lines (number + 1) more lines)

-- the object that a text spells, or the first line that spells none
abbrev pub spelled_large : List ℕ → Result PlainObject Failure
spelled_large text = large_lines 1 None (lines_in text)

-- ---- from a file, or words

pub record IsLargeIn (disk : Option Disk) (name : List ℕ) (object : PlainObject) : Type 0 where
  pub text : List ℕ
  pub held : Holds disk name text
  pub spelled : spelled_large text ≡ Ok object

abbrev pub LargeBegins : Option (Bor (List ℕ)) → Option Disk → MethodCall → PlainObject → Type 0
LargeBegins None disk call object = large_before call ≡ Ok object
LargeBegins (Some file) disk call object = IsLargeIn disk file.now object

-- the file holds a text that has a bad line
pub record IsBadIn (disk : Option Disk) (name : List ℕ) (failure : Failure) : Type 0 where
  pub text : List ℕ
  pub held : Holds disk name text
  pub bad : spelled_large text ≡ Err failure

-- why there is no object
abbrev pub NoLargeBegins : Option (Bor (List ℕ)) → Option Disk → MethodCall → Failure → Type 0
NoLargeBegins None disk call failure = large_before call ≡ Err failure
NoLargeBegins (Some file) disk call failure = TextFails disk file.now failure ⊎ IsBadIn disk file.now failure

abbrev pub LargeBeginFails : Option Disk → MethodCall → Failure → Type 0
LargeBeginFails disk call failure = (failure ≡ NoMemory) ⊎ NoLargeBegins call.load disk call failure

-- ---- into a file

-- the file holds the object's text, which is read back as the same object
pub record IsLargeSaved (before after : Storage) (name : List ℕ) (object : PlainObject) : Type 0 where
  pub same : spelled_large (shown_text true object) ≡ Ok object
  pub writes : Writes before after name (shown_text true object)

abbrev pub LargeSaves : Storage → Storage → Option (Bor (List ℕ)) → PlainObject → Type 0
LargeSaves before after None object = after ≡ before
LargeSaves before after (Some file) object = IsLargeSaved before after file.now object

-- why it is not saved
abbrev pub IsLargeUnwritten : Storage → Storage → List ℕ → PlainObject → Failure → Type 0
IsLargeUnwritten before after name object failure =
    ((failure ≡ NoMemory) × (after ≡ before))
    ⊎ ((failure ≡ CannotWrite) × (after ≡ before) × (spelled_large (shown_text true object) ≡ Ok object → ⊥))
    ⊎ ((failure ≡ CannotWrite) × FailsToWrite before after name)

abbrev pub LargeSaveFails : Storage → Storage → Option (Bor (List ℕ)) → PlainObject → Failure → Type 0
LargeSaveFails before after None object failure = ⊥
LargeSaveFails before after (Some file) object failure = IsLargeUnwritten before after file.now object failure

-- what the code's entry of a line spells
abbrev pub texts_of : LineEntry → Part × List ℕ × List ℕ
texts_of e = (e.part, e.name.now, e.value.now)

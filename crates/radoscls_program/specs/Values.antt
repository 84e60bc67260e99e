-- The values of a call: the digits of a word, no bytes for `-`, or the bytes of the file after `@`;
-- its input may be bytes.
use Rattle.std.specs.Prelude.{◌≡◌, ◌⊎◌, ◌++◌, ⊤, ℕ, Bool, true, false, List, [], ◌∷◌, Option, Some, None, option_map}
use Rattle.std.specs.Prelude.{string_bytes, map}
use Rattle.std.specs.Borrow.{Bor}
use Rattle.hex.specs.Hex.{encode_lower}
use Rattle.program_files.specs.Files.{Disk, IsBeginning, IsUnreadable}
use Rattle.object_texts.specs.declared.method_call.MethodCall.{MethodCall}
use Rattle.object_texts.specs.declared.method_call.SpelledEntry.{SpelledEntry}
use Rattle.program_files.specs.declared.failure.Failure.{Failure}
use Rattle.program_files.specs.declared.failure.Failure.TheVariants.{CannotRead, NoMemory}
use Rattle.command_line.specs.Parsed.{Text}
use Rattle.radoscls_program.specs.Inputs.{file_of, is_input}
use Rattle.radoscls_program.specs.declared.task.GivenCall.{GivenCall}
use Rattle.radoscls_program.specs.declared.task.GivenInput.{GivenInput}
use Rattle.radoscls_program.specs.declared.task.GivenInput.TheVariants.{Value, Bytes}
use Rattle.radoscls_program.specs.declared.values.FilledCall.{FilledCall}
use Rattle.radoscls_program.specs.declared.values.FilledEntry.{FilledEntry}

-- the digits are those of the file's bytes; of a longer file, those of the first ones, more than any
-- value may have
pub record IsFileValue (disk : Option Disk) (most : ℕ) (file digits : Text) : Type 0 where
  pub bytes : List ℕ
  pub begun : IsBeginning disk file most bytes
  pub spelled : digits ≡ encode_lower bytes

-- of a text: `-` has no digits, `@` names a file, any other is the digits
abbrev pub IsValueBy : Bool → Option Text → Option Disk → ℕ → Text → Text → Type 0
IsValueBy true file disk most text digits = digits ≡ []
IsValueBy false (Some file) disk most text digits = IsFileValue disk most file digits
IsValueBy false None disk most text digits = digits ≡ text

-- the digits of a value
abbrev pub IsValue : Option Disk → ℕ → Text → Text → Type 0
IsValue disk most text digits = IsValueBy (is_input text) (file_of text) disk most text digits

-- more bytes than data may have, by an OSD's limits or not
abbrev pub data_read : Bool → ℕ
data_read true = 134217729
data_read false = 65537

-- the file of a value can't be read
pub record IsUnreadIn (disk : Option Disk) (text : Text) : Type 0 where
  pub file : Text
  pub named : file_of text ≡ Some file
  pub unread : IsUnreadable disk file

-- why there are none: memory was refused, or its file can't be read
abbrev pub ValueFails : Option Disk → Text → Failure → Type 0
ValueFails disk text failure = (failure ≡ NoMemory) ⊎ ((failure ≡ CannotRead) × IsUnreadIn disk text)

-- the digits of an input: those of a value, or of its bytes
abbrev pub IsInput : Option Disk → GivenInput → Text → Type 0
IsInput disk (Value text) digits = IsValue disk 65537 text.now digits
IsInput disk (Bytes bytes) digits = digits ≡ encode_lower bytes

-- why there are none
abbrev pub InputFails : Option Disk → GivenInput → Failure → Type 0
InputFails disk (Value text) failure = ValueFails disk text.now failure
InputFails disk (Bytes bytes) failure = failure ≡ NoMemory

-- a name and its value, as the words have them and with the digits read:
abbrev pub entry_texts : SpelledEntry → Text × Text
entry_texts e = (e.name.now, e.value.now)

abbrev pub filled_texts : FilledEntry → Text × Text
filled_texts f = (string_bytes f.name, string_bytes f.value)

-- names, and the digits of their values
abbrev pub AreValues : Option Disk → List (Text × Text) → List (Text × Text) → Type 0
AreValues disk [] [] = ⊤
AreValues disk [] (f ∷ fs) = ⊥
AreValues disk (e ∷ es) [] = ⊥
AreValues disk (e ∷ es) (f ∷ fs) = (f.0 ≡ e.0) × IsValue disk 65537 e.1 f.1 × AreValues disk es fs

-- the file of one of the values can't be read
pub record HasUnread (disk : Option Disk) (es : List (Text × Text)) : Type 0 where
  pub first : List (Text × Text)
  pub next : Text × Text
  pub rest : List (Text × Text)
  pub split : es ≡ first ++ next ∷ rest
  pub unread : IsUnreadIn disk next.1

-- of several values
abbrev pub EntriesFail : Option Disk → List (Text × Text) → Failure → Type 0
EntriesFail disk es failure = (failure ≡ NoMemory) ⊎ ((failure ≡ CannotRead) × HasUnread disk es)

-- a value that may be missing
abbrev pub IsMaybeValue : Option Disk → ℕ → Option Text → Option Text → Type 0
IsMaybeValue disk most None None = ⊤
IsMaybeValue disk most None (Some digits) = ⊥
IsMaybeValue disk most (Some text) None = ⊥
IsMaybeValue disk most (Some text) (Some digits) = IsValue disk most text digits

-- of a value that may be missing
abbrev pub MaybeFails : Option Disk → Option Text → Failure → Type 0
MaybeFails disk None failure = failure ≡ NoMemory
MaybeFails disk (Some text) failure = ValueFails disk text failure

-- the text of an argument that may be missing
abbrev pub text_in : Option (Bor (List ℕ)) → Option Text
text_in text = option_map (λ t. t.now) text

-- the values of a call in hexadecimal
pub record HasValues (disk : Option Disk) (call : GivenCall) (filled : FilledCall) : Type 0 where
  pub input : IsInput disk call.input (string_bytes filled.input)
  pub data_text : IsMaybeValue disk (data_read call.is_large) (text_in call.data) (option_map string_bytes filled.data)
  pub xattrs : AreValues disk (map entry_texts call.xattrs.items) (map filled_texts filled.xattrs.items)
  pub keys : AreValues disk (map entry_texts call.keys.items) (map filled_texts filled.keys.items)

-- The one call is the other with its values in hexadecimal.
pub record IsFilled (disk : Option Disk) (call : GivenCall) (filled : MethodCall) : Type 0 where
  pub image : filled.image.now ≡ call.image.now
  pub method : filled.method.now ≡ call.method.now
  pub input : IsInput disk call.input filled.input.now
  pub caller : filled.caller ≡ call.caller
  pub data_text : IsMaybeValue disk (data_read call.is_large) (text_in call.data) (text_in filled.data)
  pub xattrs : AreValues disk (map entry_texts call.xattrs.items) (map entry_texts filled.xattrs.items)
  pub keys : AreValues disk (map entry_texts call.keys.items) (map entry_texts filled.keys.items)
  pub load : text_in filled.load ≡ text_in call.load
  pub save : text_in filled.save ≡ text_in call.save
  pub shown : filled.is_shown ≡ call.is_shown
  pub traced : filled.is_traced ≡ call.is_traced

-- Memory was refused, or a value's file can't be read.
abbrev pub FillFails : Option Disk → GivenCall → Failure → Type 0
FillFails disk call failure =
    InputFails disk call.input failure ⊎ MaybeFails disk (text_in call.data) failure
    ⊎ EntriesFail disk (map entry_texts call.xattrs.items) failure ⊎
    EntriesFail disk (map entry_texts call.keys.items) failure

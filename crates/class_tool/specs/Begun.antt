-- The object that a call begins with: from the file that is named for it, or else from words.
use Rattle.std.specs.Prelude.{◌≡◌, ◌⊎◌, ℕ, List, Option, Some, None, Ok, Err}
use Rattle.std.specs.Borrow.{Bor}
use Rattle.object_store.specs.Object.{PlainObject}
use Rattle.program_files.specs.Assembly.{TextFails}
use Rattle.program_files.specs.Files.{Disk, Holds}
use Rattle.object_texts.specs.Given.{object_before}
use Rattle.object_texts.specs.Saved.{spelled_object}
use Rattle.object_texts.specs.declared.method_call.MethodCall.{MethodCall}
use Rattle.program_files.specs.declared.failure.Failure.{Failure}
use Rattle.program_files.specs.declared.failure.Failure.TheVariants.{NoMemory}

-- the file holds a text that spells the object
pub record IsSpelledIn (disk : Option Disk) (name : List ℕ) (object : PlainObject) : Type 0 where
  pub text : List ℕ
  pub held : Holds disk name text
  pub spelled : spelled_object text ≡ Ok object

-- the object is that of the file, or that of words if no file is named
abbrev pub BeginsBy : Option (Bor (List ℕ)) → Option Disk → MethodCall → PlainObject → Type 0
BeginsBy None disk call object = object_before call ≡ Ok object
BeginsBy (Some file) disk call object = IsSpelledIn disk file.now object

abbrev pub Begins : Option Disk → MethodCall → PlainObject → Type 0
Begins disk call object = BeginsBy call.load disk call object

-- the file holds a text that has a bad line
pub record IsMisspelledIn (disk : Option Disk) (name : List ℕ) (failure : Failure) : Type 0 where
  pub text : List ℕ
  pub held : Holds disk name text
  pub bad : spelled_object text ≡ Err failure

-- Why there is no object: memory was refused; the file can't be read, is no text, or a line of it
-- is bad; or words spell none.
abbrev pub NoneBegins : Option (Bor (List ℕ)) → Option Disk → MethodCall → Failure → Type 0
NoneBegins None disk call failure = object_before call ≡ Err failure
NoneBegins (Some file) disk call failure = TextFails disk file.now failure ⊎ IsMisspelledIn disk file.now failure

-- the same of a call
abbrev pub BeginFails : Option Disk → MethodCall → Failure → Type 0
BeginFails disk call failure = (failure ≡ NoMemory) ⊎ NoneBegins call.load disk call failure

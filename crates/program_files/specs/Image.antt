-- The class of a file, by its image or its text, and why it has none.
use Rattle.std.specs.Prelude.{◌≡◌, ◌⊎◌, ◌+◌, ◌<◌, ◌≤◌, ◌==◌, ◌&&◌, ◌||◌, nat_lt, ⊤, ℕ, Bool, false, List, Option, Some}
use Rattle.std.specs.Prelude.{None, Err, IsUtf8, length, slice_index, string_bytes, take}
use Rattle.std.specs.List.{AllByRecursion, list_any}
use Rattle.bpf_asm.specs.Classes.{AsmError}
use Rattle.loop_asm.specs.Classes.{SaysClass, read_class}
use Rattle.bpf_asm.specs.Fault.{no_memory}
use Rattle.bpf_decode.specs.Class.{ClassMethod, Class, IsImage}
use Rattle.bpf_decode.specs.ImageReading.{image_of}
use Rattle.bpf_decode.specs.declared.decode_error.DecodeError.TheVariants as decode
use Rattle.bpf_machine.specs.Safe.{IsSafe}
use Rattle.verifier.specs.Verdict.{class_verdict, out_of_memory}
use Rattle.verifier.specs.declared.refusal.Refusal.{Refusal}
use Rattle.program_files.specs.Files.{Disk, Holds, IsUnreadable}
use Rattle.program_files.specs.declared.failure.Failure.{Failure}
use Rattle.program_files.specs.declared.failure.Failure.TheVariants.{CannotRead, CannotWrite, NoMemory, TextTooLong}
use Rattle.program_files.specs.declared.failure.Failure.TheVariants.{Text, Image, Verdict, InputNotHex, ObjectNotHex}
use Rattle.program_files.specs.declared.failure.Failure.TheVariants.{ObjectLine, Object, Call, CallFull}
use Rattle.program_files.specs.declared.image.ClassSource.{ClassSource}
use Rattle.program_files.specs.declared.image.TheConstants.{TEXT_LIMIT}
use Rattle.program_files.specs.declared.image.ClassSource.TheVariants as sources

-- a byte is zero; in an image, the second byte of the number of methods always is
abbrev pub has_zero : List ℕ → Bool
has_zero bytes = list_any (λ b. b == 0) bytes

-- the first three bytes are `RCL`, there are too few for a text, or one is zero
abbrev pub is_for_image : List ℕ → Bool
is_for_image bytes = nat_lt (length bytes) 4 ||
    ((slice_index bytes 0 == 82 && (slice_index bytes 1 == 67 && slice_index bytes 2 == 76)) || has_zero bytes)

-- Bytes that are read as a text: they are UTF-8 without a zero, don't begin as an image does, and
-- are no more than a text may have. All others are read as an image, but those of a text that is
-- too long.
pub record IsText (bytes : List ℕ) : Type 0 where
  pub other : is_for_image bytes ≡ false
  pub short : length bytes ≤ TEXT_LIMIT
  pub utf8 : IsUtf8 bytes

-- Bytes of a text that is too long: the first ones, one more than a text may have, are not for an
-- image.
pub record IsLongText (bytes : List ℕ) : Type 0 where
  pub other : is_for_image (take (TEXT_LIMIT + 1) bytes) ≡ false
  pub long : TEXT_LIMIT < length bytes

-- the text is no class's; this is its first refused line, with the least fault there
pub record IsFaultOf (text : List ℕ) (error : AsmError) : Type 0 where
  pub first : read_class text ≡ Err error
  pub none : (class : Class) → SaysClass text class → ⊥

-- the class that was read
abbrev pub class_of : ClassSource → Class
class_of (sources.Image class) = class
class_of (sources.Text class text) = class

-- the bytes are an image of the class, or a text of it
abbrev pub Says : List ℕ → ClassSource → Type 0
Says bytes (sources.Image class) = IsImage bytes class
Says bytes (sources.Text class text) = (string_bytes text ≡ bytes) × IsText bytes × SaysClass bytes class

-- memory was refused
abbrev pub IsMemory : Failure → Type 0
IsMemory NoMemory = ⊤
IsMemory (Text error) = error ≡ no_memory
IsMemory (Image error) = error.error ≡ decode.NoMemory
IsMemory why = ⊥

-- the bytes are of no class: a text is too long or refused by its first fault, an image by the
-- first refusal in reading order
abbrev pub SayNone : List ℕ → Failure → Type 0
SayNone bytes TextTooLong = IsLongText bytes
SayNone bytes (Text error) = IsText bytes × IsFaultOf bytes error
SayNone bytes (Image error) = (IsText bytes → ⊥) × (IsLongText bytes → ⊥) × (image_of bytes ≡ Err error)
SayNone bytes why = ⊥

-- the file holds the image of the class
pub record IsImageIn (disk : Option Disk) (name : List ℕ) (class : Class) : Type 0 where
  pub bytes : List ℕ
  pub held : Holds disk name bytes
  pub image : IsImage bytes class

-- the file holds that text, and it is the class's
pub record IsTextIn (disk : Option Disk) (name : List ℕ) (class : Class) (text : List ℕ) : Type 0 where
  pub held : Holds disk name text
  pub is : IsText text
  pub read : SaysClass text class

-- the file holds the class's image, or a text of it
abbrev pub IsClassIn : Option Disk → List ℕ → Class → Type 0
IsClassIn disk name class = IsImageIn disk name class ⊎ ((text : List ℕ) × IsTextIn disk name class text)

-- the same of what was read
abbrev pub IsSourceOf : Option Disk → List ℕ → ClassSource → Type 0
IsSourceOf disk name (sources.Image class) = IsImageIn disk name class
IsSourceOf disk name (sources.Text class text) = IsTextIn disk name class (string_bytes text)

-- the file holds the image or the text of a class with these methods, no rule refuses the class,
-- and each method is safe
pub record IsSafeIn (disk : Option Disk) (name : List ℕ) (class : List ClassMethod) : Type 0 where
  pub written : Class
  pub image : IsClassIn disk name written
  pub methods : class ≡ written.methods
  pub accepted : class_verdict written ≡ None
  pub safe : AllByRecursion IsSafe class

-- the file's bytes are of no class
pub record IsRefusedIn (disk : Option Disk) (name : List ℕ) (failure : Failure) : Type 0 where
  pub bytes : List ℕ
  pub held : Holds disk name bytes
  pub refused : SayNone bytes failure

-- the file holds a class whose verdict is that refusal; or memory was refused
pub record IsVerdictIn (disk : Option Disk) (name : List ℕ) (refusal : Refusal) : Type 0 where
  pub class : Class
  pub image : IsClassIn disk name class
  pub verdict : (refusal ≡ out_of_memory) ⊎ (class_verdict class ≡ Some refusal)

-- Why no class was read: the file can't be read, memory was refused, or its bytes are of no class.
abbrev pub ReadFails : Option Disk → List ℕ → Failure → Type 0
ReadFails disk name CannotRead = IsUnreadable disk name
ReadFails disk name why = IsMemory why ⊎ IsRefusedIn disk name why

-- the class that was read is not safe
abbrev pub VerdictFails : Option Disk → List ℕ → Failure → Type 0
VerdictFails disk name CannotRead = ⊥
VerdictFails disk name CannotWrite = ⊥
VerdictFails disk name NoMemory = ⊥
VerdictFails disk name TextTooLong = ⊥
VerdictFails disk name (Text error) = ⊥
VerdictFails disk name (Image error) = ⊥
VerdictFails disk name (Verdict refusal) = IsVerdictIn disk name refusal
VerdictFails disk name InputNotHex = ⊥
VerdictFails disk name ObjectNotHex = ⊥
VerdictFails disk name (ObjectLine line) = ⊥
VerdictFails disk name (Object error) = ⊥
VerdictFails disk name (Call error) = ⊥
VerdictFails disk name CallFull = ⊥

-- Why no safe class was read: no class was read, or the class that was read is not safe.
abbrev pub LoadFails : Option Disk → List ℕ → Failure → Type 0
LoadFails disk name failure = ReadFails disk name failure ⊎ VerdictFails disk name failure

-- The image that `asm` writes, the text that `dis` gives, and why they do not.
use Rattle.std.specs.Prelude.{◌≡◌, ◌⊎◌, ◌<◌, ⊤, ℕ, Bool, true, false, List, Option, IsUtf8, length}
use Rattle.loop_asm.specs.Canonical.{alone, with_slot, class_text}
use Rattle.loop_asm.specs.Classes.{SaysClass}
use Rattle.bpf_asm.specs.Fault.{no_memory}
use Rattle.bpf_decode.specs.Class.{Class, IsImage}
use Rattle.program_files.specs.Files.{Disk, FailsToWrite, Holds, IsUnreadable, Storage, Writes}
use Rattle.program_files.specs.Image.{IsClassIn, IsFaultOf}
use Rattle.program_files.specs.declared.failure.Failure.{Failure}
use Rattle.program_files.specs.declared.failure.Failure.TheVariants.{CannotRead, CannotWrite, NoMemory, TextTooLong}
use Rattle.program_files.specs.declared.failure.Failure.TheVariants.{Text, Image, Verdict, InputNotHex, ObjectNotHex}
use Rattle.program_files.specs.declared.failure.Failure.TheVariants.{ObjectLine, Object, Call, CallFull}
use Rattle.program_files.specs.declared.image.TheConstants.{TEXT_LIMIT}

-- the bytes are the image of the text's class
pub record Spells (text : List ℕ) (bytes : List ℕ) : Type 0 where
  pub class : Class
  pub read : SaysClass text class
  pub image : IsImage bytes class

-- the file holds a class's text, and the bytes are the image of that class
pub record IsSourceIn (disk : Option Disk) (name : List ℕ) (bytes : List ℕ) : Type 0 where
  pub text : List ℕ
  pub held : Holds disk name text
  pub spells : Spells text bytes

-- The one file holds a class's text. Then the other holds the image of that class, and every other
-- file is as it was.
pub record Assembles (before after : Storage) (text image : List ℕ) : Type 0 where
  pub bytes : List ℕ
  pub source : IsSourceIn before.disk text bytes
  pub writes : Writes before after image bytes

-- the file's bytes are no text
pub record IsNoTextIn (disk : Option Disk) (name : List ℕ) : Type 0 where
  pub bytes : List ℕ
  pub held : Holds disk name bytes
  pub wrong : IsUtf8 bytes → ⊥

-- Why no text was read: the file can't be read or is no text, or memory was refused.
abbrev pub TextFails : Option Disk → List ℕ → Failure → Type 0
TextFails disk name CannotRead = IsUnreadable disk name ⊎ IsNoTextIn disk name
TextFails disk name CannotWrite = ⊥
TextFails disk name NoMemory = ⊤
TextFails disk name TextTooLong = ⊥
TextFails disk name (Text error) = ⊥
TextFails disk name (Image error) = ⊥
TextFails disk name (Verdict refusal) = ⊥
TextFails disk name InputNotHex = ⊥
TextFails disk name ObjectNotHex = ⊥
TextFails disk name (ObjectLine line) = ⊥
TextFails disk name (Object error) = ⊥
TextFails disk name (Call error) = ⊥
TextFails disk name CallFull = ⊥

-- the file has more bytes than a class's text may have
pub record IsTooLongIn (disk : Option Disk) (name : List ℕ) : Type 0 where
  pub bytes : List ℕ
  pub held : Holds disk name bytes
  pub long : TEXT_LIMIT < length bytes

-- Why no class's text was read: no text was read, or it is too long.
abbrev pub ClassTextFails : Option Disk → List ℕ → Failure → Type 0
ClassTextFails disk name failure = TextFails disk name failure ⊎ ((failure ≡ TextTooLong) × IsTooLongIn disk name)

-- Why a text has no image: memory was refused, or it is no class's text.
abbrev pub ImageFails : List ℕ → Failure → Type 0
ImageFails text CannotRead = ⊥
ImageFails text CannotWrite = ⊥
ImageFails text NoMemory = ⊤
ImageFails text TextTooLong = ⊥
ImageFails text (Text error) = (error ≡ no_memory) ⊎ IsFaultOf text error
ImageFails text (Image error) = ⊥
ImageFails text (Verdict refusal) = ⊥
ImageFails text InputNotHex = ⊥
ImageFails text ObjectNotHex = ⊥
ImageFails text (ObjectLine line) = ⊥
ImageFails text (Object error) = ⊥
ImageFails text (Call error) = ⊥
ImageFails text CallFull = ⊥

-- the file holds a text that has no image
pub record SourceFails (disk : Option Disk) (name : List ℕ) (failure : Failure) : Type 0 where
  pub text : List ℕ
  pub held : Holds disk name text
  pub why : ImageFails text failure

-- the text was right, and a write of the other file failed
pub record WriteFails (before after : Storage) (text image : List ℕ) (failure : Failure) : Type 0 where
  pub said : failure ≡ CannotWrite
  pub bytes : List ℕ
  pub source : IsSourceIn before.disk text bytes
  pub fails : FailsToWrite before after image

-- Why no image was written, in the order of the checks. Before the write every file is as it was.
abbrev pub AssembleFails : Storage → Storage → List ℕ → List ℕ → Failure → Type 0
AssembleFails before after text image failure =
    ((after ≡ before) × (ClassTextFails before.disk text failure ⊎ SourceFails before.disk text failure)) ⊎
    WriteFails before after text image failure

-- a class's canonical text, with each instruction's slot or without
abbrev pub text_of : Bool → Class → List ℕ
text_of false class = class_text alone class
text_of true class = class_text with_slot class

-- the text is that of the class that the file holds
pub record IsTextOf (has_slots : Bool) (disk : Option Disk) (name : List ℕ) (text : List ℕ) : Type 0 where
  pub class : Class
  pub image : IsClassIn disk name class
  pub canonical : text ≡ text_of has_slots class

-- The image that `pack` writes, and why it does not.
use Rattle.std.specs.Prelude.{◌≡◌, ◌⊎◌, ⊤, ℕ, List, [], ◌∷◌, ◌++◌, Option, None, Err, length}
use Rattle.bpf_decode.specs.declared.rule_set.RuleSet.{RuleSet}
use Rattle.bpf_decode.specs.Class.{Class, ClassMethod, IsImage}
use Rattle.bpf_decode.specs.ImageReading.{class_of}
use Rattle.bpf_decode.specs.Instruction.{IsCode}
use Rattle.bpf_decode.specs.Reading.{code_of}
use Rattle.bpf_decode.specs.declared.decode_error.DecodeError.{DecodeError}
use Rattle.bpf_decode.specs.declared.decode_error.DecodeError.TheVariants as decode
use Rattle.bpf_decode.specs.declared.insn.Insn.{Insn}
use Rattle.program_files.specs.Files.{Disk, FailsToWrite, Holds, IsUnreadable, Storage, Writes}
use Rattle.class_tool.specs.declared.action.Packing.{Packing}
use Rattle.class_tool.specs.declared.action.RawMethod.{RawMethod}
use Rattle.program_files.specs.declared.failure.Failure.{Failure}
use Rattle.program_files.specs.declared.failure.Failure.TheVariants.{CannotRead, CannotWrite, NoMemory, TextTooLong}
use Rattle.program_files.specs.declared.failure.Failure.TheVariants.{Text, Image, Verdict, InputNotHex, ObjectNotHex}
use Rattle.program_files.specs.declared.failure.Failure.TheVariants.{ObjectLine, Object, Call, CallFull}

-- the file holds the raw code of those instructions
pub record IsCodeIn (disk : Option Disk) (name : List ℕ) (instructions : List Insn) : Type 0 where
  pub bytes : List ℕ
  pub held : Holds disk name bytes
  pub code : IsCode bytes instructions

-- the method has the name, the flags and the capacities that were asked for, and the code that the
-- file holds; it declares no loops
pub record IsMethodIn (disk : Option Disk) (raw : RawMethod) (method : ClassMethod) : Type 0 where
  pub code : IsCodeIn disk raw.code.now method.instructions
  pub name : method.name ≡ raw.name.now
  pub flags : method.flags ≡ raw.flags
  pub in_cap : method.in_cap ≡ raw.in_cap
  pub out_cap : method.out_cap ≡ raw.out_cap
  pub loops : method.loops ≡ None

-- a method for each one that was asked for, in their order
abbrev pub AreMethodsIn : Option Disk → List RawMethod → List ClassMethod → Type 0
AreMethodsIn disk [] [] = ⊤
AreMethodsIn disk [] (method ∷ methods) = ⊥
AreMethodsIn disk (raw ∷ raws) [] = ⊥
AreMethodsIn disk (raw ∷ raws) (method ∷ methods) = IsMethodIn disk raw method × AreMethodsIn disk raws methods

-- THE CLASS of those methods, which is verified by those rules
pub record IsClassIn (disk : Option Disk) (rules : RuleSet) (raws : List RawMethod) (class : Class) : Type 0 where
  pub verified : class.rules ≡ rules
  pub methods : AreMethodsIn disk raws class.methods

-- the bytes are the image of the class of those methods, which is verified by those rules
pub record IsPackedOf (disk : Option Disk) (rules : RuleSet) (raws : List RawMethod) (bytes : List ℕ) : Type 0 where
  pub class : List ClassMethod
  pub methods : AreMethodsIn disk raws class
  pub image : IsImage bytes (record { rules = rules; methods = class })

-- The image is written, and every other file is as it was.
pub record Packs (before after : Storage) (asked : Packing) : Type 0 where
  pub bytes : List ℕ
  pub packed : IsPackedOf before.disk asked.rules asked.methods.items bytes
  pub writes : Writes before after asked.image.now bytes

-- the file's bytes are refused as code, by the first refusal in reading order
pub record IsCodeRefusedIn (disk : Option Disk) (name : List ℕ) (error : DecodeError) : Type 0 where
  pub bytes : List ℕ
  pub held : Holds disk name bytes
  pub refused : code_of bytes ≡ Err error

-- Why a method's code was not read, after this number of methods.
abbrev pub CodeFails : Option Disk → List ℕ → ℕ → Failure → Type 0
CodeFails disk name done CannotRead = IsUnreadable disk name
CodeFails disk name done CannotWrite = ⊥
CodeFails disk name done NoMemory = ⊤
CodeFails disk name done TextTooLong = ⊥
CodeFails disk name done (Text error) = ⊥
CodeFails disk name done (Image error) =
    (error.methods ≡ done) × ((error.error ≡ decode.NoMemory) ⊎ IsCodeRefusedIn disk name error.error)
CodeFails disk name done (Verdict refusal) = ⊥
CodeFails disk name done InputNotHex = ⊥
CodeFails disk name done ObjectNotHex = ⊥
CodeFails disk name done (ObjectLine line) = ⊥
CodeFails disk name done (Object error) = ⊥
CodeFails disk name done (Call error) = ⊥
CodeFails disk name done CallFull = ⊥

-- the first methods were read, and the next one's code was not
pub record MethodsFail (disk : Option Disk) (raws : List RawMethod) (failure : Failure) : Type 0 where
  pub first : List RawMethod
  pub next : RawMethod
  pub rest : List RawMethod
  pub split : raws ≡ first ++ next ∷ rest
  pub methods : List ClassMethod
  pub read : AreMethodsIn disk first methods
  pub why : CodeFails disk next.code.now (length first) failure

-- Why methods have no image: memory was refused, or they make no class, by the first refusal in the
-- order of a class's fields.
abbrev pub ClassFails : RuleSet → List ClassMethod → Failure → Type 0
ClassFails rules methods CannotRead = ⊥
ClassFails rules methods CannotWrite = ⊥
ClassFails rules methods NoMemory = ⊤
ClassFails rules methods TextTooLong = ⊥
ClassFails rules methods (Text error) = ⊥
ClassFails rules methods (Image error) = class_of rules methods ≡ Err error
ClassFails rules methods (Verdict refusal) = ⊥
ClassFails rules methods InputNotHex = ⊥
ClassFails rules methods ObjectNotHex = ⊥
ClassFails rules methods (ObjectLine line) = ⊥
ClassFails rules methods (Object error) = ⊥
ClassFails rules methods (Call error) = ⊥
ClassFails rules methods CallFull = ⊥

-- all methods were read, and they have no image
pub record PackedFails (disk : Option Disk) (rules : RuleSet) (raws : List RawMethod) (failure : Failure) : Type 0 where
  pub methods : List ClassMethod
  pub read : AreMethodsIn disk raws methods
  pub why : ClassFails rules methods failure

-- Why there is no such class, in the order of the checks.
abbrev pub ReadingFails : Option Disk → RuleSet → List RawMethod → Failure → Type 0
ReadingFails disk rules raws failure = MethodsFail disk raws failure ⊎ PackedFails disk rules raws failure

-- the class was right, and the write of the image failed
pub record PackWriteFails (before after : Storage) (asked : Packing) (failure : Failure) : Type 0 where
  pub said : failure ≡ CannotWrite
  pub bytes : List ℕ
  pub packed : IsPackedOf before.disk asked.rules asked.methods.items bytes
  pub fails : FailsToWrite before after asked.image.now

-- Why no image was written, in the order of the checks. Before the write every file is as it was.
abbrev pub PackFails : Storage → Storage → Packing → Failure → Type 0
PackFails before after asked failure =
    ((after ≡ before) × ReadingFails before.disk asked.rules asked.methods.items failure) ⊎
    PackWriteFails before after asked failure

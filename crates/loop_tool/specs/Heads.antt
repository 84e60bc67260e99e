-- The image with heads that `heads` writes, and why it does not.
use Rattle.std.specs.Prelude.{◌≡◌, ◌⊎◌, ⊤, ℕ, List, [], ◌∷◌, Option, MatchOption, Contains}
use Rattle.bpf_decode.specs.Class.{Class, ClassMethod, IsImage}
use Rattle.bpf_decode.specs.Instruction.{slots}
use Rattle.class_tool.specs.Packing.{ClassFails}
use Rattle.loop_finder.specs.Found.{AreFound, HasNoBackJump}
use Rattle.program_files.specs.Files.{Disk, FailsToWrite, Storage, Writes}
use Rattle.program_files.specs.Image.{IsSourceOf, ReadFails, class_of}
use Rattle.program_files.specs.declared.failure.Failure.{Failure}
use Rattle.program_files.specs.declared.failure.Failure.TheVariants.{CannotWrite, NoMemory}
use Rattle.program_files.specs.declared.image.ClassSource.{ClassSource}
use Rattle.loop_tool.specs.WriteHeadsError.{IsUnheadedOf}
use Rattle.loop_tool.specs.declared.asked.HeadsAsked.{HeadsAsked}
use Rattle.loop_tool.specs.declared.write_heads_error.WriteHeadsError.{WriteHeadsError}
use Rattle.loop_tool.specs.declared.write_heads_error.WriteHeadsError.TheVariants as error

-- The method is the one before but for its loops: none if no jump of it goes back, else of that budget, with a head at
-- each target of such a jump and no other. What is declared there is left to the verdict.
pub record IsHeaded (budget : ℕ) (before after : ClassMethod) : Type 0 where
  pub same : after ≡ record before { loops = after.loops }
  pub found : MatchOption after.loops (HasNoBackJump (slots before.instructions))
      (AreFound budget (slots before.instructions))

-- one for each method, in their order
abbrev pub AreHeaded : ℕ → List ClassMethod → List ClassMethod → Type 0
AreHeaded budget [] [] = ⊤
AreHeaded budget [] (n ∷ ns) = ⊥
AreHeaded budget (m ∷ ms) [] = ⊥
AreHeaded budget (m ∷ ms) (n ∷ ns) = IsHeaded budget m n × AreHeaded budget ms ns

-- the bytes are the image of the class with such methods
pub record HasHeadedImage (budget : ℕ) (class : Class) (bytes : List ℕ) : Type 0 where
  pub methods : List ClassMethod
  pub headed : AreHeaded budget class.methods methods
  pub image : IsImage bytes (record { rules = class.rules; methods = methods })

-- of the class whose image or text the file holds
pub record IsHeadedImage (disk : Option Disk) (asked : HeadsAsked) (bytes : List ℕ) : Type 0 where
  pub source : ClassSource
  pub read : IsSourceOf disk asked.class.now source
  pub made : HasHeadedImage asked.budget (class_of source) bytes

-- The image is written, and every other file is as it was.
pub record WritesHeads (before after : Storage) (asked : HeadsAsked) : Type 0 where
  pub bytes : List ℕ
  pub made : IsHeadedImage before.disk asked bytes
  pub writes : Writes before after asked.image.now bytes

-- memory was refused, or one of the methods gets no heads
abbrev pub IsUnheaded : List ClassMethod → WriteHeadsError → Type 0
IsUnheaded methods e = (m : ClassMethod) × Contains methods m × IsUnheadedOf m e

-- all get them, and the class with them has no image: memory was refused, or it is none
pub record HasNoImage (budget : ℕ) (class : Class) (failure : Failure) : Type 0 where
  pub methods : List ClassMethod
  pub headed : AreHeaded budget class.methods methods
  pub why : ClassFails class.rules methods failure

-- by the error
abbrev pub HasNone : ℕ → Class → WriteHeadsError → Type 0
HasNone budget class (error.Failed failed) = (failed.failure ≡ NoMemory) ⊎ HasNoImage budget class failed.failure
HasNone budget class (error.NotFound lacking) = IsUnheaded class.methods (error.NotFound lacking)

-- the file holds a class that has no image with heads
pub record IsHeadless (disk : Option Disk) (asked : HeadsAsked) (e : WriteHeadsError) : Type 0 where
  pub source : ClassSource
  pub read : IsSourceOf disk asked.class.now source
  pub none : HasNone asked.budget (class_of source) e

-- no class was read
abbrev pub IsUnread : Option Disk → HeadsAsked → WriteHeadsError → Type 0
IsUnread disk asked (error.Failed failed) = ReadFails disk asked.class.now failed.failure
IsUnread disk asked (error.NotFound lacking) = ⊥

-- no image was made
abbrev pub MakesNone : Option Disk → HeadsAsked → WriteHeadsError → Type 0
MakesNone disk asked e = IsUnread disk asked e ⊎ IsHeadless disk asked e

-- an image was made, and a write of it failed
pub record IsUnwritten (before after : Storage) (asked : HeadsAsked) (failure : Failure) : Type 0 where
  pub said : failure ≡ CannotWrite
  pub bytes : List ℕ
  pub made : IsHeadedImage before.disk asked bytes
  pub fails : FailsToWrite before after asked.image.now

abbrev pub WriteFails : Storage → Storage → HeadsAsked → WriteHeadsError → Type 0
WriteFails before after asked (error.Failed failed) = IsUnwritten before after asked failed.failure
WriteFails before after asked (error.NotFound lacking) = ⊥

-- Why no image was written, in the order of the checks. Before the write every file is as it was.
abbrev pub HeadsFail : Storage → Storage → HeadsAsked → WriteHeadsError → Type 0
HeadsFail before after asked e =
    ((after ≡ before) × MakesNone before.disk asked e) ⊎ WriteFails before after asked e

-- The image of raw code with heads that `pack --heads` writes, and why it does not.
use Rattle.std.specs.Prelude.{◌≡◌, ◌⊎◌, ℕ, List, Option}
use Rattle.bpf_decode.specs.Class.{Class}
use Rattle.class_tool.specs.Packing.{IsClassIn, ReadingFails}
use Rattle.program_files.specs.Files.{Disk, FailsToWrite, Storage, Writes}
use Rattle.program_files.specs.declared.failure.Failure.{Failure}
use Rattle.program_files.specs.declared.failure.Failure.TheVariants.{CannotWrite}
use Rattle.loop_tool.specs.Heads.{HasHeadedImage, HasNone}
use Rattle.loop_tool.specs.declared.asked.HeadedPacking.{HeadedPacking}
use Rattle.loop_tool.specs.declared.write_heads_error.WriteHeadsError.{WriteHeadsError}
use Rattle.loop_tool.specs.declared.write_heads_error.WriteHeadsError.TheVariants as error

-- the class is that which `pack` makes of the files of raw code
abbrev pub IsPacked : Option Disk → HeadedPacking → Class → Type 0
IsPacked disk asked class = IsClassIn disk asked.packing.rules asked.packing.methods.items class

-- the bytes are the image of that class with heads
pub record IsPackedWithHeads (disk : Option Disk) (asked : HeadedPacking) (bytes : List ℕ) : Type 0 where
  pub class : Class
  pub packed : IsPacked disk asked class
  pub made : HasHeadedImage asked.budget class bytes

-- The image is written, and every other file is as it was.
pub record PacksWithHeads (before after : Storage) (asked : HeadedPacking) : Type 0 where
  pub bytes : List ℕ
  pub made : IsPackedWithHeads before.disk asked bytes
  pub writes : Writes before after asked.packing.image.now bytes

-- `pack` makes no class of them
abbrev pub IsUnpacked : Option Disk → HeadedPacking → WriteHeadsError → Type 0
IsUnpacked disk asked (error.Failed failed) =
    ReadingFails disk asked.packing.rules asked.packing.methods.items failed.failure
IsUnpacked disk asked (error.NotFound lacking) = ⊥

-- it makes one, which has no image with heads
pub record IsPackedHeadless (disk : Option Disk) (asked : HeadedPacking) (e : WriteHeadsError) : Type 0 where
  pub class : Class
  pub packed : IsPacked disk asked class
  pub none : HasNone asked.budget class e

-- no image was made
abbrev pub PacksNone : Option Disk → HeadedPacking → WriteHeadsError → Type 0
PacksNone disk asked e = IsUnpacked disk asked e ⊎ IsPackedHeadless disk asked e

-- an image was made, and a write of it failed
pub record IsUnwrittenPack (before after : Storage) (asked : HeadedPacking) (failure : Failure) : Type 0 where
  pub said : failure ≡ CannotWrite
  pub bytes : List ℕ
  pub made : IsPackedWithHeads before.disk asked bytes
  pub fails : FailsToWrite before after asked.packing.image.now

abbrev pub PackWriteFails : Storage → Storage → HeadedPacking → WriteHeadsError → Type 0
PackWriteFails before after asked (error.Failed failed) = IsUnwrittenPack before after asked failed.failure
PackWriteFails before after asked (error.NotFound lacking) = ⊥

-- Why no image was written, in the order of the checks. Before the write every file is as it was.
abbrev pub PackHeadsFail : Storage → Storage → HeadedPacking → WriteHeadsError → Type 0
PackHeadsFail before after asked e =
    ((after ≡ before) × PacksNone before.disk asked e) ⊎ PackWriteFails before after asked e

-- The class of a file whose methods may loop, and why there is none.
use Rattle.std.specs.Prelude.{◌≡◌, ◌⊎◌, ℕ, List, Option, Some, None}
use Rattle.std.specs.List.{AllByRecursion}
use Rattle.bpf_decode.specs.Class.{ClassMethod}
use Rattle.loop_classes.specs.Verdict.{IsSafeLooped, loops_verdict}
use Rattle.verifier.specs.Verdict.{out_of_memory}
use Rattle.verifier.specs.declared.refusal.Refusal.{Refusal}
use Rattle.program_files.specs.Files.{Disk}
use Rattle.program_files.specs.Image.{IsSourceOf, ReadFails, class_of}
use Rattle.program_files.specs.declared.failure.Failure.{Failure}
use Rattle.program_files.specs.declared.failure.Failure.TheVariants.{Verdict}
use Rattle.program_files.specs.declared.image.ClassSource.{ClassSource}

-- The file holds the image or the text of a class with these methods, the verdict on loops accepts it, and each method
-- is safe: to its exit, or by its budget.
pub record IsLoopSafeIn (disk : Option Disk) (name : List ℕ) (class : List ClassMethod) : Type 0 where
  pub source : ClassSource
  pub read : IsSourceOf disk name source
  pub methods : class ≡ (class_of source).methods
  pub accepted : loops_verdict (class_of source) ≡ None
  pub safe : AllByRecursion IsSafeLooped class

-- the file holds a class whose verdict on loops is that refusal; or memory was refused
pub record IsLoopRefusedIn (disk : Option Disk) (name : List ℕ) (failure : Failure) : Type 0 where
  pub refusal : Refusal
  pub said : failure ≡ Verdict refusal
  pub source : ClassSource
  pub read : IsSourceOf disk name source
  pub verdict : (refusal ≡ out_of_memory) ⊎ (loops_verdict (class_of source) ≡ Some refusal)

-- Why a file has no such class: none was read, or the class that was read is refused.
abbrev pub LoopLoadFails : Option Disk → List ℕ → Failure → Type 0
LoopLoadFails disk name failure = ReadFails disk name failure ⊎ IsLoopRefusedIn disk name failure

-- Which images are opened by the verdict on loops, for a host that gives so great a budget.
use Rattle.std.specs.Prelude.{◌≡◌, ℕ, ◌+◌, List, [], ◌∷◌, Option, Some, None, Err, if◌then◌else◌, nat_lt}
use Rattle.std.specs.List.{AllByRecursion}
use Rattle.bpf_decode.specs.Class.{ClassMethod, Class, IsImage}
use Rattle.bpf_decode.specs.ImageReading.{image_of}
use Rattle.verifier.specs.declared.refusal.Refusal.{Refusal}
use Rattle.loop_heads.specs.Loops.{PlainLoops}
use Rattle.loop_classes.specs.Verdict.{IsSafeLooped, loops_verdict}
use Rattle.class_calls.specs.declared.class.ClassError.{ClassError}
use Rattle.class_calls.specs.declared.class.ClassError.TheVariants as load
use Rattle.class_loops.specs.declared.class.OverBudget.{OverBudget}
use Rattle.class_loops.specs.declared.class.LoopClassError.{LoopClassError}
use Rattle.class_loops.specs.declared.class.LoopClassError.TheVariants as loops

-- a method of this number declares a greater budget, or a later one
abbrev pub over_or_later : ℕ → ℕ → Option PlainLoops → Option OverBudget → Option OverBudget
over_or_later most number None later = later
over_or_later most number (Some l) later =
    if nat_lt most l.budget then Some (record { method = number; budget = l.budget }) else later

-- the first method that declares a greater budget than this, and that budget; the first of these has this number
abbrev pub first_over : ℕ → ℕ → List ClassMethod → Option OverBudget
first_over most number [] = None
first_over most number (m ∷ ms) = over_or_later most number m.loops (first_over most (number + 1) ms)

-- The image spells a class of these methods, the verdict on loops accepts it, and each method is safe.
pub record IsAcceptedByLoops (image : List ℕ) (class : List ClassMethod) : Type 0 where
  pub written : Class
  pub spelled : IsImage image written
  pub methods : class ≡ written.methods
  pub accepted : loops_verdict written ≡ None
  pub safe : AllByRecursion IsSafeLooped class

-- and none declares a greater budget than this
pub record IsLoadedByLoops (image : List ℕ) (most : ℕ) (class : List ClassMethod) : Type 0 where
  pub accepted : IsAcceptedByLoops image class
  pub within : first_over most 0 class ≡ None

-- the image spells a class, and this is the verdict
pub record RefusesClassByLoops (image : List ℕ) (refusal : Refusal) : Type 0 where
  pub written : Class
  pub spelled : IsImage image written
  pub verdict : loops_verdict written ≡ Some refusal

-- why an image gives no accepted class
abbrev pub RefusesByLoops : List ℕ → ClassError → Type 0
RefusesByLoops image (load.Image e) = image_of image ≡ Err e
RefusesByLoops image (load.Verdict r) = RefusesClassByLoops image r
RefusesByLoops image load.NoMemory = Unit {0}

-- the image spells a class that is accepted, and this is the first method that declares a greater budget
pub record IsTooLarge (image : List ℕ) (most : ℕ) (over : OverBudget) : Type 0 where
  pub class : List ClassMethod
  pub accepted : IsAcceptedByLoops image class
  pub first : first_over most 0 class ≡ Some over

-- why an image gives no class for a host that gives so great a budget
abbrev pub RefusesImageByLoops : List ℕ → ℕ → LoopClassError → Type 0
RefusesImageByLoops image most (loops.Class e) = RefusesByLoops image e
RefusesImageByLoops image most (loops.TooLarge over) = IsTooLarge image most over

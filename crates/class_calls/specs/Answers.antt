-- What the calls on bytes give.
use Rattle.std.specs.Prelude.{◌≡◌, ◌≢◌, ◌⊎◌, ℕ, ◌^◌, ◌<◌, ◌≤◌, List, Some, None, Err, length}
use Rattle.std.specs.Int.{w64, cast_unsigned}
use Rattle.std.specs.List.{AllByRecursion}
use Rattle.bpf_decode.specs.Class.{ClassMethod, Class, IsImage}
use Rattle.bpf_decode.specs.ImageReading.{image_of}
use Rattle.bpf_decode.specs.declared.image_error.ImageError.{ImageError}
use Rattle.bpf_decode.specs.declared.decode_error.DecodeError.TheVariants as decode
use Rattle.bpf_machine.specs.Safe.{IsSafe}
use Rattle.verifier.specs.Verdict.{class_verdict}
use Rattle.verifier.specs.Verified.{IsVerified}
use Rattle.verifier.specs.declared.refusal.Refusal.{Refusal}
use Rattle.verifier.specs.declared.rule.Rule.TheVariants as rules
use Rattle.object_store.specs.Object.{PlainObject}
use Rattle.interp.specs.Plain.{AnswersListed, InputPasses, method_named}
use Rattle.interp.specs.declared.outcome.Listed.{Listed}
use Rattle.object_bytes.specs.Flat.{Spells}
use Rattle.class_calls.specs.declared.class.ClassError.{ClassError}
use Rattle.class_calls.specs.declared.class.ClassError.TheVariants as load
use Rattle.object_bytes.specs.declared.flat.FlatError.{FlatError}
use Rattle.object_bytes.specs.declared.flat.FlatError.TheVariants as flat
use Rattle.class_calls.specs.declared.answer.Answer.{Answer}
use Rattle.class_calls.specs.declared.answer.MethodError.{MethodError}
use Rattle.class_calls.specs.declared.answer.MethodError.TheVariants as method

-- the image spells a class of these methods, no rule refuses it, and each method is safe
pub record IsLoaded (image : List ℕ) (class : List ClassMethod) : Type 0 where
  pub written : Class
  pub spelled : IsImage image written
  pub methods : class ≡ written.methods
  pub accepted : class_verdict written ≡ None
  pub safe : AllByRecursion IsSafe class

-- the image spells a class, and this is the verdict
pub record RefusesClass (image : List ℕ) (refusal : Refusal) : Type 0 where
  pub written : Class
  pub spelled : IsImage image written
  pub verdict : class_verdict written ≡ Some refusal

-- why an image gives no class
abbrev pub RefusesImage : List ℕ → ClassError → Type 0
RefusesImage image (load.Image e) = image_of image ≡ Err e
RefusesImage image (load.Verdict r) = RefusesClass image r
RefusesImage image load.NoMemory = Unit {0}

-- why its bytes are read as no class
abbrev pub RefusesReading : List ℕ → ClassError → Type 0
RefusesReading image (load.Image e) = image_of image ≡ Err e
RefusesReading image (load.Verdict r) = ⊥
RefusesReading image load.NoMemory = Unit {0}

-- what a refusal of reading, or a verdict, is here: that memory was refused is said alone
abbrev pub IsOfImage : ImageError → ClassError → Type 0
IsOfImage e (load.Image f) = (f ≡ e) × (e.error ≢ decode.NoMemory)
IsOfImage e (load.Verdict r) = ⊥
IsOfImage e load.NoMemory = e.error ≡ decode.NoMemory

abbrev pub IsOfVerdict : Refusal → ClassError → Type 0
IsOfVerdict r (load.Image e) = ⊥
IsOfVerdict r (load.Verdict s) = (s ≡ r) × (r.rule ≢ rules.NoMemory)
IsOfVerdict r load.NoMemory = r.rule ≡ rules.NoMemory

-- ---- a call on a verified class

-- it says code, steps, output and edits of the run
pub record Says (listed : Listed) (answer : Answer) : Type 0 where
  pub code : answer.code ≡ listed.outcome.code
  pub steps : answer.steps ≡ listed.outcome.steps
  pub output : answer.output.items ≡ listed.outcome.output.items
  pub edits : answer.edits.items ≡ listed.edits.items

-- what a class answers on the object that is spelled: the outcome and the list of the method, which
-- is verified
pub record IsAnsweredBy (class : List ClassMethod) (name object : List ℕ) (caller : ℕ) (input : List ℕ)
    (answer : Answer) : Type 0 where
  pub plain : PlainObject
  pub spelled : Spells object plain
  pub listed : Listed
  pub answers : AnswersListed class name plain caller input listed
  pub verified : IsVerified answers.method
  pub client : caller < 2 ^ 32
  pub says : Says listed answer

-- what a refusal of a flat form is here
abbrev pub IsOfFlat : FlatError → MethodError → Type 0
IsOfFlat flat.Malformed e = e ≡ method.Malformed
IsOfFlat flat.NoMemory e = e ≡ method.NoMemory

-- no object is spelled, or the caller's number is beyond 32 bits
abbrev pub SpellsNone : List ℕ → ℕ → Type 0
SpellsNone object caller = ((plain : PlainObject) → Spells object plain → ⊥) ⊎ (2 ^ 32 ≤ caller)

-- The method of that name takes the input, and no object is spelled, or the caller's number is
-- beyond 32 bits.
pub record IsMalformed (class : List ClassMethod) (name object : List ℕ) (caller : ℕ) (input : List ℕ) : Type 0 where
  pub method : ClassMethod
  pub named : method_named class name ≡ Some method
  pub short : length input ≤ method.in_cap
  pub none : SpellsNone object caller

-- what a call of a method of that in_cap begins with: the object that is spelled
pub record BeginsCall (in_cap : ℕ) (object : List ℕ) (caller : ℕ) (input : List ℕ) (plain : PlainObject) : Type 0 where
  pub short : length input ≤ in_cap
  pub client : caller < 2 ^ 32
  pub spelled : Spells object plain

-- why it doesn't begin: the first that applies
abbrev pub RefusesToBegin : ℕ → List ℕ → ℕ → List ℕ → MethodError → Type 0
RefusesToBegin in_cap object caller input method.NoMethod = ⊥
RefusesToBegin in_cap object caller input method.InputTooLong = in_cap < length input
RefusesToBegin in_cap object caller input method.Malformed = (length input ≤ in_cap) × SpellsNone object caller
RefusesToBegin in_cap object caller input method.NoMemory = Unit {0}

-- why a class gives no answer: the first that applies
abbrev pub RefusesMethod : List ClassMethod → List ℕ → List ℕ → ℕ → List ℕ → MethodError → Type 0
RefusesMethod class name object caller input method.NoMethod = method_named class name ≡ None
RefusesMethod class name object caller input method.InputTooLong = InputPasses class name input
RefusesMethod class name object caller input method.Malformed = IsMalformed class name object caller input
RefusesMethod class name object caller input method.NoMemory = Unit {0}

-- ---- there is one answer

-- Two answers say the same: of the codes all 64 bits.
pub record AreSame (a b : Answer) : Type 0 where
  pub code : cast_unsigned w64 a.code ≡ cast_unsigned w64 b.code
  pub steps : a.steps ≡ b.steps
  pub output : a.output.items ≡ b.output.items
  pub edits : a.edits.items ≡ b.edits.items

-- The class of an image: but for want of memory it is loaded, or refused for one reason.
abbrev pub IsWantOfClass : ClassError → Type 0
IsWantOfClass e = e ≡ load.NoMemory

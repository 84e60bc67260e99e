-- What a built-in class is to its text, and why one can't be had.
use Rattle.std.specs.Prelude.{◌≡◌, ⊤, ℕ, List, [], ◌∷◌, None, Some, Err}
use Rattle.std.specs.List.{AllByRecursion}
use Rattle.bpf_decode.specs.Class.{ClassMethod, Class}
use Rattle.bpf_asm.specs.Classes.{read_class_text}
use Rattle.bpf_asm.specs.Grammar.{IsClassText}
use Rattle.bpf_machine.specs.Safe.{IsSafe}
use Rattle.verifier.specs.Verdict.{class_verdict}
use Rattle.verifier.specs.declared.refusal.Refusal.{Refusal}
use Rattle.builtin_classes.specs.declared.failure.BuiltInFailure.{BuiltInFailure}
use Rattle.builtin_classes.specs.declared.failure.BuiltInFailure.TheVariants.{NoMemory, Text, Verdict}

-- the methods are those of the class that the text is, the verifier accepts it, and each method is
-- safe
pub record IsLoaded (text : List ℕ) (class : List ClassMethod) : Type 0 where
  pub written : Class
  pub read : IsClassText text written
  pub methods : class ≡ written.methods
  pub accepted : class_verdict written ≡ None
  pub safe : AllByRecursion IsSafe class

-- the classes of two texts, in their order
pub record AreLoaded (first second : List ℕ) (classes : List (List ClassMethod)) : Type 0 where
  pub one : List ClassMethod
  pub other : List ClassMethod
  pub are : classes ≡ one ∷ other ∷ []
  pub is_first : IsLoaded first one
  pub is_second : IsLoaded second other

-- the text is a class's, which the verifier refuses
pub record IsRefused (text : List ℕ) (refusal : Refusal) : Type 0 where
  pub class : Class
  pub read : IsClassText text class
  pub verdict : class_verdict class ≡ Some refusal

-- Why the class of a text can't be had: memory was refused, or the text is no class's, or the class
-- is refused.
abbrev pub LoadFails : List ℕ → BuiltInFailure → Type 0
LoadFails text NoMemory = ⊤
LoadFails text (Text error) = read_class_text text ≡ Err error
LoadFails text (Verdict refusal) = IsRefused text refusal

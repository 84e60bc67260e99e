-- Why a text has no image, and why a call is refused.
use Rattle.std.proofs.Common.{◌≡◌, ◌⊎◌, inl, inr, ℕ, List, Err}
use Rattle.bpf_decode.specs.Class.{Class}
use Rattle.bpf_asm.specs.Classes.{AsmError}
use Rattle.bpf_asm.specs.Fault.{no_memory}
use Rattle.loop_asm.specs.Classes.{SaysClass, read_class}
use Rattle.program_files.specs.Image.{IsFaultOf}

-- a refusal of a text of no class
pub text_refused : (text : List ℕ) (e : AsmError) → (e ≡ no_memory) ⊎ (read_class text ≡ Err e) → (e ≡ no_memory) ⊎ ((c : Class) → ¬ SaysClass text c) → (e ≡ no_memory) ⊎ IsFaultOf text e
text_refused text e (inl lack) o = inl lack
text_refused text e (inr read) (inl lack) = inl lack
text_refused text e (inr read) (inr none) = inr (record { first = read; none = none })

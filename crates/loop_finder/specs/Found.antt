-- What is known of heads that were found: they stand at the targets of jumps that go back. Nothing is said of what is
-- declared there: the verdict on loops checks it.
use Rattle.std.specs.Prelude.{◌≡◌, ℕ, ◌==◌, ◌&&◌, List, Option, Some, Bool, true, false, map, All, Contains}
use Rattle.bpf_decode.specs.declared.insn.Insn.{Insn}
use Rattle.bpf_machine.specs.Typed.{fetch}
use Rattle.abstract_regs.specs.Flow.{target}
use Rattle.verifier.specs.Facets.{goes_of}
use Rattle.verifier.specs.Rules.{jumps, is_backward}
use Rattle.loop_heads.specs.Loops.{PlainHead, PlainLoops}

-- the instruction at slot p jumps back to slot q
abbrev pub jumps_back_to : ℕ → Insn → ℕ → Bool
jumps_back_to p i q = is_backward i && jumps (λ distance. target p distance == q) (goes_of i)

-- some instruction of the code does
abbrev pub IsBackTarget : List (Option Insn) → ℕ → Type 0
IsBackTarget code q = (p : ℕ) × (i : Insn) × (fetch code p ≡ Some i) × (jumps_back_to p i q ≡ true)

-- none of the code jumps back
abbrev pub HasNoBackJump : List (Option Insn) → Type 0
HasNoBackJump code = (p : ℕ) (i : Insn) (q : ℕ) → fetch code p ≡ Some i → jumps_back_to p i q ≡ false

-- the slots of heads
abbrev pub head_slots : List PlainHead → List ℕ
head_slots heads = map (λ head. head.slot) heads

-- what is found: loops of the budget that was given, with a head at each target of a jump that goes back, and no other
pub record AreFound (given : ℕ) (code : List (Option Insn)) (l : PlainLoops) : Type 0 where
  pub budget : l.budget ≡ given
  pub heads : All (IsBackTarget code) (head_slots l.heads)
  pub each : (q : ℕ) → IsBackTarget code q → Contains (head_slots l.heads) q

-- Where heads stand: at slots at which an instruction begins.
use Rattle.std.specs.Prelude.{◌≡◌, ℕ, true, false, List, [], ◌∷◌, get_or, Option, Some, None}
use Rattle.std.specs.List.{AllByRecursion}
use Rattle.bpf_decode.specs.declared.insn.Insn.{Insn}
use Rattle.bpf_decode.specs.Class.{ClassMethod, starts}
use Rattle.loop_heads.specs.Loops.{PlainLoops}

-- an instruction begins at that slot
abbrev pub IsStart : List Insn → ℕ → Type 0
IsStart insns slot = get_or (starts insns) slot false ≡ true

-- a method's heads, if it has loops
abbrev pub StandAt : List Insn → Option PlainLoops → Type 0
StandAt insns None = Unit {0}
StandAt insns (Some l) = AllByRecursion (λ h. IsStart insns h.slot) l.heads

-- the heads of each method's loops, which are given for each
abbrev pub AreAtInstructions : List ClassMethod → List (Option PlainLoops) → Type 0
AreAtInstructions [] [] = Unit {0}
AreAtInstructions [] (l ∷ ls) = ⊥
AreAtInstructions (m ∷ ms) [] = ⊥
AreAtInstructions (m ∷ ms) (l ∷ ls) = StandAt m.instructions l × AreAtInstructions ms ls

-- Loops that methods may declare, beside the methods.
use Rattle.std.proofs.Common.{◌≡◌, ◌∙◌, ◌-◌, Bool, true, false, List, [], ◌∷◌, ◌++◌, Option, None, refl, ap}
use Rattle.std.specs.Prelude.{replicate}
use Rattle.std.proofs.lemmas.List.Concat.{flat_map-cons}
use Rattle.bpf_decode.specs.declared.insn.Insn.{Insn}
use Rattle.bpf_decode.specs.declared.rule_set.RuleSet.{RuleSet}
use Rattle.bpf_decode.specs.declared.rule_set.RuleSet.TheVariants.{One, Two, Three}
use Rattle.bpf_decode.specs.Instruction.{slot_count}
use Rattle.bpf_decode.specs.Class as class
use Rattle.bpf_decode.specs.Class.{ClassMethod, begins}
use Rattle.loop_heads.specs.Loops.{PlainLoops}
use Rattle.loop_bytes.specs.HeadBytes.{AreLoopsOf}

-- whether an instruction begins at each slot
abbrev pub starts : List Insn → List Bool
starts [] = []
starts (i ∷ is) = true ∷ (replicate (slot_count i - 1) false ++ starts is)

pub same_starts : (is : List Insn) → class.starts is ≡ starts is
same_starts [] = refl
same_starts (i ∷ is) = flat_map-cons begins i is ∙ ap (λ (l : List Bool). begins i ++ l) (same_starts is)

-- what a method of a rule set may declare: loops are of set 3, and their heads stand at instructions
abbrev pub MayHave : RuleSet → ClassMethod → Option PlainLoops → Type 0
MayHave One m loops = loops ≡ None
MayHave Two m loops = loops ≡ None
MayHave Three m loops = AreLoopsOf (starts m.instructions) loops

-- as many loops as methods, each such as its method may have
abbrev pub AreLoops : RuleSet → List ClassMethod → List (Option PlainLoops) → Type 0
AreLoops rules [] [] = Unit {0}
AreLoops rules [] (l ∷ ls) = ⊥
AreLoops rules (m ∷ ms) [] = ⊥
AreLoops rules (m ∷ ms) (l ∷ ls) = MayHave rules m l × AreLoops rules ms ls

-- The verdict on a class whose methods may loop: a method that declares no loops is judged as ever, one that does by
-- its heads.
use Rattle.std.specs.Prelude.{◌≡◌, ◌⊎◌, ℕ, ◌+◌, List, [], ◌∷◌, Option, Some, None}
use Rattle.std.specs.List.{AllByRecursion}
use Rattle.bpf_decode.specs.declared.rule_set.RuleSet.{RuleSet}
use Rattle.bpf_decode.specs.Class.{ClassMethod, Class, IsClass}
use Rattle.bpf_decode.specs.Instruction.{slots}
use Rattle.bpf_machine.specs.Safe.{caps_of, IsSafe}
use Rattle.verifier.specs.declared.rule.Rule.{Rule}
use Rattle.verifier.specs.declared.refusal.Refusal.{Refusal}
use Rattle.verifier.specs.Verdict.{class_verdict, method_verdict, or_later}
use Rattle.loop_heads.specs.Loops.{PlainLoops}
use Rattle.loop_machine.specs.Runs.{IsSafeByBudget}
use Rattle.loop_tables.specs.Verdict.{loop_verdict}

-- a method by its loops: the first refused slot, and the lowest rule there
abbrev pub by_loops : RuleSet → ClassMethod → Option PlainLoops → Option (ℕ × Rule)
by_loops rules m None = method_verdict rules m
by_loops rules m (Some l) = loop_verdict (caps_of m) l.heads (slots m.instructions)

abbrev pub looped_verdict : RuleSet → ClassMethod → Option (ℕ × Rule)
looped_verdict rules m = by_loops rules m m.loops

-- the first refusal among methods, the first of which is method k
abbrev pub loops_verdict_from : RuleSet → ℕ → List ClassMethod → Option Refusal
loops_verdict_from rules k [] = None
loops_verdict_from rules k (m ∷ ms) = or_later k (looped_verdict rules m) (loops_verdict_from rules (k + 1) ms)

-- The verdict: the first method with a refusal, its lowest refused slot, and at it the lowest rule.
abbrev pub loops_verdict : Class → Option Refusal
loops_verdict c = loops_verdict_from c.rules 0 c.methods

-- the refusal of a method by its number in the class
abbrev pub IsFirstLooped : RuleSet → ℕ → ClassMethod → Refusal → Type 0
IsFirstLooped rules number m r = (r.method ≡ number) × (looped_verdict rules m ≡ Some (r.slot, r.rule))

-- a method is safe: to its exit, or by its budget
abbrev pub safe_by : ClassMethod → Option PlainLoops → Type 0
safe_by m None = IsSafe m
safe_by m (Some l) = IsSafeByBudget m l.budget

abbrev pub IsSafeLooped : ClassMethod → Type 0
IsSafeLooped m = safe_by m m.loops

-- a class each of whose methods is safe so
pub record IsLoopedClass (ms : List ClassMethod) : Type 0 where
  pub class : IsClass ms
  pub safe : AllByRecursion IsSafeLooped ms

-- Of a class without loops it is the verdict that all have.
abbrev pub WithoutLoopsIsOne : Type 0
WithoutLoopsIsOne = (c : Class) → AllByRecursion (λ m. m.loops ≡ None) c.methods → loops_verdict c ≡ class_verdict c

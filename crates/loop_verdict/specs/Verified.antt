-- What callers are told of a method with loops that was accepted.
use Rattle.std.specs.Prelude.{◌≡◌, ℕ, List, Option, Some}
use Rattle.bpf_decode.specs.declared.insn.Insn.{Insn}
use Rattle.bpf_decode.specs.Class.{ClassMethod, IsMethod}
use Rattle.bpf_decode.specs.Instruction.{slots}
use Rattle.bpf_machine.specs.declared.caps.Caps.{Caps}
use Rattle.bpf_machine.specs.Safe.{caps_of}
use Rattle.verifier.specs.declared.refusal.Refusal.{Refusal}
use Rattle.loop_heads.specs.Loops.{PlainLoops}
use Rattle.loop_machine.specs.Runs.{IsSafeByBudget}
use Rattle.loop_machine.specs.Typed.{NeverStuck}
use Rattle.loop_tables.specs.Verdict.{loop_verdict}

-- what a run by a budget takes of a method: its capacities, the budget, and the instruction that begins at each slot
pub record PlainLoopMethod : Type 0 where
  pub caps : Caps
  pub budget : ℕ
  pub code : List (Option Insn)

abbrev pub by_budget : ClassMethod → ℕ → PlainLoopMethod
by_budget m budget = record { caps = caps_of m; budget = budget; code = slots m.instructions }

-- a method within the limits that is safe by a budget, since its runs are never stuck
pub record IsLoopMethod (m : ClassMethod) (budget : ℕ) : Type 0 where
  pub method : IsMethod m
  pub never_stuck : NeverStuck m budget
  pub safe : IsSafeByBudget m budget

-- what a run takes is that of such a method
abbrev pub IsAccepted : PlainLoopMethod → Type 0
IsAccepted it = (m : ClassMethod) × (it ≡ by_budget m it.budget) × IsLoopMethod m it.budget

-- the refusal of a method by its number in the class
abbrev pub IsFirstByHeads : ℕ → ClassMethod → PlainLoops → Refusal → Type 0
IsFirstByHeads number m l r =
    (r.method ≡ number) × (loop_verdict (caps_of m) l.heads (slots m.instructions) ≡ Some (r.slot, r.rule))

-- What is kept of an accepted method (a step of the code, in private contracts).
use Rattle.std.specs.Prelude.{◌≡◌, Option, Some, None}
use Rattle.bpf_decode.specs.Class.{ClassMethod}
use Rattle.bpf_machine.specs.Safe.{IsSafe}
use Rattle.loop_heads.specs.Loops.{PlainLoops}
use Rattle.loop_machine.specs.Runs.{IsSafeByBudget}
use Rattle.loop_verdict.specs.Verified.{PlainLoopMethod, by_budget}
use Rattle.loop_classes.specs.declared.method.MethodRun.{MethodRun}
use Rattle.loop_classes.specs.declared.method.MethodRun.TheVariants.{Plain, Looped}

-- the method that runs so
abbrev pub method_of : MethodRun → ClassMethod
method_of (Plain m) = m
method_of (Looped m run) = m

-- what runs by a budget is the method by its own
abbrev pub RunsBy : ClassMethod → PlainLoopMethod → Option PlainLoops → Type 0
RunsBy m run None = ⊥
RunsBy m run (Some l) = (run ≡ by_budget m l.budget) × IsSafeByBudget m l.budget

-- a method without loops runs to its exit, and one with loops by its budget
abbrev pub IsRunOf : MethodRun → Type 0
IsRunOf (Plain m) = (m.loops ≡ None) × IsSafe m
IsRunOf (Looped m run) = RunsBy m run m.loops

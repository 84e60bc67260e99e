use Rattle.std.proofs.Common.{◌≡◌, drop}
use Rattle.class_loops.specs.Opened.{first_over}
use Rattle.class_loops.proofs.class.over_budget.Given as goal

-- of the methods that are left it is the same
abbrev pub invariant-loop-number : goal.invariant-loop-number
invariant-loop-number l = first_over l.most l.number (drop l.number l.method-items) ≡ first_over l.most 0 l.class.methods

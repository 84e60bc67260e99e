use Rattle.std.proofs.Common.{◌≡◌, drop}
use Rattle.verifier.specs.Verified.{method_named}
use Rattle.class_loops.proofs.class.place_of.Given as goal

-- what is left has the method that the class has
abbrev pub invariant-loop-n : goal.invariant-loop-n
invariant-loop-n l = method_named (drop l.n l.method-items) l.name ≡ method_named l.class l.name

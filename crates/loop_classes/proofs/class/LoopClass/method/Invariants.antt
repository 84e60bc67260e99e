use Rattle.std.proofs.Common.{◌≡◌, drop}
use Rattle.verifier.specs.Verified.{method_named}
use Rattle.loop_classes.proofs.class.LoopClass.method.Given as goal

-- what is left has the method that the class has
abbrev pub invariant-loop-m : goal.invariant-loop-m
invariant-loop-m l = method_named (drop l.m-index l.m-items) l.name ≡ method_named l.self l.name

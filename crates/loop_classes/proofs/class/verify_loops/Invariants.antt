use Rattle.std.proofs.Common.{◌≡◌, take, drop}
use Rattle.std.specs.List.{AllByRecursion}
use Rattle.loop_classes.specs.Verdict.{IsSafeLooped, loops_verdict_from, loops_verdict}
use Rattle.loop_classes.proofs.class.verify_loops.Given as goal

abbrev pub invariant-loop-number : goal.invariant-loop-number
invariant-loop-number l = record {
  safe : AllByRecursion IsSafeLooped (take l.number l.fn.image.methods);
  sofar : l.methods.items ≡ take l.number l.fn.image.methods;
  rest : loops_verdict_from l.fn.image.rules l.number (drop l.number l.fn.image.methods) ≡ loops_verdict l.fn.image;
}

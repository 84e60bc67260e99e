use Rattle.std.proofs.Common.{◌≡◌, take, drop}
use Rattle.std.specs.List.{AllByRecursion}
use Rattle.bpf_machine.specs.Safe.{IsSafe, IsSafeWithin}
use Rattle.verifier.specs.Verdict.{verdict_from, class_verdict}
use Rattle.verifier.proofs.class.verify.Given as goal

abbrev pub invariant-loop-number : goal.invariant-loop-number
invariant-loop-number l = record {
  safe : AllByRecursion IsSafe (take l.number l.fn.image.methods);
  within : AllByRecursion IsSafeWithin (take l.number l.fn.image.methods);
  sofar : l.methods.items ≡ take l.number l.fn.image.methods;
  rest : verdict_from l.fn.image.rules l.number (drop l.number l.fn.image.methods) ≡ class_verdict l.fn.image;
}

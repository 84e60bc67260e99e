use Rattle.std.proofs.Common.{◌≡◌, ◌≤◌, drop, map, Bor, List, ℕ}
use Rattle.class_tests.specs.Cases.{opening}
use Rattle.class_tests.specs.Tests.{end_after}
use Rattle.class_tests.specs.inner.Made.{calls_of, methods_of}
use Rattle.class_tests.proofs.tests.take_lines.Given as goal

-- the lines that are left decide
abbrev pub invariant-loop-line : goal.invariant-loop-line
invariant-loop-line l =
    let text : Bor (List ℕ) → List ℕ = λ t. t.now in
    let calls = calls_of l.class in
    let methods = methods_of l.class in
    record {
      number : l.number ≡ l.line-index;
      few : l.count ≤ l.number;
      same : end_after calls methods l.number l.count l.case (map text (drop l.line-index l.lines)) ≡ end_after calls methods 0 0 opening (map text l.lines);
    }

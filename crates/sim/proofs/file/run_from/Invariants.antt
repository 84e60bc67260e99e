use Rattle.std.proofs.Common.{◌≡◌, take, map, Bor, List, ℕ}
use Rattle.sim.proofs.Reaching.{Going}
use Rattle.sim.proofs.file.run_from.Given as goal

-- the lines above were done, and their text was printed
abbrev pub invariant-loop-line : goal.invariant-loop-line
invariant-loop-line g l =
    let text : Bor (List ℕ) → List ℕ = λ t. t.now in
    let printed = g.O.Output.printed in
    let failed = g.O.Output.failed in
    record {
      going : Going l.setup.has_objects g.C.Classes.classes (map text l.setup.names.now) (take l.line-index (map text l.lines)) l.number l.world (printed l.initial.out) (printed l.out) (failed l.initial.out) (failed l.out);
      number : l.number ≡ l.line-index;
    }

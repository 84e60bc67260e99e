use Rattle.std.proofs.Common.{◌≡◌, take, map, Bor, List, ℕ}
use Rattle.sim.proofs.Picturing.{Doing}
use Rattle.sim.proofs.drawing.take_lines.Given as goal

-- the lines above were done
abbrev pub invariant-loop-line : goal.invariant-loop-line
invariant-loop-line g l =
    let text : Bor (List ℕ) → List ℕ = λ t. t.now in
    record {
      number : l.number ≡ l.line-index;
      going : Doing g.C.Classes.classes (map text l.setup.names.now) (take l.line-index (map text l.lines)) l.number l.world;
    }

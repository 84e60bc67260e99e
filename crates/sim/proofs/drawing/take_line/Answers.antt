use Rattle.std.proofs.Common.{Bor, List, ℕ, map, sym, ◌∙◌}
use Rattle.sim.proofs.Picturing.{line_done}
use Rattle.sim.proofs.drawing.take_line.Goals as goal

pub returns-then-is_bad : goal.returns-then-is_bad
returns-then-is_bad g c =
    line_done _ (map (λ (n : Bor (List ℕ)). n.now) c.args.setup.now.names.now) c.args.text.now _ _ _ _ _
    c.in_ok-line.ensures c.in_ok-taken.ensures (sym c.if-is_bad.true ∙ c.is_bad.ensures)

pub returns : goal.returns
returns g c =
    line_done _ (map (λ (n : Bor (List ℕ)). n.now) c.args.setup.now.names.now) c.args.text.now _ _ _ _ _
    c.in_ok-line.ensures c.in_ok-taken.ensures (sym c.if-is_bad.false ∙ c.is_bad.ensures)

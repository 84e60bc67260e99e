use Rattle.std.proofs.Common.{Bor, List, ℕ, map}
use Rattle.sim.proofs.Reaching.{line_taken}
use Rattle.sim.proofs.file.take_line.Goals as goal

pub returns : goal.returns
returns g c =
    line_taken _ (map (λ (n : Bor (List ℕ)). n.now) c.args.setup.now.names.now) c.args.line.now _ _ _ _ _ _ _
    c.in_ok-line.ensures c.in_ok-taken.ensures c.is_bad-is_bad.ensures c.in_ok-text.ensures

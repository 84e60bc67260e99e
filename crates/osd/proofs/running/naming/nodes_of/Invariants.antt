use Rattle.std.proofs.Common.{◌≡◌, ◌+◌, ◌*◌, vec_len}
use Rattle.std.specs.Prelude.{All}
use Rattle.osd.specs.Unnamed.{IsUnused}
use Rattle.osd.proofs.running.naming.nodes_of.Given as goal

abbrev pub invariant-loop-number : goal.invariant-loop-number
invariant-loop-number g l = (vec_len l.nodes ≡ l.number) × (vec_len l.writers + l.number * l.config.groups ≡ vec_len l.initial.writers) × All (IsUnused g.N.BoardName.board) l.writers.items

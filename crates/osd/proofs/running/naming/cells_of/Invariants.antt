use Rattle.std.proofs.Common.{◌≡◌, ◌+◌, vec_len}
use Rattle.std.specs.Prelude.{All}
use Rattle.osd.specs.Unnamed.{IsUnused}
use Rattle.osd.proofs.running.naming.cells_of.Given as goal

abbrev pub invariant-loop-group : goal.invariant-loop-group
invariant-loop-group g l = (vec_len l.cells ≡ l.group) × (vec_len l.writers + l.group ≡ vec_len l.initial.writers) × All (IsUnused g.N.BoardName.board) l.writers.items

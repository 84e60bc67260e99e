use Rattle.std.proofs.Common.{◌≡◌, ◌≤◌, [], map, vec_len}
use Rattle.std.specs.Prelude.{vec_capacity}
use Rattle.std.specs.List.{range_with_len}
use Rattle.commit_board.specs.Tokens.{new_writer}
use Rattle.commit_board.specs.Rows.{writes}
use Rattle.commit_board.proofs.board.Board.new.Given as goal

abbrev pub invariant-loop-row : goal.invariant-loop-row
invariant-loop-row l = (l.row-end ≡ l.fn.rows) × (l.seat.table_id ≡ l.table.shared.table_id) × (l.seat.me ≡ (writes l.row l.fn.rows [], [])) × (l.writers.items ≡ map (new_writer l.table.shared.table_id) (range_with_len 0 l.row)) × (vec_len l.writers ≡ l.row) × (l.fn.rows ≤ vec_capacity l.writers)

use Rattle.std.proofs.Common.{sym, ◌∙◌, ap}
use Rattle.commit_board.proofs.Moves.{tells}
use Rattle.commit_board.proofs.board.Board.tell.Goals as goal

pub split_seat-requires : goal.split_seat-requires
split_seat-requires c =
    let tie = ap (λ r. r.board) c.seen.view_is ∙ c.requires ∙ sym c.self.view_is in
    (tie, c.self.invariant.1, tells c.self.inside.table.shared.key _ _)

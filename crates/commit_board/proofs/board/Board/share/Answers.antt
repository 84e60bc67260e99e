use Rattle.std.proofs.Common.{sym, ◌∙◌, ap, ℕ, []}
use Rattle.commit_board.specs.Lists.{list_at, put_at}
use Rattle.commit_board.proofs.Lists.{list_at-put, list_at-put_else}
use Rattle.commit_board.proofs.Moves.{shares}
use Rattle.commit_board.proofs.board.Board.share.Goals as goal

pub split_seat-requires : goal.split_seat-requires
split_seat-requires c =
    let tie = ap (λ r. r.board) c.writer.view_is ∙ c.requires ∙ sym c.self.view_is in
    (tie, c.self.invariant.1, shares c.self.inside.table.shared.key _ _ _ _ (ap (λ m. m.0) c.writer.invariant.1))

pub returns-clause-board : goal.returns-clause-board
returns-clause-board c = c.split_seat.ensures.3 ∙ (ap (λ r. r.board) c.writer.view_is ∙ c.requires)

-- turned by share_gives_an_empty_note
pub returns-clause-row : goal.returns-clause-row
returns-clause-row c =
    let e = c.split_seat.ensures in
    let row = ap (λ m. m.0.first) c.writer.invariant.1 ∙ ap (λ r. r.row) c.writer.view_is in
    ap (λ m. list_at m.0.known c.args.writer.now.row) e.4 ∙ ap (λ (k : ℕ). list_at (put_at [] k c.writer.inside.seat.me.0.written) c.args.writer.now.row) row ∙ list_at-put [] c.args.writer.now.row c.writer.inside.seat.me.0.written ∙ ap (λ r. r.list) c.writer.view_is

pub returns-clause-others : goal.returns-clause-others
returns-clause-others c i apart =
    let e = c.split_seat.ensures in
    let row = ap (λ m. m.0.first) c.writer.invariant.1 ∙ ap (λ r. r.row) c.writer.view_is in
    ap (λ m. list_at m.0.known i) e.4 ∙ ap (λ (k : ℕ). list_at (put_at [] k c.writer.inside.seat.me.0.written) i) row ∙ list_at-put_else [] c.args.writer.now.row i c.writer.inside.seat.me.0.written apart

use Rattle.std.proofs.Common.{sym, ◌∙◌, ap, subst, ◌<◌, ℕ}
use Rattle.commit_board.specs.declared.view.View.{View}
use Rattle.commit_board.specs.Rows.{view_of}
use Rattle.commit_board.proofs.Moves.{tells, informs, compares}
use Rattle.commit_board.proofs.board.Board.compare.Goals as goal

pub split_seat-seat-requires : goal.split_seat-seat-requires
split_seat-seat-requires c =
    let tie = ap (λ r. r.board) c.seen.view_is ∙ c.requires.seen ∙ sym c.self.view_is in
    (tie, c.self.invariant.1, tells c.self.inside.table.shared.key _ _)

pub join_seat-requires : goal.join_seat-requires
join_seat-requires c =
    let tie = ap (λ r. r.board) c.writer.view_is ∙ c.requires.writer ∙ sym c.self.view_is in
    let tied = ap (λ r. r.board) c.seen.view_is ∙ c.requires.seen ∙ sym c.self.view_is in
    let e = c.split_seat-seat.ensures in
    (tie, e.3 ∙ tied, ap (λ m. m.1) e.4, c.self.invariant.1, informs c.self.inside.table.shared.key _ _ _ _ _ (ap (λ m. m.0) e.4))

pub load-requires : goal.load-requires
load-requires c =
    let tie = ap (λ r. r.board) c.writer.view_is ∙ c.requires.writer ∙ sym c.self.view_is in
    let within : c.writer.inside.row < c.self.inside.table.shared.table_id.words = subst (λ (k : ℕ). c.writer.inside.row < k) (ap (λ t. t.words) tie) c.writer.invariant.0 in
    let below : c.writer.inside.row < c.self.inside.table.shared.key = subst (λ (k : ℕ). c.writer.inside.row < k) (sym c.self.invariant.0) within in
    let received = c.split_seat-seat.result.me.0.known in
    let is = c.join_seat.ensures.2 ∙ (λ i. ((λ (v : View). view_of v.first v.end v.written v.known received) (c.writer.invariant.1 i).0, (c.writer.invariant.1 i).1)) in
    (c.join_seat.ensures.0 ∙ tie, within, compares c.self.inside.table.shared.key _ _ c.writer.inside.row _ c.writer.inside.seat.me.0.written received below is)

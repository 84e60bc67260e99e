use Rattle.std.proofs.Common.{sym, ◌∙◌, ap, subst, refl, ◌<◌, ℕ, length}
use Rattle.pg_log.specs.declared.group.TheConstants.{LOG_LIMIT}
use Rattle.commit_board.proofs.Moves.{adds}
use Rattle.commit_board.proofs.board.Board.commit_said.Goals as goal

pub fetch_add-requires : goal.fetch_add-requires
fetch_add-requires g c =
    let tie = ap (λ r. r.board) c.writer.view_is ∙ c.requires.board ∙ sym c.self.view_is in
    let within : c.writer.inside.row < c.self.inside.table.shared.table_id.words = subst (λ (k : ℕ). c.writer.inside.row < k) (ap (λ t. t.words) tie) c.writer.invariant.0 in
    let below : c.writer.inside.row < c.self.inside.table.shared.key = subst (λ (k : ℕ). c.writer.inside.row < k) (sym c.self.invariant.0) within in
    let room : length c.writer.inside.seat.me.0.written < LOG_LIMIT = subst (λ (k : ℕ). k < LOG_LIMIT) (sym (ap (λ r. length r.list) c.writer.view_is)) c.requires.room in
    (tie, within, adds c.self.inside.table.shared.key _ _ _ 1 _ _ _ below room refl c.writer.invariant.1)

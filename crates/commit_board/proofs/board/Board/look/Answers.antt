use Rattle.std.proofs.Common.{sym, ◌∙◌, ap, subst, ◌<◌, ℕ, length, List}
use mathlib.Core.List.{IsPrefix}
use Rattle.pg_log.specs.Requests.{ClientRequest}
use Rattle.commit_board.specs.Lists.{list_at}
use Rattle.commit_board.proofs.Lists.{list_at-put, list_at-put_else}
use Rattle.commit_board.proofs.Moves.{looks}
use Rattle.commit_board.proofs.board.Board.look.Goals as goal

pub load-requires : goal.load-requires
load-requires c =
    let tie = ap (λ r. r.board) c.seen.view_is ∙ c.requires.board ∙ sym c.self.view_is in
    let within : c.args.row < c.self.inside.table.shared.table_id.words = subst (λ (k : ℕ). c.args.row < k) (sym (ap (λ t. t.words) c.self.view_is)) c.requires.row in
    let below : c.args.row < c.self.inside.table.shared.key = subst (λ (k : ℕ). c.args.row < k) (sym c.self.invariant.0) within in
    (tie, within, looks c.self.inside.table.shared.key _ _ _ _ _ below c.seen.invariant)

-- turned by look_answers_0
pub returns-clause-length : goal.returns-clause-length
returns-clause-length c =
    let t = c.load.ensures.2 in
    sym t.1 ∙ ap length (sym (list_at-put c.seen.inside.seat.me.0.known c.args.row t.0)) ∙ sym (ap (λ m. length (list_at m.0.known c.args.row)) t.3)

pub returns-clause-row : goal.returns-clause-row
returns-clause-row c =
    let t = c.load.ensures.2 in
    let old = ap (λ k. list_at k.lists c.args.row) c.seen.view_is in
    let new = sym (list_at-put c.seen.inside.seat.me.0.known c.args.row t.0) ∙ sym (ap (λ m. list_at m.0.known c.args.row) t.3) in
    subst (λ (x : List ClientRequest). IsPrefix x (list_at c.load.new.seat.me.0.known c.args.row)) old (subst (λ (x : List ClientRequest). IsPrefix (list_at c.seen.inside.seat.me.0.known c.args.row) x) new t.2)

pub returns-clause-others : goal.returns-clause-others
returns-clause-others c i ne =
    let t = c.load.ensures.2 in
    ap (λ m. list_at m.0.known i) t.3 ∙ list_at-put_else c.seen.inside.seat.me.0.known c.args.row i t.0 ne ∙ ap (λ k. list_at k.lists i) c.seen.view_is

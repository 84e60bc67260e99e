use Rattle.std.proofs.Common.{sym, ◌∙◌, ap, rules}
use Rattle.commit_board.proofs.Moves.{freshens}
use Rattle.commit_board.proofs.board.Board.fresh.Goals as goal

pub split_seat-requires : goal.split_seat-requires
split_seat-requires c =
    let tie = ap (λ r. r.board) c.seen.view_is ∙ c.requires ∙ sym c.self.view_is in
    (tie, c.self.invariant.1, freshens c.self.inside.table.shared.key _ _)

-- turned by fresh_knows
pub returns-clause-new : goal.returns-clause-new
returns-clause-new c = search rules

use Rattle.std.proofs.Common.{◌≡◌, ◌⊎◌, sym, ◌∙◌, ap, subst, List}
use mathlib.Core.List.{IsPrefix}
use Rattle.pg_log.specs.Requests.{ClientRequest}
use Rattle.commit_board.specs.Lists.{list_at}
use Rattle.commit_board.specs.declared.view.View.{View}
use Rattle.commit_board.specs.Rows.{view_of}
use Rattle.commit_board.proofs.Moves.{informs, unites}
use Rattle.commit_board.proofs.board.Board.take_in.Goals as goal

pub join_seat-requires : goal.join_seat-requires
join_seat-requires c =
    let tie = ap (λ r. r.board) c.seen.view_is ∙ c.requires.seen ∙ sym c.self.view_is in
    let tied = ap (λ r. r.board) c.note.view_is ∙ c.requires.note ∙ sym c.self.view_is in
    (tie, tied, ap (λ m. m.1) c.note.invariant, c.self.invariant.1, informs c.self.inside.table.shared.key _ _ _ _ _ (ap (λ m. m.0) c.note.invariant))

pub load-requires : goal.load-requires
load-requires c =
    let tie = ap (λ r. r.board) c.seen.view_is ∙ c.requires.seen ∙ sym c.self.view_is in
    let is = c.join_seat.ensures.2 ∙ (λ i. ((λ (v : View). view_of v.first v.end v.written v.known c.note.inside.seat.me.0.known) (c.seen.invariant i).0, (c.seen.invariant i).1)) in
    (c.join_seat.ensures.0 ∙ tie, c.self.invariant.1, unites c.self.inside.table.shared.key _ _ 0 _ _ _ is)

pub returns-clause-known : goal.returns-clause-known
returns-clause-known c i =
    let was = ap (λ m. list_at m.0.known i) c.join_seat.ensures.2 ∙ ap (λ k. list_at k.lists i) c.seen.view_is in
    subst (λ (x : List ClientRequest). IsPrefix x (list_at c.load.new.seat.me.0.known i)) was (c.load.ensures.2.0 i).0

pub returns-clause-received : goal.returns-clause-received
returns-clause-received c i =
    let was = ap (λ m. list_at m.0.received i) c.join_seat.ensures.2 ∙ ap (λ k. list_at k.lists i) c.note.view_is in
    subst (λ (x : List ClientRequest). IsPrefix x (list_at c.load.new.seat.me.0.known i)) was (c.load.ensures.2.0 i).1

pub returns-clause-either : goal.returns-clause-either
returns-clause-either c i =
    let was = ap (λ m. list_at m.0.known i) c.join_seat.ensures.2 ∙ ap (λ k. list_at k.lists i) c.seen.view_is in
    let received = ap (λ m. list_at m.0.received i) c.join_seat.ensures.2 ∙ ap (λ k. list_at k.lists i) c.note.view_is in
    subst (λ (p : List ClientRequest × List ClientRequest). (list_at c.load.new.seat.me.0.known i ≡ p.0) ⊎ (list_at c.load.new.seat.me.0.known i ≡ p.1)) (λ j. (was j, received j)) (c.load.ensures.2.0 i).2

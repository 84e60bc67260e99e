use Rattle.std.proofs.Common.{◌≡◌, sym, ◌∙◌, ap, rules, ◌<◌, ℕ, map, refl, arith, []}
use Rattle.std.specs.List.{range_with_len}
use Rattle.std.proofs.lemmas.Grind.{common_steps}
use Rattle.commit_board.specs.Rows.{writes}
use Rattle.commit_board.specs.Tokens.{writer_of, new_writer}
use Rattle.commit_board.proofs.Lists.{more_rows}
use Rattle.commit_board.proofs.Moves.{begins, one_row_splits, freshens}
use Rattle.commit_board.proofs.board.Board.new.Goals as goal

pub of_words-requires : goal.of_words-requires
of_words-requires c = begins c.args.rows _ (search rules)

pub split_seat-requires : goal.split_seat-requires
split_seat-requires c =
    let i = c.loop-row.invariant in
    let key : c.in_ok-table.table.shared.key ≡ c.args.rows = c.in_ok-table.ensures.5 in
    let words : c.in_ok-table.table.shared.table_id.words ≡ c.args.rows = c.in_ok-table.ensures.0 ∙ c.as_slice.ensures.len ∙ c.in_ok-words.ensures.len in
    let below : c.loop-row.row < c.in_ok-table.table.shared.key = omega arith in
    (i.1, omega arith, one_row_splits c.in_ok-table.table.shared.key _ c.loop-row.row _ below (ap (λ m. m.0) i.2 ∙ ap (λ (k : ℕ). writes c.loop-row.row k []) (sym key)))

pub split_seat-requires-2 : goal.split_seat-requires-2
split_seat-requires-2 c =
    let words : c.in_ok-table.table.shared.table_id.words ≡ c.args.rows = c.in_ok-table.ensures.0 ∙ c.as_slice.ensures.len ∙ c.in_ok-words.ensures.len in
    (c.loop-row.invariant.1, omega arith, freshens c.in_ok-table.table.shared.key _ _)

pub returns-clause-writers : goal.returns-clause-writers
returns-clause-writers c =
    let all : c.loop-row.row ≡ c.args.rows = omega (arith, c.loop-row-test.false, c.loop-row.auto.row-end) in
    c.loop-row.invariant.3 ∙ ap (λ n. map (new_writer c.in_ok-table.table.shared.table_id) (range_with_len 0 n)) all

pub returns-clause-rows : goal.returns-clause-rows
returns-clause-rows c = c.in_ok-table.ensures.0 ∙ c.as_slice.ensures.len ∙ c.in_ok-words.ensures.len

pub loop-row-preserved : goal.loop-row-preserved
loop-row-preserved c =
    let i = c.loop-row.invariant in
    let e = c.split_seat.ensures in
    let board = e.3 ∙ i.1 in
    let written = ap (λ m. m.0.written) e.4 ∙ ap (λ m. m.0.written) i.2 in
    let items = more_rows (new_writer c.in_ok-table.table.shared.table_id) c.loop-row.row c.loop-row.writers.items c.push_reserved.new.self.items _ i.3 (λ k. writer_of (board k) c.loop-row.row (written k)) c.push_reserved.ensures.items in
    (refl, grind (arith, common_steps), grind (arith, common_steps), items, grind (arith, common_steps), grind (arith, common_steps))

pub loop-row-init : goal.loop-row-init
loop-row-init c = grind (arith, common_steps)

pub returns-clause-seen : goal.returns-clause-seen
returns-clause-seen c = grind (arith, common_steps)

use Rattle.std.proofs.Common.{◌≡◌, length}
use Rattle.tests_thread.proofs.boards.commit_many.Given as goal

abbrev pub invariant-loop : goal.invariant-loop
invariant-loop g l = record {
  board : l.writer.board ≡ l.board;
  row : l.writer.row ≡ l.initial.writer.row;
  length : length l.writer.list ≡ l.counter;
}

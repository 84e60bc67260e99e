use Rattle.std.proofs.Common.{◌≡◌}
use Rattle.tests_thread.proofs.boards.watch.Given as goal

abbrev pub invariant-loop : goal.invariant-loop
invariant-loop l = l.seen.board ≡ l.board

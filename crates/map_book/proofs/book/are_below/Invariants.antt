use Rattle.std.proofs.Common.{◌≡◌, drop}
use Rattle.map_book.specs.Book.{are_below}
use Rattle.map_book.proofs.book.are_below.Given as goal

abbrev pub invariant-loop-node : goal.invariant-loop-node
invariant-loop-node l = are_below l.bound (drop l.node-index l.nodes) ≡ are_below l.bound l.nodes

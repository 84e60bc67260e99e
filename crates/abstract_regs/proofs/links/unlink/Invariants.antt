use Rattle.std.proofs.Common.{◌≡◌, ◌≤◌, length}
use Rattle.std.specs.Prelude.{max, min}
use Rattle.abstract_regs.specs.Link.{unlinked}
use Rattle.abstract_regs.proofs.LinkLists.{span_to}
use Rattle.abstract_regs.proofs.links.unlink.Given as goal

abbrev pub invariant-loop-place : goal.invariant-loop-place
invariant-loop-place l = record {
  long : length l.links ≡ length l.initial.links;
  most : l.place ≤ max l.fn.first (min l.fn.end (length l.links));
  unlinked : l.links ≡ unlinked (span_to l.fn.first l.place) 0 l.initial.links;
}

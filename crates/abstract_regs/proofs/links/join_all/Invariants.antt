use Rattle.std.proofs.Common.{◌≡◌, take, drop, length}
use Rattle.abstract_regs.specs.Link.{join_links}
use Rattle.abstract_regs.proofs.links.join_all.Given as goal

abbrev pub invariant-loop-i : goal.invariant-loop-i
invariant-loop-i l = record {
  long : length l.links ≡ length l.initial.links;
  joined : take l.i l.links ≡ join_links (take l.i l.initial.links) (take l.i l.others);
  rest : drop l.i l.links ≡ drop l.i l.initial.links;
}

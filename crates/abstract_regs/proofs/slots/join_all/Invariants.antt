use Rattle.std.proofs.Common.{◌≡◌, take, drop, length}
use Rattle.abstract_regs.specs.Frame.{join_each}
use Rattle.abstract_regs.specs.Seen.{seen_each}
use Rattle.abstract_regs.proofs.slots.join_all.Given as goal

abbrev pub invariant-loop-i : goal.invariant-loop-i
invariant-loop-i l = record {
  long : length l.kinds ≡ length l.initial.kinds;
  joined : seen_each (take l.i l.kinds) ≡ join_each (seen_each (take l.i l.initial.kinds)) (seen_each (take l.i l.others));
  rest : drop l.i l.kinds ≡ drop l.i l.initial.kinds;
}

use Rattle.std.proofs.Common.{◌≡◌, ◌+◌, ◌++◌, length, take, drop, List}
use Rattle.std.specs.Option.{option_map}
use Rattle.abstract_num.specs.Plain.{view}
use Rattle.abstract_regs.specs.Kind.{PlainKind}
use Rattle.abstract_regs.specs.Links.{told_kinds}
use Rattle.abstract_regs.specs.Seen.{seen_each}
use Rattle.abstract_regs.proofs.telling.tell_kinds.Given as goal

abbrev pub invariant-loop-i : goal.invariant-loop-i
invariant-loop-i l = record {
  long : length l.kinds ≡ length l.initial.kinds;
  told :
      told_kinds l.fn.precision (view l.fn.from.number) l.fn.from.link l.fn.from.place l.fn.links l.fn.first (seen_each l.initial.kinds)
      ≡ option_map (λ (ys : List PlainKind). seen_each (take l.i l.kinds) ++ ys) (told_kinds l.fn.precision (view l.fn.from.number) l.fn.from.link l.fn.from.place l.fn.links (l.fn.first + l.i) (seen_each (drop l.i l.kinds)));
}

-- How the printer goes: a step of the code, in private contracts.
use Rattle.std.specs.Prelude.{List, [], Option, Some, None}
use Rattle.loop_heads.specs.Loops.{PlainHead, PlainLoops}
use Rattle.loop_asm.specs.declared.print.Slots.{Slots}
use Rattle.loop_asm.specs.declared.print.Slots.TheVariants.{Hidden, Shown}
use Rattle.loop_asm.specs.Canonical.{Written, alone, with_slot}

-- how an instruction's line is written
abbrev pub written : Slots → Written
written Hidden = alone
written Shown = with_slot

-- the heads of loops, if there are some
abbrev pub heads_of : Option PlainLoops → List PlainHead
heads_of None = []
heads_of (Some l) = l.heads

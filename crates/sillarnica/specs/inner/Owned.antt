-- The code's own; no promise of the crate rests on it.
-- What a pointer that C keeps owns: if it holds a class, what a box of the class does.
use Rattle.std.specs.Prelude.{Option, Some, None}
use base.Fml.{Fml, ftrue}
use base.Stored.{Coded}
use denote.RawPtr.{Ptr}
use Rattle.std.specs.Coded.{coded_option}
use Rattle.std.specs.Global.{Global}
use Rattle.std.specs.Box.Ownership.{box_owns}
use Rattle.std.specs.contracts.impls.GlobalAllocator.TheImpl.{ghosts}
use Rattle.class_loops.specs.declared.held.HeldClass.{HeldClass}
use Rattle.class_loops.specs.contracts.held.HeldClass.{the_row}

-- the class that is owned
abbrev pub Held : Type 0
Held = HeldClass

abbrev pub pointer_owns : Global → Ptr → Option HeldClass → Fml
pointer_owns alloc p None = ftrue
pointer_owns alloc p (Some x) = box_owns (ghosts.dealloc_token alloc) the_row p x

abbrev pub coded_class : Coded (Option HeldClass)
coded_class = coded_option the_row.coded

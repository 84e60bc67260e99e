-- What the rules ask of kinds.
use Rattle.std.specs.Prelude.{ℕ, Bool, true, false, nat_le, not}
use Rattle.bpf_decode.specs.declared.operation.OpWidth.{OpWidth}
use Rattle.bpf_decode.specs.declared.operation.OpWidth.TheVariants.{Bits32, Bits64}
use Rattle.bpf_decode.specs.declared.operation.Arithmetic.{Arithmetic}
use Rattle.bpf_decode.specs.Values.{may_store, moves_pointer, is_addition}
use Rattle.bpf_machine.specs.declared.caps.Caps.{Caps}
use Rattle.bpf_machine.specs.State.{size}
use Rattle.abstract_num.specs.declared.precision.Precision.{Precision}
use Rattle.abstract_regs.specs.Kind.{PlainKind, Unset, Num, Ptr, is_ptr, access_fits, range_fits}

-- arithmetic with a pointer other than a number added to it or subtracted from it, in 64 bits
abbrev pub alu_refused : OpWidth → Arithmetic → PlainKind → PlainKind → Bool
alu_refused bits operation (Ptr r k) (Num l) = not (moves_pointer bits operation)
alu_refused bits operation (Num k) (Ptr r l) = not (is_addition bits operation)
alu_refused bits operation (Ptr r k) (Ptr q l) = true
alu_refused bits operation (Num k) (Num l) = false
alu_refused bits operation Unset y = false
alu_refused bits operation (Num k) Unset = false
alu_refused bits operation (Ptr r k) Unset = false

-- a copy of a pointer in 32 bits
abbrev pub mov_refused : OpWidth → PlainKind → Bool
mov_refused Bits64 x = false
mov_refused Bits32 x = is_ptr x

-- all of the w bytes at a distance from it are in its region, whatever it points to
abbrev pub stays : Precision → Caps → PlainKind → ℕ → ℕ → Bool
stays precision caps Unset distance w = false
stays precision caps (Num k) distance w = false
stays precision caps (Ptr r k) distance w = access_fits precision k distance w (size caps r)

-- it points into the region that is read only
abbrev pub is_read_only : PlainKind → Bool
is_read_only Unset = false
is_read_only (Num k) = false
is_read_only (Ptr r k) = not (may_store r)

-- a number that is at most n
abbrev pub is_at_most : ℕ → PlainKind → Bool
is_at_most n Unset = false
is_at_most n (Num k) = nat_le k.high n
is_at_most n (Ptr r k) = false

-- A range of a helper, by the kinds of its pointer and its length. One whose pointer is a number or
-- whose length is a pointer is of the wrong kind, and neither of these.
abbrev pub range_leaves : Caps → PlainKind → PlainKind → Bool
range_leaves caps (Ptr r k) (Num l) = not (range_fits k l (size caps r))
range_leaves caps (Ptr r k) Unset = false
range_leaves caps (Ptr r k) (Ptr q l) = false
range_leaves caps (Num k) y = false
range_leaves caps Unset y = false

-- a range in a region that may not be written
abbrev pub range_is_read_only : PlainKind → PlainKind → Bool
range_is_read_only (Ptr r k) (Num l) = not (may_store r)
range_is_read_only (Ptr r k) Unset = false
range_is_read_only (Ptr r k) (Ptr q l) = false
range_is_read_only (Num k) y = false
range_is_read_only Unset y = false

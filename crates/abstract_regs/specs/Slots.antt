-- What is known of the stack's slots of eight bytes: a kind for each, in a list by slot. In rule
-- set 1 the list is empty, so that what is said here of slots says nothing there.
use Rattle.std.specs.Prelude.{ℕ, ◌+◌, ◌*◌, ◌/◌, ◌%◌, ◌==◌, ◌&&◌, nat_lt, List, [], ◌∷◌, Option, Some, None, Bool, true}
use Rattle.std.specs.Prelude.{false, if◌then◌else◌, slice_get, slice_set}
use Rattle.abstract_num.specs.declared.precision.Precision.{Precision}
use Rattle.abstract_num.specs.Plain.{Plain, any}
use Rattle.abstract_regs.specs.declared.content.Content.{Content}
use Rattle.abstract_regs.specs.declared.content.Content.TheVariants as contents
use Rattle.abstract_regs.specs.Kind.{PlainKind, Unset, Num, Ptr, is_unset, is_ptr, last_place}
use Rattle.bpf_decode.specs.declared.region.Region.TheVariants.{Input, Output, Stack}

-- bytes of the stack: the lowest place of the first, and the one after the highest place of the
-- last
pub record Span : Type 0 where
  pub low : ℕ
  pub high : ℕ

-- slot j may have a byte of them
abbrev pub touches : Option Span → ℕ → Bool
touches None j = false
touches (Some s) j = nat_lt (8 * j) s.high && nat_lt s.low (8 * j + 8)

-- ---- accesses

-- where an access through a kind may be in the stack
abbrev pub stack_place : Precision → PlainKind → ℕ → Option Plain
stack_place precision (Ptr Stack k) distance = last_place precision k distance
stack_place precision (Ptr Input k) distance = None
stack_place precision (Ptr Output k) distance = None
stack_place precision (Num k) distance = None
stack_place precision Unset distance = None

-- the w bytes of an access at a place; none, if no place is left
abbrev pub access_span : Option Plain → ℕ → Option Span
access_span None w = None
access_span (Some place) w = Some (record { low = place.low; high = place.high + w })

-- the slot that an access is: eight bytes at one place, which is a multiple of 8
abbrev pub whole_slot : Option Plain → ℕ → Option ℕ
whole_slot None w = None
whole_slot (Some place) w =
    if (w == 8) && ((place.low == place.high) && (place.low % 8 == 0)) then Some (place.low / 8) else None

-- what is known of the slot that an access is, if slots are known
abbrev pub slot_kind : List PlainKind → Option ℕ → Option PlainKind
slot_kind slots None = None
slot_kind slots (Some j) = slice_get slots j

-- ---- a helper's ranges

-- the bytes from an offset on, that many; none, if the length can only be 0
abbrev pub range_span : Plain → Plain → Option Span
range_span at len = if len.high == 0 then None else Some (record { low = at.low; high = at.high + len.high })

-- those of a range that is in the stack, by the kinds of its pointer and its length
abbrev pub stack_range : PlainKind → PlainKind → Option Span
stack_range (Ptr Stack at) (Num len) = range_span at len
stack_range (Ptr Stack at) Unset = None
stack_range (Ptr Stack at) (Ptr q l) = None
stack_range (Ptr Input at) y = None
stack_range (Ptr Output at) y = None
stack_range (Num k) y = None
stack_range Unset y = None

-- ---- what becomes of slots

-- a slot that was overwritten in part: some number, if it was one
abbrev pub overwritten : PlainKind → PlainKind
overwritten Unset = Unset
overwritten (Num k) = Num any
overwritten (Ptr r k) = Unset

-- each slot that may have one of the bytes is overwritten; the first of these slots is slot j
abbrev pub spoiled : Option Span → ℕ → List PlainKind → List PlainKind
spoiled span j [] = []
spoiled span j (x ∷ xs) = (if touches span j then overwritten x else x) ∷ spoiled span (j + 1) xs

-- after a store of a kind
abbrev pub stored : List PlainKind → Option ℕ → Option Span → PlainKind → List PlainKind
stored slots (Some j) span x = slice_set slots j x
stored slots None span x = spoiled span 0 slots

-- ---- what slots have

-- a kind with that content
abbrev pub has : Content → PlainKind → Bool
has contents.Nothing x = is_unset x
has contents.Pointer x = is_ptr x

-- one of the slots, the first of which is slot j, has it, and may have one of the bytes
abbrev pub meets : Content → Option Span → ℕ → List PlainKind → Bool
meets content span j [] = false
meets content span j (x ∷ xs) = if touches span j && has content x then true else meets content span (j + 1) xs

-- Frames: what is known of the eleven registers, and of the stack's slots, before an instruction.
use Rattle.std.specs.Prelude.{ℕ, ◌+◌, List, [], ◌∷◌, Option, Some, None, slice_get, slice_set, drop, replicate}
use Rattle.bpf_decode.specs.declared.insn.Operand.{Operand}
use Rattle.bpf_decode.specs.declared.insn.Operand.TheVariants.{Immediate, Register}
use Rattle.bpf_decode.specs.declared.operation.OpWidth.{OpWidth}
use Rattle.bpf_decode.specs.declared.region.Region.TheVariants.{Input, Output, Stack}
use Rattle.bpf_decode.specs.declared.value.Value.{Value}
use Rattle.bpf_decode.specs.Values.{extended}
use Rattle.bpf_decode.specs.Arithmetic.{mov_value}
use Rattle.abstract_num.specs.declared.precision.Precision.{Precision}
use Rattle.abstract_num.specs.Plain.{Plain, constant}
use Rattle.abstract_num.specs.Tighten.{tighten}
use Rattle.abstract_num.specs.Transfer.{ranged}
use Rattle.abstract_regs.specs.Kind.{PlainKind, Unset, Num, Ptr, HoldsKind, join_kind}
use Rattle.abstract_regs.specs.declared.link.Link.{Link}
use Rattle.abstract_regs.specs.Link.{no_link, join_links}
use Rattle.abstract_regs.specs.Slots.{Span, stack_place, stack_range, access_span, whole_slot, slot_kind, spoiled}
use Rattle.abstract_regs.specs.Slots.{stored}

-- Kinds by register, and by slot of the stack: in rule set 1 there are none. Links by place, that
-- is by register and then by slot: in rule sets 1 and 2 there are none.
pub record PlainFrame : Type 0 where
  pub registers : List PlainKind
  pub slots : List PlainKind
  pub links : List Link

-- a kind that isn't given is unset
abbrev pub or_unset : Option PlainKind → PlainKind
or_unset None = Unset
or_unset (Some x) = x

-- the kind of a register, and the frame with another one there
abbrev pub kind_at : PlainFrame → ℕ → PlainKind
kind_at f r = or_unset (slice_get f.registers r)

abbrev pub with_kind : PlainFrame → ℕ → PlainKind → PlainFrame
with_kind f r x = record { registers = slice_set f.registers r x; slots = f.slots; links = f.links }

-- the joins of two lists, place by place
abbrev pub join_each : List PlainKind → List PlainKind → List PlainKind
join_each [] ys = []
join_each (x ∷ xs) [] = []
join_each (x ∷ xs) (y ∷ ys) = join_kind x y ∷ join_each xs ys

-- what two flows that meet leave
abbrev pub join : PlainFrame → PlainFrame → PlainFrame
join f g = record {
  registers = join_each f.registers g.registers;
  slots = join_each f.slots g.slots;
  links = join_links f.links g.links;
}

-- a number that isn't given is unset
abbrev pub number_kind : Option Plain → PlainKind
number_kind None = Unset
number_kind (Some n) = Num n

-- As a method begins: 1 points to the input, 2 is its length, at most in_cap, 3 points to the
-- output, 10 to the end of the stack. Of `count` slots each is known to be 0. Of `places` places
-- none is linked.
abbrev pub entry_frame : Precision → ℕ → ℕ → ℕ → ℕ → PlainFrame
entry_frame precision in_cap stack count places = record {
  registers =
      Unset ∷ Ptr Input (constant 0) ∷ number_kind (tighten precision (ranged 0 in_cap)) ∷ Ptr Output (constant 0) ∷
      Unset ∷ Unset ∷ Unset ∷ Unset ∷ Unset ∷ Unset ∷ Ptr Stack (constant stack) ∷ [];
  slots = replicate count (Num (constant 0));
  links = replicate places no_link;
}

-- the bytes of the stack that a helper may write, if the first register of its writable range is
-- given
abbrev pub room_span : PlainFrame → Option ℕ → Option Span
room_span f None = None
room_span f (Some r) = stack_range (kind_at f r) (kind_at f (r + 1))

-- with other slots
abbrev pub with_slots : PlainFrame → List PlainKind → PlainFrame
with_slots f xs = record { registers = f.registers; slots = xs; links = f.links }

-- with other links
abbrev pub with_links : PlainFrame → List Link → PlainFrame
with_links f ls = record { registers = f.registers; slots = f.slots; links = ls }

-- a helper answers such a number in register 0 and leaves registers 1 to 5 unset
abbrev pub after_answer : Plain → PlainFrame → PlainFrame
after_answer answer f = record {
  registers = Num answer ∷ Unset ∷ Unset ∷ Unset ∷ Unset ∷ Unset ∷ drop 6 f.registers;
  slots = f.slots;
  links = f.links;
}

-- and it overwrites what its writable range may be
abbrev pub after_call : Option ℕ → Plain → PlainFrame → PlainFrame
after_call room answer f = after_answer answer (with_slots f (spoiled (room_span f room) 0 f.slots))

-- the kind of what an instruction reads besides its destination
abbrev pub operand_kind : PlainFrame → Operand → PlainKind
operand_kind f (Immediate imm) = Num (constant (extended imm))
operand_kind f (Register r) = kind_at f r

-- of a comparison: one of 32 bits takes the immediate modulo 2 ^ 32
abbrev pub compared_kind : OpWidth → PlainFrame → Operand → PlainKind
compared_kind bits f (Immediate imm) = Num (constant (mov_value bits (extended imm)))
compared_kind bits f (Register r) = kind_at f r

-- what a load of w bytes gives if it is a slot
abbrev pub kept_kind : Precision → PlainFrame → PlainKind → ℕ → ℕ → Option PlainKind
kept_kind precision f x distance w = slot_kind f.slots (whole_slot (stack_place precision x distance) w)

-- after a store of w bytes
abbrev pub after_store : Precision → PlainFrame → PlainKind → ℕ → ℕ → PlainKind → PlainFrame
after_store precision f x distance w y =
    let place = stack_place precision x distance in
    with_slots f (stored f.slots (whole_slot place w) (access_span place w) y)

-- registers of which kinds are true
abbrev pub HoldsEach : List PlainKind → List (Option Value) → Type 0
HoldsEach [] cs = Unit {0}
HoldsEach (x ∷ xs) [] = ⊥
HoldsEach (x ∷ xs) (c ∷ cs) = HoldsKind x c × HoldsEach xs cs

-- What becomes of links: those that an instruction leaves, by the kinds before it, and what they
-- tell of other places' kinds along the edges of a comparison. A register's place is its number, a
-- slot's is after all registers'. In rule sets 1 and 2 the list of links is empty, and stays so.
use Rattle.std.specs.Prelude.{ℕ, ℤ, pos, negsuc, ◌+◌, ◌-◌, ◌%◌, ◌^◌, ◌==◌, ◌&&◌, ◌||◌, not, nat_lt, nat_le, int_le}
use Rattle.std.specs.Prelude.{int_lt, List, [], ◌∷◌, length, Option, Some, None, Bool, true, false, if◌then◌else◌}
use Rattle.std.specs.Prelude.{slice_get, slice_set, option_map, option_and_then}
use Rattle.std.specs.Int.{int_max, int_min, int_shr}
use Rattle.bpf_decode.specs.declared.insn.Operand.{Operand}
use Rattle.bpf_decode.specs.declared.insn.Operand.TheVariants.{Immediate, Register}
use Rattle.bpf_decode.specs.declared.insn.Insn.{Insn}
use Rattle.bpf_decode.specs.declared.insn.Insn.TheVariants.{Alu, Neg, Mov, MovSigned, End, LoadWide, Load, LoadSigned}
use Rattle.bpf_decode.specs.declared.insn.Insn.TheVariants.{Store, Jump, JumpLong, Branch, Call, CallLocal, Exit}
use Rattle.bpf_decode.specs.declared.operation.OpWidth.{OpWidth}
use Rattle.bpf_decode.specs.declared.operation.OpWidth.TheVariants.{Bits32, Bits64}
use Rattle.bpf_decode.specs.declared.operation.Arithmetic.{Arithmetic}
use Rattle.bpf_decode.specs.declared.operation.Arithmetic.TheVariants.{Add, Sub, And, Lsh, Rsh, Arsh}
use Rattle.bpf_decode.specs.declared.operation.SignedMove.{SignedMove}
use Rattle.bpf_decode.specs.declared.operation.SignedMove.TheVariants.{Byte64, Half64, Word64, Byte32, Half32}
use Rattle.bpf_decode.specs.declared.operation.Comparison.TheVariants.{Equal}
use Rattle.bpf_decode.specs.Arithmetic.{mov_value}
use Rattle.bpf_decode.specs.Instruction.{byte_count}
use Rattle.bpf_decode.specs.Values.{extended}
use Rattle.abstract_num.specs.declared.precision.Precision.{Precision}
use Rattle.abstract_num.specs.Plain.{Plain, any, constant}
use Rattle.abstract_num.specs.Tighten.{tighten}
use Rattle.abstract_num.specs.Transfer.{transferred}
use Rattle.abstract_num.specs.Edges.{along, first_of}
use Rattle.abstract_regs.specs.declared.link.Link.{Link}
use Rattle.abstract_regs.specs.declared.link.LinkForm.{LinkForm}
use Rattle.abstract_regs.specs.declared.link.LinkForm.TheVariants.{Unlinked, Whole, Low, Up, Sign}
use Rattle.abstract_regs.specs.Link.{no_link, is_linked, is_whole, has_low, link_in, shaped, low_form, up_form}
use Rattle.abstract_regs.specs.Link.{sign_form, down_form, moved_link, is_ones, unlinked}
use Rattle.abstract_regs.specs.Kind.{PlainKind, Unset, Num, Ptr}
use Rattle.abstract_regs.specs.Slots.{Span, touches, stack_place, access_span, whole_slot}
use Rattle.abstract_regs.specs.Frame.{PlainFrame, or_unset, kind_at, operand_kind, room_span, with_links}

-- ---- places

-- the place of slot j
abbrev pub slot_place : ℕ → ℕ
slot_place j = 11 + j

-- a slot that may have one of the bytes
abbrev pub is_touched : Option Span → ℕ → Bool
is_touched span place = nat_le 11 place && touches span (place - 11)

-- one of the registers from 0 to 5, which a helper's call changes
abbrev pub is_clobbered : ℕ → Bool
is_clobbered place = nat_lt place 6

-- the slot that an access is, if it is known
abbrev pub known_slot : List PlainKind → Option ℕ → Option ℕ
known_slot slots None = None
known_slot slots (Some j) = if nat_lt j (length slots) then Some j else None

-- the known slot that an access of w bytes through a kind is
abbrev pub accessed_slot : Precision → PlainFrame → PlainKind → ℕ → ℕ → Option ℕ
accessed_slot precision f x distance w = known_slot f.slots (whole_slot (stack_place precision x distance) w)

-- the kind of a slot
abbrev pub slot_at : PlainFrame → ℕ → PlainKind
slot_at f j = or_unset (slice_get f.slots j)

-- ---- copies

-- The link of a place whose number is copied by the instruction at slot p: a number that has none
-- gets one, which the slot names; what isn't a number has none and gives none.
abbrev pub taken : ℕ → PlainKind → Link → Link
taken p Unset l = no_link
taken p (Num k) l = if is_linked l.form then l else record { distance = 0; name = p; form = Whole }
taken p (Ptr r k) l = no_link

-- after a copy: the source keeps the link that is taken, the target has it too
abbrev pub copied_link : ℕ → List Link → ℕ → PlainKind → ℕ → List Link
copied_link p links source x target =
    let l = taken p x (link_in links source) in
    slice_set (slice_set links source l) target l

-- numbers of 32 bits, unsigned or signed
abbrev pub is_short : PlainKind → Bool
is_short Unset = false
is_short (Num k) = nat_lt k.high (2 ^ 32) || (int_le (negsuc (2 ^ 31 - 1)) k.least && int_lt k.greatest (pos (2 ^ 31)))
is_short (Ptr r k) = false

-- after a copy of the low half, with zeros or with its sign
abbrev pub halved_link : ℕ → List Link → ℕ → PlainKind → ℕ → List Link
halved_link p links source x target =
    let l = taken p x (link_in links source) in
    if is_short x then slice_set (slice_set links source l) target (shaped l (low_form l.form))
    else slice_set links target no_link

-- after a copy: of an immediate there is no link
abbrev pub moved_links : OpWidth → Operand → ℕ → PlainFrame → ℕ → List Link
moved_links bits (Immediate imm) p f dst = slice_set f.links dst no_link
moved_links Bits64 (Register src) p f dst = copied_link p f.links src (kind_at f src) dst
moved_links Bits32 (Register src) p f dst = halved_link p f.links src (kind_at f src) dst

-- after a copy with sign extension: one of 32 bits to 64 keeps the low half
abbrev pub extended_links : SignedMove → ℕ → ℕ → PlainFrame → ℕ → List Link
extended_links Word64 src p f dst = halved_link p f.links src (kind_at f src) dst
extended_links Byte64 src p f dst = slice_set f.links dst no_link
extended_links Half64 src p f dst = slice_set f.links dst no_link
extended_links Byte32 src p f dst = slice_set f.links dst no_link
extended_links Half32 src p f dst = slice_set f.links dst no_link

-- a load of a slot, if it is one
abbrev pub loaded_links : Option ℕ → ℕ → PlainFrame → ℕ → List Link
loaded_links None p f dst = slice_set f.links dst no_link
loaded_links (Some j) p f dst = copied_link p f.links (slot_place j) (slot_at f j) dst

-- a store of a slot, if it is one, or of these bytes
abbrev pub stored_links : Option ℕ → Option Span → Operand → ℕ → PlainFrame → List Link
stored_links None span source p f = unlinked (is_touched span) 0 f.links
stored_links (Some j) span (Immediate imm) p f = slice_set f.links (slot_place j) no_link
stored_links (Some j) span (Register src) p f = copied_link p f.links src (kind_at f src) (slot_place j)

-- ---- arithmetic

-- the number that an operation takes from its source, if it is one alone
abbrev pub constant_of : OpWidth → PlainKind → Option ℕ
constant_of bits Unset = None
constant_of bits (Num k) = if k.low == k.high then Some (mov_value bits k.low) else None
constant_of bits (Ptr r k) = None

-- a shift by 32 leaves a link
abbrev pub shifted_link : ℕ → Link → Link
shifted_link c l = if c % 64 == 32 then l else no_link

-- bits that cut nothing off leave a link as it is, bit 31 alone is the sign
abbrev pub masked_link : Plain → ℕ → Link → Link
masked_link k c l =
    if is_ones c && nat_le k.high c then l else (if c == 2 ^ 31 then shaped l (sign_form l.form) else no_link)

-- Of a number and a constant: sums and differences stay whole, and shifts by 32 move the low half
-- up and down.
abbrev pub alu_link : OpWidth → Arithmetic → Plain → ℕ → Link → Link
alu_link Bits64 Add k c l = moved_link l c
alu_link Bits64 Sub k c l = moved_link l (2 ^ 64 - c)
alu_link Bits64 Lsh k c l = shifted_link c (shaped l (up_form l.form))
alu_link Bits64 Rsh k c l = shifted_link c (shaped l (down_form l.form))
alu_link Bits64 Arsh k c l = shifted_link c (shaped l (down_form l.form))
alu_link bits And k c l = masked_link k c l
alu_link bits operation k c l = no_link

-- the same, if the second is a constant, else none
abbrev pub constant_link : OpWidth → Arithmetic → Plain → Option ℕ → Link → Link
constant_link bits operation k None l = no_link
constant_link bits operation k (Some c) l = alu_link bits operation k c l

-- of a register and a source of these kinds
abbrev pub computed_link : OpWidth → Arithmetic → PlainKind → PlainKind → Link → Link
computed_link bits operation Unset y l = no_link
computed_link bits operation (Num k) y l = constant_link bits operation k (constant_of bits y) l
computed_link bits operation (Ptr r k) y l = no_link

-- ---- the links after each instruction, at slot p

-- the links that an instruction leaves at slot p
abbrev pub links_after : Precision → Option ℕ → Insn → ℕ → PlainFrame → List Link
links_after precision room (Alu bits operation dst source) p f =
    slice_set f.links dst (computed_link bits operation (kind_at f dst) (operand_kind f source) (link_in f.links dst))
links_after precision room (Neg bits dst) p f = slice_set f.links dst no_link
links_after precision room (Mov bits dst source) p f = moved_links bits source p f dst
links_after precision room (MovSigned extension dst src) p f = extended_links extension src p f dst
links_after precision room (End order width dst) p f = slice_set f.links dst no_link
links_after precision room (LoadWide dst value) p f = slice_set f.links dst no_link
links_after precision room (Load width dst base offset) p f =
    loaded_links (accessed_slot precision f (kind_at f base) (extended offset) (byte_count width)) p f dst
links_after precision room (LoadSigned width dst base offset) p f = slice_set f.links dst no_link
links_after precision room (Store width base offset source) p f =
    stored_links (accessed_slot precision f (kind_at f base) (extended offset) (byte_count width))
    (access_span (stack_place precision (kind_at f base) (extended offset)) (byte_count width)) source p f
links_after precision room (Jump offset) p f = f.links
links_after precision room (JumpLong distance) p f = f.links
links_after precision room (Branch bits comparison dst source offset) p f = f.links
links_after precision room (Call helper) p f =
    unlinked (is_touched (room_span f room)) 0 (unlinked is_clobbered 0 f.links)
links_after precision room (CallLocal distance) p f = f.links
links_after precision room Exit p f = f.links

-- the frame with those links
abbrev pub relinked : Precision → Option ℕ → Insn → ℕ → PlainFrame → PlainFrame
relinked precision room i p f = with_links f (links_after precision room i p f)

-- ---- what a place tells of another

-- how far the second distance is above the first, modulo 2 ^ 64
abbrev pub apart : ℕ → ℕ → ℕ
apart e d = (d + (2 ^ 64 - e % 2 ^ 64)) % 2 ^ 64

-- the number at a distance
abbrev pub at_distance : Precision → Plain → ℕ → Option Plain
at_distance precision z d = if d == 0 then Some z else transferred precision Bits64 Add z (constant d)

-- t, if it is equal to z
abbrev pub met_number : Precision → Plain → Plain → Option Plain
met_number precision t z = option_map first_of (along precision Bits64 Equal true t z)

-- its bounds are below 2 ^ 64, as those of all numbers of the code are
abbrev pub is_bounded : Plain → Bool
is_bounded z = nat_lt z.high (2 ^ 64) && nat_lt z.unknown (2 ^ 64)

-- what is left of t, which is at distance d from z
abbrev pub tell_whole : Precision → Plain → ℕ → Plain → Option Plain
tell_whole precision z d t =
    if is_bounded z then option_and_then (met_number precision t) (at_distance precision z d) else Some t

-- every half
abbrev pub any_half : ℤ × ℤ
any_half = (any.half_least, any.half_greatest)

-- what z, of a form, tells of the low half of the number that its link names: if it has that half,
-- it is z's; moved up, it is in the upper half; its sign bit alone says whether it is negative
abbrev pub half_told : LinkForm → Plain → ℤ × ℤ
half_told Unlinked z = any_half
half_told Whole z = (z.half_least, z.half_greatest)
half_told Low z = (z.half_least, z.half_greatest)
half_told Up z = (int_shr z.least 32, int_shr z.greatest 32)
half_told Sign z = if z.high == 0 then (pos 0, pos (2 ^ 31 - 1))
    else (if nat_le 1 z.low then (negsuc (2 ^ 31 - 1), negsuc 0) else any_half)

-- t, if its low half lies between these
abbrev pub met_half : Precision → Plain → ℤ × ℤ → Option Plain
met_half precision t h =
    let p = int_max t.half_least h.0 in
    let q = int_min t.half_greatest h.1 in
    (if int_lt q p then None else tighten precision (record t { half_least = p; half_greatest = q }))

-- a number with the same low half
abbrev pub tell_half : Precision → LinkForm → Plain → Plain → Option Plain
tell_half precision form z t = met_half precision t (half_told form z)

-- a number t linked by m, if another is z, linked by l; both name the same number
abbrev pub told_number : Precision → Plain → Link → Link → Plain → Option Plain
told_number precision z l m t =
    let d = apart l.distance m.distance in
    (if is_whole l.form && is_whole m.form then tell_whole precision z d t
    else (if (d == 0) && has_low m.form then tell_half precision l.form z t else Some t))

-- the same of a place's kind: a number alone is told
abbrev pub told_kind : Precision → Plain → Link → Link → PlainKind → Option PlainKind
told_kind precision z l m Unset = Some Unset
told_kind precision z l m (Num t) = option_map Num (told_number precision z l m t)
told_kind precision z l m (Ptr r k) = Some (Ptr r k)

-- a place of the same name, other than that which tells
abbrev pub is_named : Link → ℕ → ℕ → Link → Bool
is_named l from at m = is_linked m.form && ((l.name == m.name) && not (at == from))

-- the kinds from place `at` on; nothing as soon as one has no number left
abbrev pub told_kinds : Precision → Plain → Link → ℕ → List Link → ℕ → List PlainKind → Option (List PlainKind)
told_kinds precision z l from links at [] = Some []
told_kinds precision z l from links at (x ∷ xs) =
    option_and_then (λ y. option_map (λ ys. y ∷ ys) (told_kinds precision z l from links (at + 1) xs))
    (if is_named l from at (link_in links at) then told_kind precision z l (link_in links at) x else Some x)

-- of all kinds of a frame
abbrev pub tell_all : Precision → Plain → Link → ℕ → PlainFrame → Option PlainFrame
tell_all precision z l from f =
    option_and_then (λ xs. option_map (λ ys. record { registers = xs; slots = ys; links = f.links })
    (told_kinds precision z l from f.links 11 f.slots))
    (told_kinds precision z l from f.links 0 f.registers)

-- a register that is linked tells its number
abbrev pub tell_kind : Precision → PlainKind → ℕ → PlainFrame → Option PlainFrame
tell_kind precision Unset r f = Some f
tell_kind precision (Num z) r f =
    if is_linked (link_in f.links r).form then tell_all precision z (link_in f.links r) r f else Some f
tell_kind precision (Ptr q k) r f = Some f

-- what register r tells the others
unfoldable pub tell : Precision → ℕ → PlainFrame → Option PlainFrame
tell precision r f = tell_kind precision (kind_at f r) r f

-- both registers of a comparison tell theirs, one after the other
unfoldable pub told : Precision → ℕ → Operand → PlainFrame → Option PlainFrame
told precision dst (Immediate imm) f = tell precision dst f
told precision dst (Register src) f =
    if dst == src then tell precision dst f else option_and_then (tell precision src) (tell precision dst f)

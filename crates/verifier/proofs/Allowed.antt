-- What the rules leave of loads, stores and helpers' ranges.
use Rattle.std.proofs.Common.{◌≡◌, ℕ, ◌+◌, List, [], ◌∷◌, Option, Some, None, Bool, true, false, refl, ap, ◌∙◌, sym}
use Rattle.std.specs.Prelude.{◌&&◌, not, nat_le, is_some, if◌then◌else◌}
use Rattle.std.proofs.lemmas.Bool.{false≢true}
use Rattle.bpf_decode.specs.declared.access.SignedWidth.{SignedWidth}
use Rattle.bpf_decode.specs.declared.access.SignedWidth.TheVariants as signed
use Rattle.bpf_decode.specs.declared.insn.Operand.TheVariants.{Immediate, Register}
use Rattle.bpf_decode.specs.declared.insn.Insn.{Insn}
use Rattle.bpf_decode.specs.declared.insn.Insn.TheVariants.{Alu, Neg, Mov, MovSigned, End, LoadWide, Load, LoadSigned, Store, Jump, JumpLong, Branch, Call, CallLocal, Exit}
use Rattle.bpf_decode.specs.Instruction.{byte_count, signed_byte_count}
use Rattle.bpf_decode.specs.Values.{extended}
use Rattle.bpf_decode.specs.declared.rule_set.RuleSet.{RuleSet}
use Rattle.bpf_machine.specs.declared.caps.Caps.{Caps}
use Rattle.helpers.specs.declared.argument.Argument.{Argument}
use Rattle.helpers.specs.declared.argument.Argument.TheVariants.{Number, OutputLength, Readable, Writable}
use Rattle.helpers.specs.Effect.{Takes}
use Rattle.helpers.specs.Table.{signature_of}
use Rattle.abstract_regs.specs.declared.content.Content.{Content}
use Rattle.abstract_regs.specs.declared.content.Content.TheVariants.{Nothing, Pointer}
use Rattle.abstract_regs.specs.Kind.{PlainKind, Unset, Num, Ptr, is_unset, is_num, is_ptr}
use Rattle.abstract_num.specs.declared.precision.Precision.{Precision}
use Rattle.abstract_num.specs.Plain.{Plain}
use Rattle.abstract_regs.specs.Slots.{stack_place, access_span, meets, slot_kind, whole_slot}
use Rattle.abstract_regs.specs.Frame.{PlainFrame, kind_at, kept_kind}
use Rattle.abstract_regs.specs.Moves.{AllowsRoom, Allows}
use Rattle.verifier.specs.declared.fault.Fault.TheVariants.{WrongKind}
use Rattle.verifier.specs.Frame.{precision_of}
use Rattle.verifier.specs.Kind.{stays}
use Rattle.verifier.specs.Rules.{has_fault, some_fault, taken_fault, load_meets, last_helper, takes_of, room_in, room_of_takes, room_of}
use Rattle.verifier.proofs.Holding.{not_false}
use Rattle.verifier.proofs.Passed.{neither, Passed}

pub when_right : (a b : Bool) → (a && b) ≡ false → b ≡ true → a ≡ false
when_right true true e f = absurd (false≢true (sym e))
when_right true false e f = absurd (false≢true f)
when_right false b e f = refl

pub when_left : (a b : Bool) → (a && b) ≡ false → a ≡ true → b ≡ false
when_left true b e f = e
when_left false b e f = absurd (false≢true f)

known_takes : (b : Bool) (o : Option Takes) → not (is_some (if b then o else None)) ≡ false → (if b then o else None) ≡ o
known_takes true o e = refl
known_takes false o e = absurd (false≢true (sym e))

-- a helper of the rule set takes what the helper of that id does
pub takes_known : (rules : RuleSet) (helper : ℕ) → not (is_some (takes_of rules helper)) ≡ false → takes_of rules helper ≡ signature_of helper
takes_known rules helper e = known_takes (nat_le helper (last_helper rules)) (signature_of helper) e

pub stays_by_pointer : (precision : Precision) (caps : Caps) (x : PlainKind) (distance w : ℕ) → stays precision caps x distance w ≡ true → is_ptr x ≡ true
stays_by_pointer precision caps Unset distance w e = e
stays_by_pointer precision caps (Num k) distance w e = e
stays_by_pointer precision caps (Ptr r k) distance w e = refl

none_kept : {A : Type 0} (o : Option A) (b : Bool) → (not (is_some o) && b) ≡ false → o ≡ None → b ≡ false
none_kept None b e f = e
none_kept (Some x) b e f = absurd cc

pub stored_if_kept : {A : Type 0} (b : Bool) (o : Option A) → (b && not (is_some o)) ≡ false → o ≡ None → b ≡ false
stored_if_kept b None e f = when_right b true e refl
stored_if_kept b (Some x) e f = absurd cc

-- a load with sign extension is shorter than a slot
never_whole : (width : SignedWidth) (slots : List PlainKind) (place : Option Plain) → slot_kind slots (whole_slot place (signed_byte_count width)) ≡ None
never_whole width slots None = refl
never_whole signed.Byte slots (Some place) = refl
never_whole signed.Half slots (Some place) = refl
never_whole signed.Word slots (Some place) = refl

module _ (rules : RuleSet) (caps : Caps) (code : List (Option Insn)) (p : ℕ) (f : PlainFrame) where
  -- a load's bytes meet nothing that isn't to be read
  unmet : (content : Content) (x : PlainKind) (distance w : ℕ) → stays (precision_of rules) caps x distance w ≡ true → load_meets rules content caps f x distance w ≡ false → meets content (access_span (stack_place (precision_of rules) x distance) w) 0 f.slots ≡ false
  unmet content x distance w inside e = when_right _ _ e inside

  room_kinds : (arguments : List Argument) (k : ℕ) → some_fault caps f WrongKind arguments k ≡ false → AllowsRoom (room_in arguments k) f
  room_kinds [] k e = tt
  room_kinds (Number ∷ more) k e = room_kinds more (k + 1) (neither (has_fault caps f WrongKind Number k) (some_fault caps f WrongKind more (k + 1)) e).1
  room_kinds (OutputLength ∷ more) k e = room_kinds more (k + 1) (neither (has_fault caps f WrongKind OutputLength k) (some_fault caps f WrongKind more (k + 1)) e).1
  room_kinds (Readable ∷ more) k e = room_kinds more (k + 2) (neither (has_fault caps f WrongKind Readable k) (some_fault caps f WrongKind more (k + 2)) e).1
  room_kinds (Writable ∷ more) k e =
      let here = neither (has_fault caps f WrongKind Writable k) (some_fault caps f WrongKind more (k + 2)) e in
      let both = neither (not (is_ptr (kind_at f k))) (not (is_num (kind_at f (k + 1)))) here.0 in
      (not_false _ both.0, not_false _ both.1)

  room_allowed : (o : Option Takes) → taken_fault caps f WrongKind o ≡ false → AllowsRoom (room_of_takes o) f
  room_allowed None e = tt
  room_allowed (Some takes) e = room_kinds takes.arguments 1 e

  pub allowed : (i : Insn) → Passed rules caps code p i f → Allows (precision_of rules) (room_of i) i f
  allowed (Alu bits operation d x) ok = tt
  allowed (Neg bits d) ok = tt
  allowed (Mov bits d x) ok = tt
  allowed (MovSigned extension d src) ok = tt
  allowed (End order width d) ok = tt
  allowed (LoadWide d value) ok = tt
  allowed (Load width d base offset) ok =
      let x = kind_at f base in
      let inside = not_false _ ok.bounds in (
        stays_by_pointer (precision_of rules) caps x (extended offset) (byte_count width) inside,
        unmet Nothing x (extended offset) (byte_count width) inside ok.loads_set,
        (λ none. unmet Pointer x (extended offset) (byte_count width) inside (none_kept (kept_kind (precision_of rules) f x (extended offset) (byte_count width)) _ ok.parts none)),
      )
  allowed (LoadSigned width d base offset) ok =
      let x = kind_at f base in
      let inside = not_false _ ok.bounds in
      let kept = kept_kind (precision_of rules) f x (extended offset) (signed_byte_count width) in
      let parts = unmet Pointer x (extended offset) (signed_byte_count width) inside (none_kept kept _ ok.parts (never_whole width f.slots (stack_place (precision_of rules) x (extended offset)))) in
      ((stays_by_pointer (precision_of rules) caps x (extended offset) (signed_byte_count width) inside, unmet Nothing x (extended offset) (signed_byte_count width) inside ok.loads_set, (λ none. parts)), parts)
  allowed (Store width base offset (Immediate imm)) ok =
      (stays_by_pointer (precision_of rules) caps (kind_at f base) (extended offset) (byte_count width) (not_false _ ok.bounds), refl, (λ none. refl))
  allowed (Store width base offset (Register r)) ok =
      let unset = neither (is_unset (kind_at f base)) (is_unset (kind_at f r)) ok.unset in (
        stays_by_pointer (precision_of rules) caps (kind_at f base) (extended offset) (byte_count width) (not_false _ ok.bounds),
        unset.1,
        (λ none. stored_if_kept (is_ptr (kind_at f r)) (kept_kind (precision_of rules) f (kind_at f base) (extended offset) (byte_count width)) ok.stored none),
      )
  allowed (Jump offset) ok = tt
  allowed (JumpLong distance) ok = tt
  allowed (Branch bits comparison d x offset) ok = tt
  allowed (Call helper) ok =
      room_allowed (signature_of helper) (ap (taken_fault caps f WrongKind) (sym (takes_known rules helper ok.unknown)) ∙ ok.kinds)
  allowed (CallLocal distance) ok = tt
  allowed Exit ok = tt

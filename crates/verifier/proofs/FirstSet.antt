-- In rule set 1 no frame knows a slot, so nothing that is read is a pointer's byte.
use Rattle.std.proofs.Common.{◌≡◌, ℕ, ◌+◌, ◌<◌, List, [], ◌∷◌, Option, Some, None, Bool, true, false, refl, ap, ◌∙◌, sym, subst, arith, length}
use Rattle.std.specs.Prelude.{◌&&◌, ◌||◌, is_some, not}
use Rattle.std.proofs.lemmas.Bool.{false≢true}
use Rattle.std.proofs.lemmas.List.{length-replicate}
use Rattle.std.proofs.lemmas.Option.{slice_get_within}
use Rattle.bpf_decode.specs.Instruction.{byte_count, signed_byte_count, slots}
use Rattle.bpf_decode.specs.declared.insn.Insn.{Insn}
use Rattle.bpf_decode.specs.declared.insn.Insn.TheVariants.{Alu, Neg, Mov, MovSigned, End, LoadWide, Load, LoadSigned, Store, Jump, JumpLong, Branch, Call, CallLocal, Exit}
use Rattle.bpf_decode.specs.declared.rule_set.RuleSet.{RuleSet}
use Rattle.bpf_machine.specs.declared.caps.Caps.{Caps}
use Rattle.bpf_machine.specs.Safe.{caps_of}
use Rattle.bpf_machine.specs.Typed.{extended}
use Rattle.helpers.specs.Effect.{Takes}
use Rattle.helpers.specs.declared.argument.Argument.{Argument}
use Rattle.helpers.specs.declared.argument.Argument.TheVariants.{Number, OutputLength, Readable, Writable}
use Rattle.abstract_num.specs.Plain.{constant}
use Rattle.abstract_regs.specs.Kind.{PlainKind, Num}
use Rattle.abstract_regs.specs.Frame.{PlainFrame, kept_kind, kind_at}
use Rattle.abstract_regs.specs.Slots.{Span, access_span, meets, stack_place, stack_range}
use Rattle.abstract_regs.specs.declared.content.Content.{Content}
use Rattle.abstract_regs.specs.declared.content.Content.TheVariants.{Pointer}
use Rattle.abstract_regs.specs.Laws.{FlowsKeepSlots, JoinsKeepSlots}
use Rattle.verifier.specs.declared.fault.Fault.TheVariants.{HasPointer}
use Rattle.verifier.specs.declared.rule.Rule.TheVariants.{PointerBytes}
use Rattle.verifier.specs.Frame.{entry, known_slots, precision_of}
use Rattle.verifier.specs.Kind.{range_leaves, stays}
use Rattle.verifier.specs.Rules.{breaks, has_fault, load_meets, range_meets, reads_pointer, register_count, some_fault, taken_fault, takes_of}
use Rattle.verifier.specs.Verdict.{FirstSetHasFewerRules, frame_at, whole_table}
use Rattle.verifier.proofs.Lengths.{long_at}
use Rattle.verifier.proofs.Runs.{inner}
use Rattle.verifier.proofs.Verdicts.{deserved}

first_false : (a b : Bool) → a ≡ false → (a && b) ≡ false
first_false true b h = absurd (false≢true (sym h))
first_false false b h = refl

second_false : (a b : Bool) → b ≡ false → (a && b) ≡ false
second_false true b h = h
second_false false b h = refl

both_false : (a b : Bool) → a ≡ false → b ≡ false → (a || b) ≡ false
both_false true b h k = absurd (false≢true (sym h))
both_false false b h k = k

no_slots : (xs : List PlainKind) → length xs ≡ 0 → xs ≡ []
no_slots [] h = refl
no_slots (x ∷ xs) h = absurd (omega (arith, h))

meets_none : (content : Content) (span : Option Span) (j : ℕ) (xs : List PlainKind) → xs ≡ [] → meets content span j xs ≡ false
meets_none content span j xs none = ap (meets content span j) none

module _ (rules : RuleSet) (caps : Caps) (f : PlainFrame) (none : f.slots ≡ []) where
  range_none : (content : Content) (x y : PlainKind) → range_meets content caps f x y ≡ false
  range_none content x y = first_false (meets content (stack_range x y) 0 f.slots) (not (range_leaves caps x y)) (meets_none content (stack_range x y) 0 f.slots none)

  load_none : (content : Content) (x : PlainKind) (distance w : ℕ) → load_meets rules content caps f x distance w ≡ false
  load_none content x distance w =
      first_false (meets content (access_span (stack_place (precision_of rules) x distance) w) 0 f.slots) (stays (precision_of rules) caps x distance w) (meets_none content (access_span (stack_place (precision_of rules) x distance) w) 0 f.slots none)

  no_fault : (a : Argument) (k : ℕ) → has_fault caps f HasPointer a k ≡ false
  no_fault Number k = refl
  no_fault OutputLength k = refl
  no_fault Readable k = range_none Pointer (kind_at f k) (kind_at f (k + 1))
  no_fault Writable k = refl

  none_of : (arguments : List Argument) (k : ℕ) → some_fault caps f HasPointer arguments k ≡ false
  none_of [] k = refl
  none_of (a ∷ more) k =
      let next = k + register_count a in
      both_false (has_fault caps f HasPointer a k) (some_fault caps f HasPointer more next) (no_fault a k) (none_of more next)

  none_taken : (o : Option Takes) → taken_fault caps f HasPointer o ≡ false
  none_taken None = refl
  none_taken (Some takes) = none_of takes.arguments 1

  load_reads_none : (x : PlainKind) (at w : ℕ) → ((not (is_some (kept_kind (precision_of rules) f x at w)) && load_meets rules Pointer caps f x at w) || false) ≡ false
  load_reads_none x at w =
      both_false (not (is_some (kept_kind (precision_of rules) f x at w)) && load_meets rules Pointer caps f x at w) false (second_false (not (is_some (kept_kind (precision_of rules) f x at w))) (load_meets rules Pointer caps f x at w) (load_none Pointer x at w)) refl

  reads_none : (i : Insn) → reads_pointer rules caps f i ≡ false
  reads_none (Alu bits operation dst source) = refl
  reads_none (Neg bits dst) = refl
  reads_none (Mov bits dst source) = refl
  reads_none (MovSigned extension dst src) = refl
  reads_none (End order width dst) = refl
  reads_none (LoadWide dst value) = refl
  reads_none (Load width dst base offset) = load_reads_none (kind_at f base) (extended offset) (byte_count width)
  reads_none (LoadSigned width dst base offset) = load_reads_none (kind_at f base) (extended offset) (signed_byte_count width)
  reads_none (Store width base offset source) = refl
  reads_none (Jump offset) = refl
  reads_none (JumpLong distance) = refl
  reads_none (Branch bits comparison dst source offset) = refl
  reads_none (Call helper) = none_taken (takes_of rules helper)
  reads_none (CallLocal distance) = refl
  reads_none Exit = refl

breaks_none : (rules : RuleSet) (caps : Caps) (code : List (Option Insn)) (p : ℕ) (i : Insn) (o : Option PlainFrame) → ((g : PlainFrame) → o ≡ Some g → length g.slots ≡ 0) → breaks rules caps code p i o PointerBytes ≡ false
breaks_none rules caps code p i None few = refl
breaks_none rules caps code p i (Some f) few = reads_none rules caps f (no_slots f.slots (few f refl)) i

pub fewer_rules : FlowsKeepSlots → JoinsKeepSlots → FirstSetHasFewerRules
fewer_rules flows joins c r one verdict same =
    let d = deserved c r verdict in
    let caps = caps_of d.method in
    let code = slots d.method.instructions in
    let first : length (entry c.rules caps).slots ≡ 0 = length-replicate (known_slots c.rules) (Num (constant 0)) ∙ ap known_slots one in
    let inside : r.slot < length code = slice_get_within code r.slot (Some d.refuses.insn) (inner _ _ d.refuses.there) in
    let refused = subst (λ rule. breaks c.rules caps code r.slot d.refuses.insn (frame_at (whole_table c.rules caps code) r.slot) rule ≡ true) same d.refuses.refused in
    false≢true (sym (breaks_none c.rules caps code r.slot d.refuses.insn (frame_at (whole_table c.rules caps code) r.slot) (λ g e. long_at flows joins 0 c.rules caps code first r.slot inside g e)) ∙ refused)

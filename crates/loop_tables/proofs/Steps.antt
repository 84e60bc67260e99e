-- An instruction that no rule of a method with heads refuses makes its step, and one of its edges is true of the state then.
use Rattle.std.proofs.Common.{◌≡◌, ◌≢◌, ℕ, ℤ, pos, List, [], ◌∷◌, Option, Some, None, false, refl, inl, inr, ap, ◌∙◌, sym, subst, arith, length}
use Rattle.bpf_decode.specs.declared.value.Value.{Value}
use Rattle.abstract_num.specs.Plain.{Plain}
use Rattle.verifier.specs.declared.rule.Rule.TheVariants.{WritesR10}
use Rattle.bpf_decode.specs.declared.insn.Operand.{Operand}
use Rattle.bpf_decode.specs.declared.insn.Insn.{Insn}
use Rattle.bpf_decode.specs.declared.insn.Insn.TheVariants.{Alu, Neg, Mov, MovSigned, End, LoadWide, Load, LoadSigned, Store, Jump, JumpLong, Branch, Call, CallLocal, Exit}
use Rattle.bpf_decode.specs.declared.operation.OpWidth.{OpWidth}
use Rattle.bpf_decode.specs.declared.operation.Comparison.{Comparison}
use Rattle.bpf_decode.specs.Arithmetic.{is_taken}
use Rattle.bpf_decode.specs.Instruction.{Fits}
use Rattle.bpf_decode.specs.Jump.{branch_to}
use Rattle.bpf_decode.specs.Values.{extended}
use Rattle.bpf_decode.specs.declared.rule_set.RuleSet.TheVariants.{Three}
use Rattle.bpf_machine.specs.declared.caps.Caps.{Caps}
use Rattle.bpf_machine.specs.State.{go}
use Rattle.bpf_machine.specs.Slots.{slot_values}
use Rattle.bpf_machine.specs.Typed.{Typed}
use Rattle.abstract_num.specs.declared.precision.Precision.TheVariants.{Halves}
use Rattle.abstract_regs.specs.Kind.{is_unset, is_ptr}
use Rattle.abstract_regs.specs.Frame.{PlainFrame, kind_at, operand_kind}
use Rattle.abstract_regs.specs.Moves.{EachFits, Allows, Keeps, NamesBelow, Reaches}
use Rattle.verifier.specs.Frame.{IsWithin, Holds}
use Rattle.verifier.specs.Rules.{operand_is_unset, room_of, shape_rule, frame_rule, writes_r10}
use Rattle.verifier.specs.Answers.{answer_of}
use Rattle.verifier.proofs.Acts.{Steps, steps, within_slot}
use Rattle.verifier.proofs.Allowed.{allowed}
use Rattle.verifier.proofs.Calls.{one_more}
use Rattle.verifier.proofs.Holding.{read, value_is, operand_is, form_of, number_of, operand_read, operand_is_set}
use Rattle.verifier.proofs.Memory.{Laws, length-values}
use Rattle.verifier.proofs.Passed.{neither, Passed, passed}
use Rattle.loop_heads.specs.Loops.{PlainHead}
use Rattle.loop_machine.specs.Typed.{loop_act}
use Rattle.loop_frames.specs.Pairs.{PointerPair, pair_of, edges_by}
use Rattle.loop_frames.specs.Pairs as pairs
use Rattle.loop_frames.specs.Laws.{PairsStep}
use Rattle.loop_tables.specs.Rules.{shape_below, frame_below, rule_below}
use Rattle.loop_tables.specs.Table.{edges_at}
use Rattle.loop_tables.proofs.Shapes.{tested, plain_rule, shape_and_frame}
use Rattle.loop_tables.proofs.Pairs.{PairForm, pair_form, pair_step, plain_step}

-- the flow of every instruction keeps what its frame holds
abbrev pub FlowsKeep : Type 0
FlowsKeep = (f : PlainFrame) → EachFits f.registers → length f.registers ≡ 11 → (room : Option ℕ) (answer : Plain) (i : Insn) (p : ℕ) → Keeps Halves room answer i p f

-- two instructions, at whose first one a comparison that doesn't go back may stand
two_exits : List (Option Insn)
two_exits = Some Exit ∷ Some Exit ∷ []

-- the rules of the frame, of a comparison that goes anywhere: they don't know its distance
compared_passed : (caps : Caps) (f : PlainFrame) (bits : OpWidth) (c : Comparison) (d : ℕ) (x : Operand) (offset : ℤ) → frame_rule Three caps f (Branch bits c d x offset) ≡ None → Passed Three caps two_exits 0 (Branch bits c d x (pos 0)) f
unfolding two_exits
compared_passed caps f bits c d x offset h = passed Three caps two_exits 0 (Branch bits c d x (pos 0)) f (plain_rule caps two_exits 0 (Branch bits c d x (pos 0)) f refl h)

-- the step of an instruction without a pair of pointers, and what the rules leave of the stack
pub record Able (caps : Caps) (f : PlainFrame) (i : Insn) (s : Typed) : Type 0 where
  pub step : Steps Three 64 caps f i s
  pub allows : Allows Halves (room_of i) i f

module _ (laws : Laws) (caps : Caps) (heads : List PlainHead) (code : List (Option Insn)) (p : ℕ) (f : PlainFrame) (s : Typed) (h : Holds 64 f s) (fits : EachFits f.registers) where
  forward : (i : Insn) → Fits i → shape_rule code p i ≡ None → frame_rule Three caps f i ≡ None → i ≢ Exit → Able caps f i s
  forward i fit shape frame go_on =
      let ok = passed Three caps code p i f (plain_rule caps code p i f shape frame) in
      record { step = steps laws Three caps code p 64 (omega arith) f s h fits i fit ok go_on; allows = allowed Three caps code p f i ok }

  compared : (bits : OpWidth) (c : Comparison) (d : ℕ) (x : Operand) (offset : ℤ) → frame_rule Three caps f (Branch bits c d x offset) ≡ None → Steps Three 64 caps f (Branch bits c d x offset) s
  compared bits c d x offset frame =
      let ok = compared_passed caps f bits c d x offset frame in
      let unset = neither (is_unset (kind_at f d)) (operand_is_unset f x) ok.unset in
      let pointers = neither (is_ptr (kind_at f d)) (is_ptr (operand_kind f x)) ok.compared in
      let v = read f s d h unset.0 in
      let m = number_of (kind_at f d) v.value (form_of (kind_at f d) v.value v.holds) unset.0 pointers.0 in
      let y = operand_read f s x h unset.1 in
      let n = number_of (operand_kind f x) y.0 y.2 (operand_is_set f x unset.1) pointers.1 in
      record {
        to = go (branch_to (is_taken bits c m.0 n.0) s.slot (extended offset)) s;
        act = one_more _ _ _ _ v.there (one_more _ _ _ _ m.1 (one_more _ _ _ _ y.1 (one_more _ _ _ _ n.1 refl)));
        moves = (m.0, n.0, value_is s d v.value v.there ∙ ap Some m.2, operand_is s x y.0 y.1 ∙ ap Some n.2, refl, refl, refl);
        within = within_slot s (branch_to (is_taken bits c m.0 n.0) s.slot (extended offset)) h.within;
      }

  able : (i : Insn) → Fits i → shape_below heads code p i ≡ None → frame_rule Three caps f i ≡ None → i ≢ Exit → Able caps f i s
  able (Alu bits operation d x) fit shape frame go_on = forward (Alu bits operation d x) fit shape frame go_on
  able (Neg bits d) fit shape frame go_on = forward (Neg bits d) fit shape frame go_on
  able (Mov bits d x) fit shape frame go_on = forward (Mov bits d x) fit shape frame go_on
  able (MovSigned extension d src) fit shape frame go_on = forward (MovSigned extension d src) fit shape frame go_on
  able (End order width d) fit shape frame go_on = forward (End order width d) fit shape frame go_on
  able (LoadWide d value) fit shape frame go_on = forward (LoadWide d value) fit shape frame go_on
  able (Load width d from offset) fit shape frame go_on = forward (Load width d from offset) fit shape frame go_on
  able (LoadSigned width d from offset) fit shape frame go_on = forward (LoadSigned width d from offset) fit shape frame go_on
  able (Store width to offset x) fit shape frame go_on = forward (Store width to offset x) fit shape frame go_on
  able (Jump offset) fit shape frame go_on = record { step = record { to = go _ s; act = refl; moves = (refl, refl, refl); within = within_slot s _ h.within }; allows = tt }
  able (JumpLong distance) fit shape frame go_on = record { step = record { to = go _ s; act = refl; moves = (refl, refl, refl); within = within_slot s _ h.within }; allows = tt }
  able (Branch bits c d x offset) fit shape frame go_on = record { step = compared bits c d x offset frame; allows = tt }
  able (Call helper) fit shape frame go_on = forward (Call helper) fit shape frame go_on
  able (CallLocal distance) fit shape frame go_on = forward (CallLocal distance) fit shape frame go_on
  able Exit fit shape frame go_on = absurd (go_on refl)

-- the step is made, and one of its edges is true of the state after it
pub record Goes (caps : Caps) (f : PlainFrame) (i : Insn) (s : Typed) : Type 0 where
  pub to : Typed
  pub act : loop_act caps i s ≡ Some to
  pub reaches : Reaches (edges_at caps i s.slot f) to.slot to.regs (slot_values 64 to.memory.stack)
  pub within : IsWithin 64 to

-- by either name
same_r10 : (i : Insn) → PairForm i → writes_r10 i ≡ false → pairs.writes_r10 i ≡ false
same_r10 i (inl is) h = ap pairs.writes_r10 is.is ∙ sym (ap writes_r10 is.is) ∙ h
same_r10 i (inr is) h = ap pairs.writes_r10 is.is

module _ (laws : Laws) (keeps : FlowsKeep) (pairs_step : PairsStep) (caps : Caps) (heads : List PlainHead) (code : List (Option Insn)) (f : PlainFrame) (s : Typed) (h : Holds 64 f s) (fits : EachFits f.registers) (eleven : length f.registers ≡ 11) (below : NamesBelow s.slot f) where
  edges_is : (i : Insn) (o : Option PointerPair) (q : ℕ) (ds ws : List (Option Value)) → pair_of caps f i ≡ o → Reaches (edges_by Halves (room_of i) (answer_of Three f i) i s.slot f o) q ds ws → Reaches (edges_at caps i s.slot f) q ds ws
  edges_is i o q ds ws e r = subst (λ o. Reaches (edges_by Halves (room_of i) (answer_of Three f i) i s.slot f o) q ds ws) (sym e) r

  by_pair : (i : Insn) → Fits i → shape_below heads code s.slot i ≡ None → (o : Option PointerPair) → pair_of caps f i ≡ o → frame_below caps f i o ≡ None → i ≢ Exit → Goes caps f i s
  by_pair i fit shape None is frame go_on =
      let a = able laws caps heads code s.slot f s h fits i fit shape frame go_on in
      let t = a.step in
      record {
        to = t.to;
        act = plain_step caps i s t.to t.act;
        reaches = edges_is i None t.to.slot t.to.regs (slot_values 64 t.to.memory.stack) is
            (keeps f fits eleven (room_of i) (answer_of Three f i) i s.slot fit a.allows below s.regs t.to.regs (slot_values 64 s.memory.stack) (slot_values 64 t.to.memory.stack) t.to.slot (h.long ∙ sym (length-values 64 s.memory.stack)) h.regs h.slots h.links t.moves);
        within = t.within;
      }
  by_pair i fit shape (Some pair) is frame go_on =
      let r10 = same_r10 i (pair_form caps f i pair is) (tested (writes_r10 i) WritesR10 None frame).0 in
      let t = pairs_step Halves caps f i s (slot_values 64 s.memory.stack) pair fit r10 fits eleven (record { registers = h.regs; slots = h.slots; links = h.links }) is in
      let within = h.within in
      let memory : t.to.memory ≡ s.memory = ap (λ (t : Typed). t.memory) t.rest in
      record {
        to = t.to;
        act = pair_step caps f i s t.to pair is t.act;
        reaches = edges_is i (Some pair) t.to.slot t.to.regs (slot_values 64 t.to.memory.stack) is
            (subst (λ m. Reaches (pairs.pair_edges Halves i s.slot f pair) t.to.slot t.to.regs (slot_values 64 m.stack)) (sym memory) t.reaches);
        within = subst (IsWithin 64) (sym t.rest) (record { memory = within.memory; object = within.object; client = within.client; limits = within.limits });
      }

  pub goes_on : (i : Insn) → Fits i → rule_below caps heads code s.slot i (Some f) ≡ None → i ≢ Exit → Goes caps f i s
  goes_on i fit clear go_on =
      let both = shape_and_frame caps heads code s.slot i f clear in
      by_pair i fit both.0 (pair_of caps f i) refl both.1 go_on

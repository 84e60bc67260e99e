-- An instruction that no rule refuses makes its step, and moves the registers as it should.
use Rattle.std.proofs.Common.{◌≡◌, ◌≢◌, ℕ, ℤ, pos, negsuc, inl, inr, ◌+◌, ◌%◌, ◌^◌, ◌<◌, ◌≤◌, List, Option, Some, Bool, true, false, refl, ap, ◌∙◌, sym, arith, length}
use Rattle.std.specs.Prelude.{slice_set, ◌==◌, ◌&&◌, not, is_some, nat_lt, FitsSigned}
use Rattle.std.specs.Int.{w32}
use Rattle.std.proofs.lemmas.Bool.{le-leb, false≢true, cond-true}
use Rattle.bpf_decode.specs.declared.access.Width.{Width}
use Rattle.bpf_decode.specs.declared.insn.Operand.{Operand}
use Rattle.bpf_decode.specs.declared.insn.Operand.TheVariants.{Immediate, Register}
use Rattle.bpf_decode.specs.declared.insn.Insn.{Insn}
use Rattle.bpf_decode.specs.declared.insn.Insn.TheVariants.{Alu, Neg, Mov, MovSigned, End, LoadWide, Load, LoadSigned, Store, Jump, JumpLong, Branch, Call, CallLocal, Exit}
use Rattle.bpf_decode.specs.declared.access.SignedWidth.{SignedWidth}
use Rattle.bpf_decode.specs.declared.access.SignedWidth.TheVariants as signed
use Rattle.bpf_decode.specs.declared.operation.OpWidth.{OpWidth}
use Rattle.bpf_decode.specs.declared.operation.Arithmetic.{Arithmetic}
use Rattle.bpf_decode.specs.declared.operation.SignedMove.{SignedMove}
use Rattle.bpf_decode.specs.declared.operation.ByteOrder.{ByteOrder}
use Rattle.bpf_decode.specs.declared.operation.EndWidth.{EndWidth}
use Rattle.bpf_decode.specs.declared.operation.Comparison.{Comparison}
use Rattle.bpf_decode.specs.declared.region.Region.{Region}
use Rattle.bpf_decode.specs.declared.value.Value.{Value}
use Rattle.bpf_decode.specs.declared.value.Value.TheVariants as values
use Rattle.bpf_decode.specs.Instruction.{byte_count, signed_byte_count, Fits}
use Rattle.bpf_decode.specs.Arithmetic.{neg_value, signed_move_value, end_value, signed_load_value, is_taken}
use Rattle.bpf_decode.specs.Jump.{branch_to}
use Rattle.bpf_decode.specs.Values.{may_store, extended}
use Rattle.bpf_decode.specs.declared.rule_set.RuleSet.{RuleSet}
use Rattle.bpf_machine.specs.declared.caps.Caps.{Caps}
use Rattle.bpf_machine.specs.State.{le_value, size, set_reg, go}
use Rattle.bpf_machine.specs.Typed.{Typed, operand_value, locate, typed_after, typed_act, typed_exit_of}
use Rattle.bpf_machine.specs.Slots.{slot_values}
use Rattle.abstract_regs.specs.Kind.{PlainKind, Unset, Num, Ptr, is_unset, is_ptr}
use Rattle.abstract_regs.specs.Frame.{PlainFrame, kind_at, operand_kind, kept_kind}
use Rattle.abstract_regs.specs.Moves.{value_at, Reached, IsNumber, IsSlot, LoadIsKnown, Moves, KindFits, EachFits}
use Rattle.abstract_regs.specs.Laws.{AccessesFit}
use Rattle.verifier.specs.Kind.{stays, is_read_only}
use Rattle.abstract_num.specs.declared.precision.Precision.{Precision}
use Rattle.verifier.specs.Frame.{IsWithin, Holds, precision_of}
use Rattle.verifier.specs.Rules.{operand_is_unset, room_of}
use Rattle.verifier.specs.Answers.{answer_of}
use Rattle.verifier.proofs.Allowed.{when_left, allowed}
use Rattle.verifier.proofs.Holding.{HoldsValue, read, value_is, operand_is, not_ptr_is_num, numbered, form_of, number_of, operand_read, operand_is_set, computes, copies, extended_small16, not_false}
use Rattle.verifier.proofs.Passed.{neither, Passed}
use Rattle.verifier.proofs.Calls.{one_more, call_made, fits_in}
use Rattle.verifier.proofs.Memory.{Laws, Stored, length-values, placed, reads_bytes, number_loads, loaded, number_stored, place_stored}

-- the step is made, and takes the registers on
pub record Steps (rules : RuleSet) (known : ℕ) (caps : Caps) (f : PlainFrame) (i : Insn) (s : Typed) : Type 0 where
  pub to : Typed
  pub act : typed_act caps i s ≡ Some to
  pub moves : Moves (room_of i) (answer_of rules f i) i s.slot s.regs (slot_values known s.memory.stack) to.slot to.regs (slot_values known to.memory.stack)
  pub within : IsWithin known to

below_ten : (d : ℕ) → d ≤ 10 → (d == 10) ≡ false → nat_lt d 10 ≡ true
below_ten d le e = grind arith

-- where an access that stays in its region lies
record Found (caps : Caps) (x : PlainKind) (v : Value) (distance w : ℕ) : Type 0 where
  region : Region
  offset : ℕ
  points : v ≡ values.Ptr region offset
  is : locate caps v distance w ≡ Some (placed region ((offset + distance) % 2 ^ 64))
  inside : (offset + distance) % 2 ^ 64 + w ≤ size caps region
  writable : is_read_only x ≡ false → may_store region ≡ true
  holds : HoldsValue x (values.Ptr region offset)

found : AccessesFit → (precision : Precision) (caps : Caps) (x : PlainKind) (v : Value) (distance w : ℕ) → distance < 2 ^ 64 → KindFits x → HoldsValue x v → stays precision caps x distance w ≡ true → Found caps x v distance w
found law precision caps Unset v distance w small fit h b = absurd (false≢true b)
found law precision caps (Num k) v distance w small fit h b = absurd (false≢true b)
found law precision caps (Ptr r k) (values.Num n) distance w small fit h b = absurd h
found law precision caps (Ptr r k) (values.Ptr q at) distance w small fit h b =
    let le = law precision k fit distance w (size caps r) small b at h.1 in
    let same_size : size caps r ≡ size caps q = ap (size caps) h.0 in
    let fits : (at + distance) % 2 ^ 64 + w ≤ size caps q = omega (arith, le, same_size) in
    record { region = q; offset = at; points = refl; is = cond-true _ _ _ (le-leb _ _ fits); inside = fits; writable = λ e. ap may_store (sym h.0) ∙ not_false _ e; holds = h }

-- a register set
pub set_to : (s : Typed) (d : ℕ) (v : Value) → d ≤ 10 → (d == 10) ≡ false → set_reg s d v ≡ Some (record s { regs = slice_set s.regs d (Some v) })
set_to s d v le ok = cond-true _ _ _ (below_ten d le ok)

-- registers and the slot are no limits of a state
pub within_regs : {known : ℕ} (s : Typed) (q : ℕ) (regs : List (Option Value)) → IsWithin known s → IsWithin known (go q (record s { regs = regs }))
within_regs s q regs w = record { memory = w.memory; object = w.object; client = w.client; limits = w.limits }

pub within_slot : {known : ℕ} (s : Typed) (q : ℕ) → IsWithin known s → IsWithin known (go q s)
within_slot s q w = record { memory = w.memory; object = w.object; client = w.client; limits = w.limits }

-- no load with sign extension is a whole slot
no_slot_signed : (width : SignedWidth) → signed_byte_count width ≡ 8 → ⊥
no_slot_signed signed.Byte e = omega (arith, e)
no_slot_signed signed.Half e = omega (arith, e)
no_slot_signed signed.Word e = omega (arith, e)

pub extended_small32 : (z : ℤ) → FitsSigned w32 z → extended z < 2 ^ 64
extended_small32 (pos n) h = let s = h.sfits in omega arith
extended_small32 (negsuc n) h = omega arith

kept_if : {A : Type 0} (b : Bool) (o : Option A) → (b && not (is_some o)) ≡ false → b ≡ true → is_some o ≡ true
kept_if b o e t = not_false _ (when_left b (not (is_some o)) e t)

module _ (laws : Laws) (rules : RuleSet) (caps : Caps) (code : List (Option Insn)) (p known : ℕ) (few : known ≤ 64) (f : PlainFrame) (s : Typed) (h : Holds known f s) (fits : EachFits f.registers) where
  -- the values of the slots of which the frame speaks
  abbrev vs : List (Option Value)
  vs = slot_values known s.memory.stack

  long_vs : length f.slots ≡ length vs
  long_vs = h.long ∙ sym (length-values known s.memory.stack)

  pub computed_step : (i : Insn) (d : ℕ) (v : Value) (q : ℕ) → typed_act caps i s ≡ Some (go q (record s { regs = slice_set s.regs d (Some v) })) → Moves (room_of i) (answer_of rules f i) i s.slot s.regs vs q (slice_set s.regs d (Some v)) vs → Steps rules known caps f i s
  computed_step i d v q e m = record { to = go q (record s { regs = slice_set s.regs d (Some v) }); act = e; moves = m; within = within_regs s q (slice_set s.regs d (Some v)) h.within }

  alu_steps : (bits : OpWidth) (operation : Arithmetic) (d : ℕ) (x : Operand) → Fits (Alu bits operation d x) → Passed rules caps code p (Alu bits operation d x) f → Steps rules known caps f (Alu bits operation d x) s
  alu_steps bits operation d x fit ok =
      let unset = neither (is_unset (kind_at f d)) (operand_is_unset f x) ok.unset in
      let y = operand_read f s x h unset.1 in
      let v = read f s d h unset.0 in
      let w = computes bits operation (kind_at f d) (operand_kind f x) v.value y.0 (form_of (kind_at f d) v.value v.holds) y.2 unset.0 (operand_is_set f x unset.1) ok.computed in
      computed_step (Alu bits operation d x) d w.0 (s.slot + 1)
      (one_more _ _ _ _ y.1 (one_more _ _ _ _ v.there (ap (typed_after s) (one_more _ _ _ _ w.1 (set_to s d w.0 fit.0 ok.r10)))))
      (v.value, y.0, w.0, value_is s d v.value v.there, operand_is s x y.0 y.1, w.1, refl, refl, refl)

  neg_steps : (bits : OpWidth) (d : ℕ) → Fits (Neg bits d) → Passed rules caps code p (Neg bits d) f → Steps rules known caps f (Neg bits d) s
  neg_steps bits d fit ok =
      let v = read f s d h ok.unset in
      let n = number_of (kind_at f d) v.value (form_of (kind_at f d) v.value v.holds) ok.unset ok.computed in
      computed_step (Neg bits d) d (values.Num (neg_value bits n.0)) (s.slot + 1)
      (one_more _ _ _ _ v.there (one_more _ _ _ _ n.1 (ap (typed_after s) (set_to s d _ fit ok.r10))))
      (n.0, value_is s d v.value v.there ∙ ap Some n.2, refl, refl, refl)

  mov_steps : (bits : OpWidth) (d : ℕ) (x : Operand) → Fits (Mov bits d x) → Passed rules caps code p (Mov bits d x) f → Steps rules known caps f (Mov bits d x) s
  mov_steps bits d x fit ok =
      let y = operand_read f s x h ok.unset in
      let w = copies bits (operand_kind f x) y.0 y.2 (operand_is_set f x ok.unset) ok.computed in
      computed_step (Mov bits d x) d w.0 (s.slot + 1)
      (one_more _ _ _ _ y.1 (ap (typed_after s) (one_more _ _ _ _ w.1 (set_to s d w.0 fit.0 ok.r10))))
      (y.0, w.0, operand_is s x y.0 y.1, w.1, refl, refl, refl)

  signed_move_steps : (extension : SignedMove) (d src : ℕ) → Fits (MovSigned extension d src) → Passed rules caps code p (MovSigned extension d src) f → Steps rules known caps f (MovSigned extension d src) s
  signed_move_steps extension d src fit ok =
      let v = read f s src h ok.unset in
      let n = number_of (kind_at f src) v.value (form_of (kind_at f src) v.value v.holds) ok.unset ok.computed in
      computed_step (MovSigned extension d src) d (values.Num (signed_move_value extension n.0)) (s.slot + 1)
      (one_more _ _ _ _ v.there (one_more _ _ _ _ n.1 (ap (typed_after s) (set_to s d _ fit.0 ok.r10))))
      (n.0, value_is s src v.value v.there ∙ ap Some n.2, refl, refl, refl)

  end_steps : (order : ByteOrder) (width : EndWidth) (d : ℕ) → Fits (End order width d) → Passed rules caps code p (End order width d) f → Steps rules known caps f (End order width d) s
  end_steps order width d fit ok =
      let v = read f s d h ok.unset in
      let n = number_of (kind_at f d) v.value (form_of (kind_at f d) v.value v.holds) ok.unset ok.computed in
      computed_step (End order width d) d (values.Num (end_value order width n.0)) (s.slot + 1)
      (one_more _ _ _ _ v.there (one_more _ _ _ _ n.1 (ap (typed_after s) (set_to s d _ fit ok.r10))))
      (n.0, value_is s d v.value v.there ∙ ap Some n.2, refl, refl, refl)

  wide_steps : (d value : ℕ) → Fits (LoadWide d value) → Passed rules caps code p (LoadWide d value) f → Steps rules known caps f (LoadWide d value) s
  wide_steps d value fit ok =
      computed_step (LoadWide d value) d (values.Num value) (s.slot + 2) (one_more _ _ _ _ (set_to s d (values.Num value) fit.0 ok.r10) refl) (refl, refl, refl)

  load_steps : (width : Width) (d base : ℕ) (offset : ℤ) → Fits (Load width d base offset) → Passed rules caps code p (Load width d base offset) f → Steps rules known caps f (Load width d base offset) s
  load_steps width d base offset fit ok =
      let x = kind_at f base in
      let w = byte_count width in
      let small = extended_small16 offset fit.2 in
      let v = read f s base h ok.unset in
      let at = found laws.accesses (precision_of rules) caps x v.value (extended offset) w small (fits_in f.registers base fits) v.holds (not_false _ ok.bounds) in
      let reads = laws.loads (precision_of rules) f x (extended offset) w (fits_in f.registers base fits) small (allowed rules caps code p f (Load width d base offset) ok) vs long_vs h.slots at.region at.offset at.holds in
      let l = loaded laws.slots caps known few s.memory (h.within).memory (placed at.region ((at.offset + extended offset) % 2 ^ 64)) w at.inside reads in
      computed_step (Load width d base offset) d l.value (s.slot + 1)
      (one_more _ _ _ _ v.there (ap (typed_after s) (one_more _ _ _ _ at.is (one_more _ _ _ _ l.is (set_to s d l.value fit.0 ok.r10)))))
      (at.region, at.offset, l.value, value_is s base v.value v.there ∙ ap Some at.points, l.loads, refl, refl, refl)

  -- the slots that a load with sign extension reaches are numbers
  numbers_of : (width : SignedWidth) (r : Region) (at : ℕ) → LoadIsKnown vs r at (signed_byte_count width) → (j : ℕ) → j < length vs → Reached r at (signed_byte_count width) j → IsNumber (value_at vs j)
  numbers_of width r at (inl numbers) = numbers
  numbers_of width r at (inr slot) = absurd (no_slot_signed width (width_of slot.1))
    where
      width_of : {j : ℕ} → IsSlot vs r at (signed_byte_count width) j → signed_byte_count width ≡ 8
      width_of is = is.width

  signed_load_steps : (width : SignedWidth) (d base : ℕ) (offset : ℤ) → Fits (LoadSigned width d base offset) → Passed rules caps code p (LoadSigned width d base offset) f → Steps rules known caps f (LoadSigned width d base offset) s
  signed_load_steps width d base offset fit ok =
      let x = kind_at f base in
      let w = signed_byte_count width in
      let small = extended_small16 offset fit.2 in
      let v = read f s base h ok.unset in
      let at = found laws.accesses (precision_of rules) caps x v.value (extended offset) w small (fits_in f.registers base fits) v.holds (not_false _ ok.bounds) in
      let allows = allowed rules caps code p f (LoadSigned width d base offset) ok in
      let reads = laws.loads (precision_of rules) f x (extended offset) w (fits_in f.registers base fits) small allows.0 vs long_vs h.slots at.region at.offset at.holds in
      let place = (at.offset + extended offset) % 2 ^ 64 in
      let b = reads_bytes laws.slots caps known few s.memory (h.within).memory at.region place w at.inside (numbers_of width at.region place reads) in
      let n = le_value b.bytes in
      computed_step (LoadSigned width d base offset) d (values.Num (signed_load_value width n)) (s.slot + 1)
      (one_more _ _ _ _ v.there (ap (typed_after s) (one_more _ _ _ _ at.is (one_more _ _ _ _ b.are (set_to s d (values.Num (signed_load_value width n)) fit.0 ok.r10)))))
      (at.region, at.offset, n, value_is s base v.value v.there ∙ ap Some at.points, number_loads laws.slots caps known few s.memory (h.within).memory at.region place w b, refl, refl, refl)

  -- what a store stores: a number; or a place, in a slot
  stored_value : (k : PlainKind) (v : Value) (q : Region × ℕ) (w : ℕ) → HoldsValue k v → is_unset k ≡ false → q.1 + w ≤ size caps q.0 → (is_ptr k ≡ true → (j : ℕ) × IsSlot vs q.0 q.1 w j) → Stored known s.memory q w v
  stored_value Unset v q w holds set inside slot = absurd (false≢true (sym set))
  stored_value (Num k) (values.Num n) q w holds set inside slot = number_stored laws.slots caps known few s.memory (h.within).memory q w n inside holds.fits
  stored_value (Num k) (values.Ptr r at) q w holds set inside slot = absurd holds
  stored_value (Ptr r k) (values.Num n) q w holds set inside slot = absurd holds
  stored_value (Ptr r k) (values.Ptr o at) q w holds set inside slot =
      let t = slot refl in place_stored laws.slots caps known few s.memory (h.within).memory q w t.0 t.1 o at

  pub record Storing (x : Operand) (q : Region × ℕ) (w : ℕ) : Type 0 where
    value : Value
    read : operand_value s x ≡ Some value
    stored : Stored known s.memory q w value

  storing : (width : Width) (base : ℕ) (offset : ℤ) (x : Operand) → Fits (Store width base offset x) → Passed rules caps code p (Store width base offset x) f → operand_is_unset f x ≡ false → (r : Region) (at : ℕ) → HoldsValue (kind_at f base) (values.Ptr r at) → (at + extended offset) % 2 ^ 64 + byte_count width ≤ size caps r → Storing x (placed r ((at + extended offset) % 2 ^ 64)) (byte_count width)
  storing width base offset (Immediate imm) fit ok set r at holds inside =
      record { value = values.Num (extended imm); read = refl; stored = number_stored laws.slots caps known few s.memory (h.within).memory (placed r ((at + extended offset) % 2 ^ 64)) (byte_count width) (extended imm) inside (extended_small32 imm fit.2) }
  storing width base offset (Register o) fit ok set r at holds inside =
      let v = read f s o h set in
      record {
        value = v.value;
        read = v.there;
        stored = stored_value (kind_at f o) v.value (placed r ((at + extended offset) % 2 ^ 64)) (byte_count width) v.holds set inside (λ pointer.
            laws.places (precision_of rules) f (kind_at f base) (extended offset) (byte_count width) (fits_in f.registers base fits) (extended_small16 offset fit.1) (kept_if (is_ptr (kind_at f o)) (kept_kind (precision_of rules) f (kind_at f base) (extended offset) (byte_count width)) ok.stored pointer) vs long_vs r at holds);
      }

  store_steps : (width : Width) (base : ℕ) (offset : ℤ) (x : Operand) → Fits (Store width base offset x) → Passed rules caps code p (Store width base offset x) f → Steps rules known caps f (Store width base offset x) s
  store_steps width base offset x fit ok =
      let unset = neither (is_unset (kind_at f base)) (operand_is_unset f x) ok.unset in
      let v = read f s base h unset.0 in
      let w = byte_count width in
      let at = found laws.accesses (precision_of rules) caps (kind_at f base) v.value (extended offset) w (extended_small16 offset fit.1) (fits_in f.registers base fits) v.holds (not_false _ ok.bounds) in
      let y = storing width base offset x fit ok unset.1 at.region at.offset at.holds at.inside in
      let kept = y.stored in
      let t : Typed = record s { memory = kept.to } in
      record {
        to = go (s.slot + 1) t;
        act = one_more _ _ _ _ v.there (one_more _ _ _ _ y.read (ap (typed_after s) (one_more _ _ _ t at.is (cond-true _ _ _ (at.writable ok.read_only) ∙ one_more _ _ _ _ kept.is refl))));
        moves = (at.region, at.offset, y.value, value_is s base v.value v.there ∙ ap Some at.points, operand_is s x y.value y.read, kept.stores, refl, refl);
        within = record { memory = kept.memory; object = (h.within).object; client = (h.within).client; limits = (h.within).limits };
      }

  pub branch_steps : (bits : OpWidth) (comparison : Comparison) (d : ℕ) (x : Operand) (offset : ℤ) → Passed rules caps code p (Branch bits comparison d x offset) f → Steps rules known caps f (Branch bits comparison d x offset) s
  branch_steps bits comparison d x offset ok =
      let unset = neither (is_unset (kind_at f d)) (operand_is_unset f x) ok.unset in
      let pointers = neither (is_ptr (kind_at f d)) (is_ptr (operand_kind f x)) ok.compared in
      let v = read f s d h unset.0 in
      let m = number_of (kind_at f d) v.value (form_of (kind_at f d) v.value v.holds) unset.0 pointers.0 in
      let y = operand_read f s x h unset.1 in
      let n = number_of (operand_kind f x) y.0 y.2 (operand_is_set f x unset.1) pointers.1 in
      record {
        to = go (branch_to (is_taken bits comparison m.0 n.0) s.slot (extended offset)) s;
        act = one_more _ _ _ _ v.there (one_more _ _ _ _ m.1 (one_more _ _ _ _ y.1 (one_more _ _ _ _ n.1 refl)));
        moves = (m.0, n.0, value_is s d v.value v.there ∙ ap Some m.2, operand_is s x y.0 y.1 ∙ ap Some n.2, refl, refl, refl);
        within = within_slot s (branch_to (is_taken bits comparison m.0 n.0) s.slot (extended offset)) h.within;
      }

  call_steps : (helper : ℕ) → Passed rules caps code p (Call helper) f → Steps rules known caps f (Call helper) s
  call_steps helper ok =
      let t = call_made laws rules caps known few helper f s h ok.unknown ok.asks_set ok.asks_bounds ok.asks_read_only ok.kinds ok.asks_parts ok.writes in
      record { to = go (s.slot + 1) t.to; act = ap (typed_after s) t.made; moves = (t.answer, t.holds, refl, t.regs, t.slots); within = within_slot t.to (s.slot + 1) t.within }

  pub steps : (i : Insn) → Fits i → Passed rules caps code p i f → i ≢ Exit → Steps rules known caps f i s
  steps (Alu bits operation d x) fit ok go_on = alu_steps bits operation d x fit ok
  steps (Neg bits d) fit ok go_on = neg_steps bits d fit ok
  steps (Mov bits d x) fit ok go_on = mov_steps bits d x fit ok
  steps (MovSigned extension d src) fit ok go_on = signed_move_steps extension d src fit ok
  steps (End order width d) fit ok go_on = end_steps order width d fit ok
  steps (LoadWide d value) fit ok go_on = wide_steps d value fit ok
  steps (Load width d base offset) fit ok go_on = load_steps width d base offset fit ok
  steps (LoadSigned width d base offset) fit ok go_on = signed_load_steps width d base offset fit ok
  steps (Store width base offset x) fit ok go_on = store_steps width base offset x fit ok
  steps (Jump offset) fit ok go_on = record { to = go _ s; act = refl; moves = (refl, refl, refl); within = within_slot s _ h.within }
  steps (JumpLong distance) fit ok go_on = record { to = go _ s; act = refl; moves = (refl, refl, refl); within = within_slot s _ h.within }
  steps (Branch bits comparison d x offset) fit ok go_on = branch_steps bits comparison d x offset ok
  steps (Call helper) fit ok go_on = call_steps helper ok
  steps (CallLocal distance) fit ok go_on = absurd (false≢true (sym ok.local))
  steps Exit fit ok go_on = absurd (go_on refl)

-- at an exit register 0 has a number
pub exits : {known : ℕ} (rules : RuleSet) (caps : Caps) (code : List (Option Insn)) (p : ℕ) (f : PlainFrame) (s : Typed) → Holds known f s → Passed rules caps code p Exit f → (n : ℕ) × (typed_exit_of Exit s ≡ Some n)
exits rules caps code p f s h ok =
    let v = read f s 0 h ok.unset in
    let n = numbered (kind_at f 0) v.value v.holds (not_ptr_is_num _ ok.unset ok.returns) in
    (n.0, one_more _ _ _ _ v.there n.1)

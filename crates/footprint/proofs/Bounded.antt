-- How long the list of a whole run is.
use Rattle.std.proofs.Common.{◌≡◌, ◌∙◌, ℕ, zero, suc, ◌+◌, ◌-◌, ◌*◌, ◌%◌, ◌^◌, ◌<◌, ◌≤◌, Bool, true, false, List, [], ◌∷◌, ◌++◌, Option, Some, None, ◌⊎◌, inl, inr, refl, ap, sym, subst, arith, length, drop}
use Rattle.std.specs.Prelude.{if◌then◌else◌, nat_lt, nat_le, not, ◌==◌, ◌||◌, slice_get, slice_set, unwrap_or}
use Rattle.std.specs.Option.{option_map}
use Rattle.std.proofs.lemmas.Option.{none-some, same_Some}
use Rattle.std.proofs.lemmas.Bool.{and_parts, leb-true, ltb-false}
use Rattle.std.proofs.lemmas.List.{length-append, length-take}
use Rattle.std.proofs.lemmas.Grind.{flat_map-append}
use Rattle.std.proofs.Math.Nat.{mul-suc, mul-add}
use Rattle.std.proofs.lemmas.Nat.{mul-le}
use Rattle.bpf_decode.specs.declared.access.SignedWidth.{SignedWidth}
use Rattle.bpf_decode.specs.declared.insn.Insn.{Insn}
use Rattle.bpf_decode.specs.declared.insn.Insn.TheVariants.{Alu, Neg, Mov, MovSigned, End, LoadWide, Load, LoadSigned, Store, Jump, JumpLong, Branch, Call, CallLocal, Exit}
use Rattle.bpf_decode.specs.declared.region.Region.{Region}
use Rattle.bpf_decode.specs.declared.region.Region.TheVariants.{Input, Output, Stack}
use Rattle.bpf_decode.specs.declared.rule_set.RuleSet.{RuleSet}
use Rattle.bpf_decode.specs.declared.rule_set.RuleSet.TheVariants.{One, Two, Three}
use Rattle.bpf_decode.specs.Limits.{capacity_limit}
use Rattle.bpf_decode.specs.Instruction.{AllFit, byte_count, signed_byte_count, spelling, slot_count, slot_total}
use Rattle.bpf_decode.specs.Arithmetic.{alu_value, neg_value, mov_value, signed_move_value, end_value, is_taken, signed_load_value}
use Rattle.bpf_decode.specs.Jump.{jump_target, branch_to}
use Rattle.object_store.specs.declared.limits.TheConstants.{NAME_LIMIT, VALUE_LIMIT}
use Rattle.object_store.specs.Calls.{is_named_within}
use Rattle.object_store.specs.declared.limits.Limits.{Limits}
use Rattle.object_store.specs.Limits.{profile}
use Rattle.object_store.specs.Object.{PlainObject, part}
use Rattle.txn.specs.Edits.{Edit, edit_bytes, spelled}
use Rattle.helpers.specs.declared.argument.Argument.{Argument}
use Rattle.helpers.specs.declared.argument.Argument.TheVariants.{Number, OutputLength, Readable, Writable}
use Rattle.helpers.specs.declared.errno.TheConstants.{EINVAL, EFBIG}
use Rattle.helpers.specs.declared.helper.Helper.{Helper}
use Rattle.helpers.specs.declared.helper.Helper.TheVariants.{Stat, Read, Write, Truncate, Remove, GetXattr, SetXattr, RmXattr, MapGet, MapSet, MapRm, MapNext, OutLen, Create, Caller, Compare, Copy, XattrNext}
use Rattle.helpers.specs.Effect as table
use Rattle.helpers.specs.Effect.{Effect, refused, number, text}
use Rattle.helpers.specs.Table.{row, helper_of}
use Rattle.helpers.specs.Edits.{if_done, edits_row, edits_of, edits}
use Rattle.bpf_machine.specs.declared.caps.Caps.{Caps}
use Rattle.bpf_machine.specs.State.{◌>>=◌, only, le_value, le_bytes, cells, put, may_store, size, Memory, State, reg, set_reg, go, with_edits}
use Rattle.bpf_machine.specs.Helper.{Given, with_number, with_text, with_room, asked, bytes_in}
use Rattle.bpf_machine.specs.Flat.{Layout, base, holds, find, range, load, load_signed, store, arguments, flat_after, Chain}
use Rattle.bpf_machine.specs.Lists.{listed_entry, list_of}
use Rattle.bpf_machine.specs.Typed.{extended}
use Rattle.bpf_machine.specs.Decoded.{operand_in, insn_act}
use Rattle.bpf_machine.specs.Blind.{NoCall, StepsAreBlind}
use Rattle.bpf_machine.specs.Safe.{caps_of, BytesAreInstructions, ElsewhereIsStuck, HasLayout, first_layout}
use Rattle.footprint.specs.Calls.{given_in}
use Rattle.footprint.specs.Lengths.{list_length, longest_text, most_of_call, ListsAreBounded, list_limit, ListsAreShort}
use Rattle.footprint.proofs.EditBytes.{no_length, done_length, created_length, write_length, set_xattr_length, set_key_length, remove_xattr_length, remove_key_length}
use Rattle.footprint.proofs.Moves.{bind_some, only_some, given_limits, helped, plain_leaves, Stepped, stepped}

module _ (caps : Caps) (lay : Layout) where
  size_longest : (r : Region) → size caps r ≤ longest_text caps
  size_longest Input = omega arith
  size_longest Output = omega arith
  size_longest Stack = omega arith

  holds_short : (r : Region) (at w : ℕ) → holds caps lay r at w ≡ true → w ≤ longest_text caps
  holds_short r at w e =
      let p = and_parts (nat_le (base lay r) at) (nat_le (at + w) (base lay r + size caps r)) e in
      let low = leb-true (base lay r) at p.0 in
      let high = leb-true (at + w) (base lay r + size caps r) p.1 in
      let longest = size_longest r in
      omega arith

  find_short : (at w : ℕ) (p : Region × ℕ) → find caps lay at w ≡ Some p → w ≤ longest_text caps
  find_short at w p e = input (holds caps lay Input at w) refl e
    where
      stack : (b : Bool) → holds caps lay Stack at w ≡ b → (if b then Some (Stack, at - lay.stack) else None) ≡ Some p → w ≤ longest_text caps
      stack true h e = holds_short Stack at w h
      stack false h e = absurd (none-some p e)

      output : (b : Bool) → holds caps lay Output at w ≡ b → (if b then Some (Output, at - lay.output) else if holds caps lay Stack at w then Some (Stack, at - lay.stack) else None) ≡ Some p → w ≤ longest_text caps
      output true h e = holds_short Output at w h
      output false h e = stack (holds caps lay Stack at w) refl e

      input : (b : Bool) → holds caps lay Input at w ≡ b → (if b then Some (Input, at - lay.input) else if holds caps lay Output at w then Some (Output, at - lay.output) else if holds caps lay Stack at w then Some (Stack, at - lay.stack) else None) ≡ Some p → w ≤ longest_text caps
      input true h e = holds_short Input at w h
      input false h e = output (holds caps lay Output at w) refl e

  part_short : (xs : List ℕ) (at n : ℕ) → n ≤ longest_text caps → length (part xs at n) ≤ longest_text caps
  part_short xs at n h = omega (arith, length-take n (drop at xs))

  range_short : (m : Memory) (at n : ℕ) (p : Option (Region × ℕ)) → range caps lay false at n ≡ Some p → length (bytes_in m p n) ≤ longest_text caps
  range_short m at n None e = omega arith
  range_short m at n (Some q) e = by (n == 0) e
    where
      by : (b : Bool) → (if b then Some None else (find caps lay at n >>= λ p. Some (Some p))) ≡ Some (Some q) → length (part (cells m q.0) q.1 n) ≤ longest_text caps
      by true e = cc
      by false e =
          let found = bind_some (find caps lay at n) (λ p. Some (Some p)) (Some q) e in
          part_short (cells m q.0) q.1 n (find_short at n found.0 found.1)

  -- all texts are short
  abbrev pub AreShort : List (List ℕ) → Type 0
  AreShort ts = (i : ℕ) → length (unwrap_or (slice_get ts i) []) ≤ longest_text caps

  more_short : (t : List ℕ) (ts : List (List ℕ)) → length t ≤ longest_text caps → AreShort ts → AreShort (t ∷ ts)
  more_short t ts h hs zero = h
  more_short t ts h hs (suc i) = hs i

  -- one argument more
  and_more : (o : Option Given) (f : Given → Given) (g : Given) → ((b : Given) → o ≡ Some b → AreShort (f b).texts) → (o >>= λ b. Some (f b)) ≡ Some g → AreShort g.texts
  and_more None f g h e = absurd (none-some g e)
  and_more (Some b) f g h e = subst (λ (g : Given). AreShort g.texts) (same_Some (f b) g e) (h b refl)

  texts_short : (s : State ℕ) (args : List Argument) (k : ℕ) (g : Given) → arguments caps lay s args k ≡ Some g → AreShort g.texts
  texts_short s [] k g e =
      subst (λ (g : Given). AreShort g.texts) (same_Some _ g e) (λ i. omega arith)
  texts_short s (Number ∷ more) k g e =
      let a = bind_some (reg s k) _ g e in
      and_more (arguments caps lay s more (k + 1)) (with_number a.0) g (texts_short s more (k + 1)) a.2
  texts_short s (OutputLength ∷ more) k g e =
      let a = bind_some (reg s k) _ g e in
      and_more (arguments caps lay s more (k + 1)) (with_number a.0) g (texts_short s more (k + 1)) (only_some (nat_le a.0 caps.out_cap) _ g a.2)
  texts_short s (Readable ∷ more) k g e =
      let a = bind_some (reg s k) _ g e in
      let n = bind_some (reg s (k + 1)) _ g a.2 in
      let p = bind_some (range caps lay false a.0 n.0) _ g n.2 in
      and_more (arguments caps lay s more (k + 2)) (with_text (bytes_in s.memory p.0 n.0)) g
      (λ b is. more_short (bytes_in s.memory p.0 n.0) b.texts (range_short s.memory a.0 n.0 p.0 p.1) (texts_short s more (k + 2) b is)) p.2
  texts_short s (Writable ∷ more) k g e =
      let a = bind_some (reg s k) _ g e in
      let n = bind_some (reg s (k + 1)) _ g a.2 in
      let p = bind_some (range caps lay true a.0 n.0) _ g n.2 in
      and_more (arguments caps lay s more (k + 2)) (with_room n.0 p.0) g (texts_short s more (k + 2)) p.2

-- ---- what helpers that refuse long names and values leave
-- a refusal leaves none
refuses : (errno : ℕ) (o : PlainObject) (b : Bool) (e : Effect) (es : List Edit) (n : ℕ) → nat_lt (2 ^ 64 - errno) (2 ^ 63) ≡ false → (b ≡ false → list_length (if_done e.answer es) ≤ n) → list_length (if_done (if b then refused errno o else e).answer es) ≤ n
refuses errno o true e es n neg h =
    subst (λ (b : Bool). list_length (if b then es else []) ≤ n) (sym neg) (no_length n)
refuses errno o false e es n neg h = h refl

name_short : (name : List ℕ) (most : ℕ) → most ≡ NAME_LIMIT → not (is_named_within most name) ≡ false → length name ≤ NAME_LIMIT
name_short name most same e = grind arith

set_xattr_short : (o : PlainObject) (g : table.Given) → g.limits ≡ profile → list_length (if_done ((row SetXattr).effect o g).answer (edits_row SetXattr o g)) ≤ 6 + (NAME_LIMIT + VALUE_LIMIT)
set_xattr_short o g limits =
    refuses EINVAL o (not (is_named_within g.limits.xattrs.length (text g 0))) _ (edits_row SetXattr o g) _ refl (λ named.
    refuses EFBIG o (nat_lt VALUE_LIMIT (length (text g 1))) _ (edits_row SetXattr o g) _ refl (λ short.
    done_length _ _ (edits_row SetXattr o g) (omega (arith, set_xattr_length o (text g 0) (text g 1), name_short (text g 0) g.limits.xattrs.length (ap (λ (l : Limits). l.xattrs.length) limits) named, ltb-false VALUE_LIMIT (length (text g 1)) short))))

set_key_short : (o : PlainObject) (g : table.Given) → g.limits ≡ profile → list_length (if_done ((row MapSet).effect o g).answer (edits_row MapSet o g)) ≤ 6 + (NAME_LIMIT + VALUE_LIMIT)
set_key_short o g limits =
    refuses EINVAL o (not (is_named_within g.limits.keys.length (text g 0))) _ (edits_row MapSet o g) _ refl (λ named.
    refuses EFBIG o (nat_lt VALUE_LIMIT (length (text g 1))) _ (edits_row MapSet o g) _ refl (λ short.
    done_length _ _ (edits_row MapSet o g) (omega (arith, set_key_length o (text g 0) (text g 1), name_short (text g 0) g.limits.keys.length (ap (λ (l : Limits). l.keys.length) limits) named, ltb-false VALUE_LIMIT (length (text g 1)) short))))

remove_xattr_short : (o : PlainObject) (g : table.Given) → g.limits ≡ profile → list_length (if_done ((row RmXattr).effect o g).answer (edits_row RmXattr o g)) ≤ 3 + NAME_LIMIT
remove_xattr_short o g limits =
    refuses EINVAL o (not (is_named_within g.limits.xattrs.length (text g 0))) _ (edits_row RmXattr o g) _ refl (λ named.
    done_length _ _ (edits_row RmXattr o g) (omega (arith, remove_xattr_length (text g 0), name_short (text g 0) g.limits.xattrs.length (ap (λ (l : Limits). l.xattrs.length) limits) named)))

remove_key_short : (o : PlainObject) (g : table.Given) → g.limits ≡ profile → list_length (if_done ((row MapRm).effect o g).answer (edits_row MapRm o g)) ≤ 3 + NAME_LIMIT
remove_key_short o g limits =
    refuses EINVAL o (not (is_named_within g.limits.keys.length (text g 0))) _ (edits_row MapRm o g) _ refl (λ named.
    done_length _ _ (edits_row MapRm o g) (omega (arith, remove_key_length (text g 0), name_short (text g 0) g.limits.keys.length (ap (λ (l : Limits). l.keys.length) limits) named)))

-- ---- what the set ones of registers 1 to 3 count
abbrev pub held : ℕ → Option ℕ → ℕ
held c None = 0
held c (Some v) = c

abbrev pub weight_of : ℕ → List (Option ℕ) → ℕ
weight_of c regs =
    held c (slice_get regs 1 >>= λ x. x) + (held c (slice_get regs 2 >>= λ x. x) + held c (slice_get regs 3 >>= λ x. x))

abbrev pub weight : ℕ → State ℕ → ℕ
weight c s = weight_of c s.regs

-- a set one counts
set_held : (c : ℕ) (o : Option ℕ) (v : ℕ) → o ≡ Some v → held c o ≡ c
set_held c o v e = ap (held c) e

held_most : (c : ℕ) (o : Option ℕ) → held c o ≤ c
held_most c None = omega arith
held_most c (Some v) = omega arith

-- a write of one register leaves the others
other_kept : (xs : List (Option ℕ)) (d r : ℕ) (y : Option ℕ) → (d ≡ r) ⊎ (slice_get (slice_set xs d y) r ≡ slice_get xs r)
other_kept [] d r y = inr refl
other_kept (x ∷ xs) zero zero y = inl refl
other_kept (x ∷ xs) zero (suc r) y = inr refl
other_kept (x ∷ xs) (suc d) zero y = inr refl
other_kept (x ∷ xs) (suc d) (suc r) y = by (other_kept xs d r y)
  where
    by : (d ≡ r) ⊎ (slice_get (slice_set xs d y) r ≡ slice_get xs r) → (suc d ≡ suc r) ⊎ (slice_get (slice_set xs d y) r ≡ slice_get xs r)
    by (inl e) = inl (ap suc e)
    by (inr e) = inr e

module _ (c : ℕ) (regs : List (Option ℕ)) (d v : ℕ) where
  abbrev new : ℕ → ℕ
  new r = held c (slice_get (slice_set regs d (Some v)) r >>= λ x. x)

  abbrev old : ℕ → ℕ
  old r = held c (slice_get regs r >>= λ x. x)

  abbrev Set : ℕ → Type 0
  Set r = ((d ≡ r) × (new r ≤ c)) ⊎ (new r ≡ old r)

  set_or_kept : (r : ℕ) → Set r
  set_or_kept r = from (other_kept regs d r (Some v))
    where
      from : (d ≡ r) ⊎ (slice_get (slice_set regs d (Some v)) r ≡ slice_get regs r) → Set r
      from (inl e) = inl (e, held_most c (slice_get (slice_set regs d (Some v)) r >>= λ x. x))
      from (inr e) = inr (ap (λ (o : Option (Option ℕ)). held c (o >>= λ x. x)) e)

  of_three : Set 1 → Set 2 → Set 3 → new 1 + (new 2 + new 3) ≤ old 1 + (old 2 + old 3) + c
  of_three (inl a) (inl b) e = absurd (omega arith)
  of_three (inl a) (inr b) (inl e) = absurd (omega arith)
  of_three (inl a) (inr b) (inr e) = omega arith
  of_three (inr a) (inl b) (inl e) = absurd (omega arith)
  of_three (inr a) (inl b) (inr e) = omega arith
  of_three (inr a) (inr b) (inl e) = omega arith
  of_three (inr a) (inr b) (inr e) = omega arith

  set_weight : weight_of c (slice_set regs d (Some v)) ≤ weight_of c regs + c
  set_weight = of_three (set_or_kept 1) (set_or_kept 2) (set_or_kept 3)

-- ---- an instruction that is no call sets one register at most
module _ (c : ℕ) (s : State ℕ) where
  record Gains (o : Option (State ℕ)) : Type 0 where
    by : (t : State ℕ) → o ≡ Some t → weight c t ≤ weight c s + c

  gains_none : Gains None
  gains_none = record { by = λ t e. absurd (none-some t e) }

  gains_some : (t : State ℕ) → weight c t ≤ weight c s + c → Gains (Some t)
  gains_some t h = record { by = λ u e. subst (λ (u : State ℕ). weight c u ≤ weight c s + c) (same_Some t u e) h }

  gains_bind : {A : Type 0} (o : Option A) (f : A → Option (State ℕ)) → ((x : A) → Gains (f x)) → Gains (o >>= f)
  gains_bind None f h = gains_none
  gains_bind (Some x) f h = h x

  gains_only : (b : Bool) (o : Option (State ℕ)) → Gains o → Gains (only b o)
  gains_only true o h = h
  gains_only false o h = gains_none

  gains_go : (n : ℕ) (o : Option (State ℕ)) → Gains o → Gains (o >>= λ t. Some (go n t))
  gains_go n None h = gains_none
  gains_go n (Some t) h = gains_some (go n t) (h.by t refl)

  gains_set : (d v : ℕ) → Gains (set_reg s d v)
  gains_set d v =
      gains_only (nat_lt d 10) _ (gains_some (record s { regs = slice_set s.regs d (Some v) }) (set_weight c s.regs d v))

  module _ (caps : Caps) (lay : Layout) where
    after : (o : Option (State ℕ)) → Gains o → Gains (flat_after caps lay s o)
    after o h = gains_go (s.slot + 1) o h

    sets : (d v : ℕ) → Gains (flat_after caps lay s (set_reg s d v))
    sets d v = after (set_reg s d v) (gains_set d v)

    loads : (w dst at : ℕ) → Gains (load caps lay w dst at s)
    loads w dst at =
        gains_bind (find caps lay at w) _ (λ p. gains_set dst (le_value (part (cells s.memory p.0) p.1 w)))

    signed_loads : (w : SignedWidth) (dst at : ℕ) → Gains (load_signed caps lay w dst at s)
    signed_loads w dst at =
        gains_bind (find caps lay at (signed_byte_count w)) _ (λ p. gains_set dst (signed_load_value w (le_value (part (cells s.memory p.0) p.1 (signed_byte_count w)))))

    stores : (w at n : ℕ) → Gains (store caps lay w at n s)
    stores w at n =
        gains_bind (find caps lay at w) _ (λ p.
        gains_only (may_store p.0) _ (gains_some (record s { memory = put s.memory p.0 p.1 (le_bytes w n) }) (omega arith)))

    moves : (slot : ℕ) → Gains (Some (go slot s))
    moves slot = gains_some (go slot s) (omega arith)

    gains : (i : Insn) → NoCall i → Gains (insn_act caps lay i s)
    gains (Alu bits operation dst source) other =
        gains_bind (operand_in caps lay s source) _ (λ y. gains_bind (reg s dst) _ (λ x. sets dst (alu_value bits operation x y)))
    gains (Neg bits dst) other = gains_bind (reg s dst) _ (λ x. sets dst (neg_value bits x))
    gains (Mov bits dst source) other =
        gains_bind (operand_in caps lay s source) _ (λ y. sets dst (mov_value bits y))
    gains (MovSigned extension dst src) other = gains_bind (reg s src) _ (λ y. sets dst (signed_move_value extension y))
    gains (End order width dst) other = gains_bind (reg s dst) _ (λ x. sets dst (end_value order width x))
    gains (LoadWide dst value) other = gains_go (s.slot + 2) (set_reg s dst value) (gains_set dst value)
    gains (Load width dst from offset) other =
        gains_bind (reg s from) _ (λ n. after _ (loads (byte_count width) dst ((n + extended offset) % 2 ^ 64)))
    gains (LoadSigned width dst from offset) other =
        gains_bind (reg s from) _ (λ n. after _ (signed_loads width dst ((n + extended offset) % 2 ^ 64)))
    gains (Store width to offset source) other =
        gains_bind (reg s to) _ (λ n. gains_bind (operand_in caps lay s source) _ (λ y. after _ (stores (byte_count width) ((n + extended offset) % 2 ^ 64) y)))
    gains (Jump offset) other = moves (jump_target s.slot (extended offset))
    gains (JumpLong distance) other = moves (jump_target s.slot (extended distance))
    gains (Branch bits comparison dst source offset) other =
        gains_bind (reg s dst) _ (λ x. gains_bind (operand_in caps lay s source) _ (λ y. moves (branch_to (is_taken bits comparison x y) s.slot (extended offset))))
    gains (Call id) other = absurd other
    gains (CallLocal distance) other = gains_none
    gains Exit other = gains_none

-- ---- a call leaves a fourth of what the set registers count, and of one step more
module _ (blind : StepsAreBlind) (caps : Caps) (lay : Layout) where
  abbrev most : ℕ
  most = most_of_call caps

  -- a helper that takes three registers finds them set
  number_text_set : (s : State ℕ) (g : Given) → arguments caps lay s (Number ∷ Readable ∷ []) 1 ≡ Some g → weight most s ≡ most + (most + most)
  number_text_set s g e =
      let a = bind_some (reg s 1) _ g e in
      let b = bind_some (arguments caps lay s (Readable ∷ []) 2) (λ g. Some (with_number a.0 g)) g a.2 in
      let n = bind_some (reg s 2) _ b.0 b.1 in
      let m = bind_some (reg s 3) _ b.0 n.2 in
      omega (arith, set_held most (reg s 1) a.0 a.1, set_held most (reg s 2) n.0 n.1, set_held most (reg s 3) m.0 m.1)

  texts_set : (s : State ℕ) (g : Given) → arguments caps lay s (Readable ∷ Readable ∷ []) 1 ≡ Some g → weight most s ≡ most + (most + most)
  texts_set s g e =
      let a = bind_some (reg s 1) _ g e in
      let n = bind_some (reg s 2) _ g a.2 in
      let p = bind_some (range caps lay false a.0 n.0) _ g n.2 in
      let b = bind_some (arguments caps lay s (Readable ∷ []) 3) (λ g. Some (with_text (bytes_in s.memory p.0 n.0) g)) g p.2 in
      let m = bind_some (reg s 3) _ b.0 b.1 in
      omega (arith, set_held most (reg s 1) a.0 a.1, set_held most (reg s 2) n.0 n.1, set_held most (reg s 3) m.0 m.1)

  abbrev Leaves : Helper → State ℕ → Given → Type 0
  Leaves h s g =
      4 * list_length (if_done ((row h).effect s.object (asked g)).answer (edits_row h s.object (asked g))) ≤ weight most s + most

  least : 4174 ≤ most
  least = omega arith

  nothing_left : (h : Helper) (s : State ℕ) (g : Given) (n : ℕ) → n ≤ 1043 → list_length (edits_row h s.object (asked g)) ≤ n → Leaves h s g
  nothing_left h s g n few short =
      let l = least in
      omega (arith, done_length ((row h).effect s.object (asked g)).answer n (edits_row h s.object (asked g)) short)

  call_leaves : (h : Helper) (s : State ℕ) (g : Given) → s.limits ≡ profile → arguments caps lay s (row h).takes.arguments 1 ≡ Some g → Leaves h s g
  call_leaves Stat s g p e = nothing_left Stat s g 0 (omega arith) (omega arith)
  call_leaves Read s g p e = nothing_left Read s g 0 (omega arith) (omega arith)
  call_leaves Write s g p e =
      let short = texts_short caps lay s (Number ∷ Readable ∷ []) 1 g e 0 in
      let set = number_text_set s g e in
      let done = done_length ((row Write).effect s.object (asked g)).answer (14 + length (text (asked g) 0)) (edits_row Write s.object (asked g)) (write_length s.object (number (asked g) 0) (text (asked g) 0)) in
      omega arith
  call_leaves Truncate s g p e = nothing_left Truncate s g 9 (omega arith) (omega arith)
  call_leaves Remove s g p e = nothing_left Remove s g 1 (omega arith) (omega arith)
  call_leaves GetXattr s g p e = nothing_left GetXattr s g 0 (omega arith) (omega arith)
  call_leaves SetXattr s g p e =
      let set = texts_set s g e in
      let done = set_xattr_short s.object (asked g) (given_limits blind caps lay s (Readable ∷ Readable ∷ []) 1 g e ∙ p) in
      omega arith
  call_leaves RmXattr s g p e =
      let done = remove_xattr_short s.object (asked g) (given_limits blind caps lay s (Readable ∷ []) 1 g e ∙ p) in
      let l = least in
      omega arith
  call_leaves MapGet s g p e = nothing_left MapGet s g 0 (omega arith) (omega arith)
  call_leaves MapSet s g p e =
      let set = texts_set s g e in
      let done = set_key_short s.object (asked g) (given_limits blind caps lay s (Readable ∷ Readable ∷ []) 1 g e ∙ p) in
      omega arith
  call_leaves MapRm s g p e =
      let done = remove_key_short s.object (asked g) (given_limits blind caps lay s (Readable ∷ []) 1 g e ∙ p) in
      let l = least in
      omega arith
  call_leaves MapNext s g p e = nothing_left MapNext s g 0 (omega arith) (omega arith)
  call_leaves OutLen s g p e = nothing_left OutLen s g 0 (omega arith) (omega arith)
  call_leaves Create s g p e = nothing_left Create s g 1 (omega arith) (created_length s.object)
  call_leaves Caller s g p e = nothing_left Caller s g 0 (omega arith) (omega arith)
  call_leaves Compare s g p e = nothing_left Compare s g 0 (omega arith) (omega arith)
  call_leaves Copy s g p e = nothing_left Copy s g 0 (omega arith) (omega arith)
  call_leaves XattrNext s g p e = nothing_left XattrNext s g 0 (omega arith) (omega arith)

  called_leaves : (id : ℕ) (s : State ℕ) (g : Given) → s.limits ≡ profile → given_in caps lay id s ≡ Some g → 4 * list_length (edits id s.object (asked g)) ≤ weight most s + most
  called_leaves id s g p e = by (helper_of id) e
    where
      by : (h : Option Helper) → (option_map (λ h. (row h).takes) h >>= λ takes. only (not takes.writes || caps.writes) (arguments caps lay s takes.arguments 1)) ≡ Some g → 4 * list_length (edits_of h s.object (asked g)) ≤ weight most s + most
      by None e = absurd (none-some g e)
      by (Some h) e =
          call_leaves h s g p (only_some (not (row h).takes.writes || caps.writes) (arguments caps lay s (row h).takes.arguments 1) g e)

  -- ---- along a run
  -- four times the bytes so far, and what the set registers count
  record Counts (s t : State ℕ) (before : List Edit) : Type 0 where
    list : List Edit
    kept : t.edits ≡ Some list
    limits : t.limits ≡ profile
    most_bytes : 4 * list_length list + weight most t ≤ 4 * list_length before + weight most s + most

  step_counts : (is : List Insn) (s t : State ℕ) (es : List Edit) → s.limits ≡ profile → s.edits ≡ Some es → Stepped caps lay is s t → Counts s t es
  step_counts is s t es p kept (Stepped.plain i other at e) =
      let gained = (gains most s caps lay i other).by t e in
      record {
        list = es;
        kept = ap (λ (u : State ℕ). u.edits) (plain_leaves blind caps lay i s t other e) ∙ kept;
        limits = ap (λ (u : State ℕ). u.limits) (plain_leaves blind caps lay i s t other e) ∙ p;
        most_bytes = omega arith;
      }
  step_counts is s t es p kept (Stepped.called id g at is_given left) =
      let more = edits id s.object (asked g) in
      let u : State ℕ = go (s.slot + 1) (helped id s g) in
      let none_set : weight most u ≡ 0 = omega arith in
      let same : weight most u ≡ weight most t = ap (weight most) left in
      let leaves = called_leaves id s g p is_given in
      let joined : list_length (es ++ more) ≡ list_length es + list_length more = ap length (flat_map-append edit_bytes es more) ∙ length-append (spelled es) (spelled more) in
      record {
        list = es ++ more;
        kept = sym (ap (λ (u : State ℕ). u.edits) left) ∙ ap (with_edits more) kept;
        limits = sym (ap (λ (u : State ℕ). u.limits) left) ∙ p;
        most_bytes = omega arith;
      }

  -- the same after some steps
  record CountsOn (n : ℕ) (s l : State ℕ) (before : List Edit) : Type 0 where
    list : List Edit
    kept : l.edits ≡ Some list
    most_bytes : 4 * list_length list + weight most l ≤ 4 * list_length before + weight most s + most * n

  chain_counts : BytesAreInstructions → ElsewhereIsStuck → (is : List Insn) → AllFit is → (n : ℕ) (s l : State ℕ) (es : List Edit) → s.limits ≡ profile → s.edits ≡ Some es → Chain caps lay (spelling is) n s l → CountsOn n s l es
  chain_counts begins elsewhere is fit zero s l es p kept c =
      let same : weight most s ≡ weight most l = ap (weight most) c in
      record { list = es; kept = sym (ap (λ (u : State ℕ). u.edits) c) ∙ kept; most_bytes = omega arith }
  chain_counts begins elsewhere is fit (suc n) s l es p kept c =
      let first = step_counts is s c.0 es p kept (stepped caps lay is fit begins elsewhere s c.0 c.1) in
      let rest = chain_counts begins elsewhere is fit n c.0 l first.list first.limits first.kept c.2 in
      let one_more : most * suc n ≡ most * n + most = mul-suc most n in
      let one = first.most_bytes in
      let others = rest.most_bytes in
      record { list = rest.list; kept = rest.kept; most_bytes = omega arith }

-- ---- the laws
-- the list at an exit is that of the last state, or none
at_exit : (v : ℕ) (s : State ℕ) (es : List Edit) → s.edits ≡ Some es → list_length (list_of v s) ≤ list_length es
at_exit v s es kept = by (nat_lt v (2 ^ 63))
  where
    by : (b : Bool) → list_length (if b then unwrap_or s.edits [] else []) ≤ list_length es
    by true =
        subst (λ (o : Option (List Edit)). list_length (unwrap_or o []) ≤ list_length es) (sym kept) (omega arith)
    by false = no_length (list_length es)

pub lists_are_bounded : StepsAreBlind → BytesAreInstructions → ElsewhereIsStuck → ListsAreBounded
lists_are_bounded blind begins elsewhere m is_method lay object caller input outcome steps list l =
    let caps = caps_of m in
    let c = most_of_call caps in
    let first = listed_entry caps lay object caller input in
    let e = l.ends in
    let k = chain_counts blind caps lay begins elsewhere m.instructions is_method.fit e.before_exit first e.last [] refl refl e.chain in
    let counted = e.counted in
    let all : steps + 2 ≡ e.before_exit + 3 = omega arith in
    let three : c * (steps + 2) ≡ c * e.before_exit + c * 3 = ap (λ (n : ℕ). c * n) all ∙ mul-add c e.before_exit 3 in
    let held_three : weight c first ≡ c + (c + c) = refl in
    let most_bytes = k.most_bytes in
    let short : list_length list ≤ list_length k.list = subst (λ (es : List Edit). list_length es ≤ list_length k.list) (sym l.list_is) (at_exit e.value e.last k.list k.kept) in
    omega arith

some_slot : (i : Insn) → 1 ≤ slot_count i
some_slot (Alu bits operation dst source) = omega arith
some_slot (Neg bits dst) = omega arith
some_slot (Mov bits dst source) = omega arith
some_slot (MovSigned extension dst src) = omega arith
some_slot (End order width dst) = omega arith
some_slot (LoadWide dst value) = omega arith
some_slot (Load width dst base offset) = omega arith
some_slot (LoadSigned width dst base offset) = omega arith
some_slot (Store width base offset source) = omega arith
some_slot (Jump offset) = omega arith
some_slot (JumpLong distance) = omega arith
some_slot (Branch bits comparison dst source offset) = omega arith
some_slot (Call id) = omega arith
some_slot (CallLocal distance) = omega arith
some_slot Exit = omega arith

few_slots : (is : List Insn) → length is ≤ slot_total is
few_slots [] = omega arith
few_slots (i ∷ is) = omega (arith, some_slot i, few_slots is)

-- a bound of a call's bytes and of the steps bounds the list
below : (n c steps most : ℕ) → 4 * n ≤ c * (steps + 2) → c ≤ most → steps ≤ 4096 → 4 * n ≤ most * 4098
below n c steps most h less few =
    let product = mul-le c (steps + 2) most 4098 less (omega arith) in
    omega arith

pub lists_are_short : StepsAreBlind → BytesAreInstructions → ElsewhereIsStuck → HasLayout → ListsAreShort
lists_are_short blind begins elsewhere layouts rules m is_method within object caller input outcome steps list few lists =
    by rules within.in_cap within.out_cap
  where
    steps_few : steps ≤ 4096
    steps_few = omega (arith, few_slots m.instructions, is_method.slots)

    bounded : 4 * list_length list ≤ most_of_call (caps_of m) * (steps + 2)
    bounded =
        lists_are_bounded blind begins elsewhere m is_method (first_layout (caps_of m)) object caller input outcome steps list
        (lists (first_layout (caps_of m)) (layouts (caps_of m) (omega (arith, is_method.in_cap)) (omega (arith, is_method.out_cap))))

    by : (rules : RuleSet) → m.in_cap ≤ capacity_limit rules → m.out_cap ≤ capacity_limit rules → list_length list < list_limit rules
    by One in_cap out_cap =
        let few_bytes = below (list_length list) (most_of_call (caps_of m)) steps 4174 bounded (omega arith) steps_few in omega arith
    by Two in_cap out_cap =
        let few_bytes = below (list_length list) (most_of_call (caps_of m)) steps 4174 bounded (omega arith) steps_few in omega arith
    by Three in_cap out_cap =
        let few_bytes = below (list_length list) (most_of_call (caps_of m)) steps 65549 bounded (omega arith) steps_few in omega arith

-- A helper's call that no rule refuses has its arguments, and what it leaves is what its frame
-- says.
use Rattle.std.proofs.Common.{◌≡◌, ℕ, zero, suc, ◌+◌, ◌%◌, ◌^◌, ◌<◌, ◌≤◌, List, [], ◌∷◌, Option, Some, None, Bool, true, false, refl, ap, ◌∙◌, sym, subst, arith, length, inl, inr, ⊎_elim}
use Rattle.std.specs.Prelude.{◌-◌, min, ◌==◌, ◌&&◌, ◌||◌, not, nat_le, if◌then◌else◌, is_some, slice_get, unwrap_or}
use Rattle.std.specs.List.{AllByRecursion}
use Rattle.std.proofs.lemmas.Bool.{eqb-false, leb-true, le-leb, false≢true, cond-true}
use Rattle.std.specs.Option.{option_map}
use Rattle.std.proofs.lemmas.Option.{none-some, same_Some}
use Rattle.bpf_decode.specs.declared.region.Region.{Region}
use Rattle.bpf_decode.specs.declared.insn.Insn.TheVariants.{Call}
use Rattle.bpf_decode.specs.declared.rule_set.RuleSet.{RuleSet}
use Rattle.bpf_decode.specs.declared.rule_set.RuleSet.TheVariants.{One, Two, Three}
use Rattle.bpf_decode.specs.declared.value.Value.{Value}
use Rattle.bpf_decode.specs.declared.value.Value.TheVariants as values
use Rattle.bpf_machine.specs.declared.caps.Caps.{Caps}
use Rattle.object_store.specs.Object.{AreBytes}
use Rattle.object_store.specs.Limits.{IsLimits}
use Rattle.helpers.specs.declared.argument.Argument.{Argument}
use Rattle.helpers.specs.declared.argument.Argument.TheVariants.{Number, OutputLength, Readable, Writable}
use Rattle.helpers.specs.Effect.{Takes, Effect, text}
use Rattle.helpers.specs.Edits.{edits}
use Rattle.helpers.specs.Table.{signature_of, effect}
use Rattle.helpers.specs.declared.answer_ranges.AnswerLimit.{AnswerLimit}
use Rattle.helpers.specs.declared.answer_ranges.AnswerLimit.TheVariants as limit
use Rattle.helpers.specs.declared.answer_ranges.AnswerRange.{AnswerRange}
use Rattle.helpers.specs.Ranges.{answer_range_of, limit_of}
use Rattle.bpf_machine.specs.State.{◌>>=◌, only, may_store, size, reg, with_edits}
use Rattle.bpf_machine.specs.Helper.{Given, nothing_given, with_number, with_text, with_room, asked, answered}
use Rattle.bpf_machine.specs.Typed.{Typed, TypedMemory, number, plain_bytes, cells_at, typed_range, typed_text, typed_room, typed_arguments, typed_help}
use Rattle.bpf_machine.specs.Slots.{slot_values}
use Rattle.abstract_num.specs.Plain as numbers
use Rattle.abstract_num.specs.Plain.{any}
use Rattle.abstract_regs.specs.Kind.{PlainKind, Unset, Num, Ptr}
use Rattle.verifier.specs.declared.fault.Fault.TheVariants.{NotSet, OutOfRegion, ReadOnly, WrongKind, HasPointer}
use Rattle.abstract_regs.specs.declared.content.Content.TheVariants.{Nothing, Pointer}
use Rattle.abstract_regs.specs.Kind.{is_unset, is_num, is_ptr}
use Rattle.abstract_regs.specs.Slots.{stack_range, meets}
use Rattle.verifier.specs.Kind.{is_at_most, range_leaves, range_is_read_only}
use Rattle.abstract_regs.specs.Frame.{PlainFrame, or_unset, kind_at}
use Rattle.abstract_regs.specs.Moves.{value_at, Reached, IsNumber, Overwritten, KindFits, EachFits}
use Rattle.abstract_regs.specs.Laws.{RangesAreKnown}
use Rattle.verifier.specs.Frame.{precision_of, IsMemory, IsWithin, Holds}
use Rattle.verifier.specs.Rules.{range_meets, has_fault, some_fault, takes_of, taken_fault, call_fault, room_in, room_of_takes, room_of, writes_object}
use Rattle.verifier.specs.Answers.{greatest_of, longest, text_in, most_of, ranged_answer, helper_answer, answer_of}
use Rattle.verifier.proofs.Holding.{not_false, HoldsValue, Read, read, value_is, num_is_set, ptr_is_set, numbered}
use Rattle.verifier.proofs.Numbers.{answer_small, errno_is_small, answers_hold}
use Rattle.verifier.proofs.Memory.{Laws, SlotLaws, Wrote, length-values, placed, reads_bytes, room_written, no_room_written}
use Rattle.verifier.proofs.Allowed.{when_right, takes_known}
use Rattle.verifier.proofs.Passed.{neither}

pub one_more : {A B : Type 0} (o : Option A) (x : A) (g : A → Option B) (y : B) → o ≡ Some x → g x ≡ Some y → (o >>= g) ≡ Some y
one_more o x g y e h = ap (λ o. o >>= g) e ∙ h

-- a register that has a number
record Counted (f : PlainFrame) (s : Typed) (k : ℕ) : Type 0 where
  n : ℕ
  value : Value
  there : reg s k ≡ Some value
  is : number value ≡ Some n
  same : value ≡ values.Num n
  holds : HoldsValue (kind_at f k) value
  small : n < 2 ^ 64

counted : {known : ℕ} (f : PlainFrame) (s : Typed) (k : ℕ) → Holds known f s → is_num (kind_at f k) ≡ true → Counted f s k
counted f s k h b =
    let v = read f s k h (num_is_set _ b) in
    let n = numbered (kind_at f k) v.value v.holds b in
    record { n = n.0; value = v.value; there = v.there; is = n.1; same = n.3; holds = v.holds; small = n.2 }

at_most_is_num : (n : ℕ) (x : PlainKind) → is_at_most n x ≡ true → is_num x ≡ true
at_most_is_num n Unset h = h
at_most_is_num n (Num k) h = refl
at_most_is_num n (Ptr r k) h = h

below_cap : (x : PlainKind) (v : Value) (n cap : ℕ) → HoldsValue x v → number v ≡ Some n → is_at_most cap x ≡ true → nat_le n cap ≡ true
below_cap Unset v n cap h e b = absurd (false≢true b)
below_cap (Ptr r k) v n cap h e b = absurd (false≢true b)
below_cap (Num k) (values.Num m) n cap h e b =
    let same = same_Some m n e in
    let le = leb-true k.high cap b in
    le-leb n cap (omega (arith, le, h.below, same))
below_cap (Num k) (values.Ptr r at) n cap h e b = absurd h

some_bytes : (n : ℕ) → (n == 0) ≡ false → 1 ≤ n
some_bytes n e = let no = eqb-false n 0 e in omega (arith, no)

there_is : (p : Region × ℕ) (r : Region) (at : ℕ) → p.0 ≡ r → p.1 ≡ at → p ≡ placed r at
there_is p r at e f = ap (λ (q : Region). placed q p.1) e ∙ ap (λ (k : ℕ). placed r k) f

-- the place of a range of n bytes from a place on: none, where there are none
abbrev HasRoom : Caps → Region → ℕ → ℕ → Option (Region × ℕ) → Type 0
HasRoom caps r at n None = Unit {0}
HasRoom caps r at n (Some p) = (p.0 ≡ r) × (p.1 ≡ at) × (1 ≤ n) × (at + n ≤ size caps r)

-- a range that was not refused
record Ranged (caps : Caps) (writes : Bool) (v : Value) (n : ℕ) : Type 0 where
  region : Region
  at : ℕ
  points : v ≡ values.Ptr region at
  place : Option (Region × ℕ)
  is : typed_range caps writes v n ≡ Some place
  room : HasRoom caps region at n place

target_of : (caps : Caps) (n : ℕ) (none writes : Bool) (r : Region) (at : ℕ) (p : Region × ℕ) → (n == 0) ≡ none → p.0 ≡ r → p.1 ≡ at → at + n ≤ size caps r → (writes ≡ true → may_store p.0 ≡ true) → (t : Option (Region × ℕ)) × ((if none then Some None else if writes then only (may_store p.0) (Some (Some p)) else Some (Some p)) ≡ Some t) × HasRoom caps r at n t
target_of caps n true writes r at p e same place fits h = (None, refl, tt)
target_of caps n false true r at p e same place fits h =
    (Some p, cond-true (may_store p.0) (Some (Some p)) None (h refl), (same, place, some_bytes n e, fits))
target_of caps n false false r at p e same place fits h = (Some p, refl, (same, place, some_bytes n e, fits))

-- a range that was not refused is one
ranged : (caps : Caps) (writes : Bool) (x y : PlainKind) (v w : Value) (n : ℕ) → HoldsValue x v → HoldsValue y w → number w ≡ Some n → is_ptr x ≡ true → is_num y ≡ true → range_leaves caps x y ≡ false → (writes ≡ true → range_is_read_only x y ≡ false) → Ranged caps writes v n
ranged caps writes Unset y v w n h i e a b c d = absurd (false≢true a)
ranged caps writes (Num k) y v w n h i e a b c d = absurd (false≢true a)
ranged caps writes (Ptr r k) Unset v w n h i e a b c d = absurd (false≢true b)
ranged caps writes (Ptr r k) (Ptr q l) v w n h i e a b c d = absurd (false≢true b)
ranged caps writes (Ptr r k) (Num l) (values.Num m) w n h i e a b c d = absurd h
ranged caps writes (Ptr r k) (Num l) (values.Ptr q at) (values.Ptr p o) n h i e a b c d = absurd i
ranged caps writes (Ptr r k) (Num l) (values.Ptr q at) (values.Num m) n h i e a b c d =
    let same = same_Some m n e in
    let place = h.1 in
    let up = place.below in
    let up' = i.below in
    let le = leb-true (k.high + l.high) (size caps r) (not_false _ c) in
    let same_size : size caps r ≡ size caps q = ap (size caps) h.0 in
    let at_small = place.fits in
    let whole : (at + 0) % 2 ^ 64 ≡ at = omega arith in
    let fits : at + n ≤ size caps q = omega arith in
    let fits' : (at + 0) % 2 ^ 64 + n ≤ size caps q = omega arith in
    let found = cond-true (nat_le ((at + 0) % 2 ^ 64 + n) (size caps q)) (Some (q, (at + 0) % 2 ^ 64)) None (le-leb _ _ fits') in
    let t = target_of caps n (n == 0) writes q at (q, (at + 0) % 2 ^ 64) refl refl whole fits (λ t. ap may_store (sym h.0) ∙ not_false _ (d t)) in
    record {
      region = q;
      at = at;
      points = refl;
      place = t.0;
      is = ap (λ p. p >>= λ p. if n == 0 then Some None else if writes then only (may_store p.0) (Some (Some p)) else Some (Some p)) found ∙ t.1;
      room = t.2;
    }

-- a number is at most the greatest length of the range that begins at a register
abbrev IsShort : PlainFrame → Option ℕ → ℕ → Type 0
IsShort f o n = (most : ℕ) → longest f o ≡ Some most → n ≤ most

kind_short : (x : PlainKind) (n most : ℕ) → HoldsValue x (values.Num n) → greatest_of x ≡ Some most → n ≤ most
kind_short Unset n most h e = absurd (none-some most e)
kind_short (Num k) n most h e = omega (arith, h.below, same_Some k.high most e)
kind_short (Ptr r k) n most h e = absurd h

counted_short : (f : PlainFrame) (s : Typed) (k : ℕ) (n : Counted f s k) (most : ℕ) → greatest_of (kind_at f k) ≡ Some most → n.n ≤ most
counted_short f s k n most e = kind_short (kind_at f k) n.n most (subst (HoldsValue (kind_at f k)) n.same n.holds) e

-- where a helper writes: in the range that begins at a register, if there is one
pub record RoomAt (caps : Caps) (s : Typed) (k room : ℕ) (target : Option (Region × ℕ)) : Type 0 where
  region : Region
  at : ℕ
  pointer : value_at s.regs k ≡ Some (values.Ptr region at)
  count : value_at s.regs (k + 1) ≡ Some (values.Num room)
  place : HasRoom caps region at room target

abbrev Targets : Caps → Typed → Option ℕ → ℕ → Option (Region × ℕ) → Type 0
Targets caps s None room target = target ≡ None
Targets caps s (Some k) room target = RoomAt caps s k room target

-- the arguments of a helper that was not refused
record Gets (caps : Caps) (f : PlainFrame) (s : Typed) (arguments : List Argument) (k : ℕ) : Type 0 where
  given : Given
  is : typed_arguments caps s arguments k ≡ Some given
  small : given.room < 2 ^ 64
  targets : Targets caps s (room_in arguments k) given.room given.target
  texts : AllByRecursion AreBytes given.texts
  caller : given.caller ≡ s.caller
  limits : given.limits ≡ s.limits
  room_short : IsShort f (room_in arguments k) given.room
  text_short : IsShort f (text_in arguments k) (length (text (asked given) 0))

-- a text that a helper reads
record Texted (m : TypedMemory) (place : Option (Region × ℕ)) (n : ℕ) : Type 0 where
  text : List ℕ
  is : typed_text m place n ≡ Some text
  small : AreBytes text
  short : length text ≤ n

module _ (laws : SlotLaws) (ranges : RangesAreKnown) (caps : Caps) (known : ℕ) (few : known ≤ 64) (f : PlainFrame) (s : Typed) (h : Holds known f s) where
  number_gets : (more : List Argument) (k : ℕ) → Counted f s k → Gets caps f s more (k + 1) → Gets caps f s (Number ∷ more) k
  number_gets more k n g = record {
    given = with_number n.n g.given;
    is = one_more _ _ _ _ n.there (one_more _ _ _ _ n.is (one_more _ _ _ _ g.is refl));
    small = g.small;
    targets = g.targets;
    texts = g.texts;
    caller = g.caller;
    limits = g.limits;
    room_short = g.room_short;
    text_short = g.text_short;
  }

  length_gets : (more : List Argument) (k : ℕ) (n : Counted f s k) → nat_le n.n caps.out_cap ≡ true → Gets caps f s more (k + 1) → Gets caps f s (OutputLength ∷ more) k
  length_gets more k n le g = record {
    given = with_number n.n g.given;
    is = one_more _ _ _ _ n.there (one_more _ _ _ _ n.is (cond-true _ _ _ le ∙ one_more _ _ _ _ g.is refl));
    small = g.small;
    targets = g.targets;
    texts = g.texts;
    caller = g.caller;
    limits = g.limits;
    room_short = g.room_short;
    text_short = g.text_short;
  }

  long_values : length f.slots ≡ length (slot_values known s.memory.stack)
  long_values = h.long ∙ sym (length-values known s.memory.stack)

  -- bytes that the rules leave to be read
  texted : (r : Region) (at n : ℕ) (place : Option (Region × ℕ)) → HasRoom caps r at n place → (1 ≤ n → (j : ℕ) → j < length (slot_values known s.memory.stack) → Reached r at n j → IsNumber (value_at (slot_values known s.memory.stack) j)) → Texted s.memory place n
  texted r at n None room numbers = record { text = []; is = refl; small = tt; short = omega arith }
  texted r at n (Some p) room numbers =
      let b = reads_bytes laws caps known few s.memory (h.within).memory r at n room.3 (numbers room.2) in
      record {
        text = b.bytes;
        is = ap (λ (q : Region). plain_bytes (cells_at s.memory q p.1 n)) room.0 ∙ ap (λ (k : ℕ). plain_bytes (cells_at s.memory r k n)) room.1 ∙ b.are;
        small = b.small;
        short = b.short;
      }

  readable_gets : (more : List Argument) (k : ℕ) (v : Read f s k) (n : Counted f s (k + 1)) (p : Option (Region × ℕ)) → typed_range caps false v.value n.n ≡ Some p → Texted s.memory p n.n → Gets caps f s more (k + 2) → Gets caps f s (Readable ∷ more) k
  readable_gets more k v n p e t g = record {
    given = with_text t.text g.given;
    is = one_more _ _ _ _ v.there (one_more _ _ _ _ n.there (one_more _ _ _ _ n.is (one_more _ _ _ _ e (one_more _ _ _ _ t.is (one_more _ _ _ _ g.is refl)))));
    small = g.small;
    targets = g.targets;
    texts = (t.small, g.texts);
    caller = g.caller;
    limits = g.limits;
    room_short = g.room_short;
    text_short = λ most e. let le = counted_short f s (k + 1) n most e in omega (arith, t.short, le);
  }

  writable_gets : (more : List Argument) (k : ℕ) (v : Read f s k) (n : Counted f s (k + 1)) (p : Ranged caps true v.value n.n) → Gets caps f s more (k + 2) → Gets caps f s (Writable ∷ more) k
  writable_gets more k v n p g = record {
    given = with_room n.n p.place g.given;
    is = one_more _ _ _ _ v.there (one_more _ _ _ _ n.there (one_more _ _ _ _ n.is (one_more _ _ _ _ p.is (one_more _ _ _ _ g.is refl))));
    small = n.small;
    targets = record {
      region = p.region;
      at = p.at;
      pointer = value_is s k v.value v.there ∙ ap Some p.points;
      count = value_is s (k + 1) n.value n.there ∙ ap Some n.same;
      place = p.room;
    };
    texts = g.texts;
    caller = g.caller;
    limits = g.limits;
    room_short = counted_short f s (k + 1) n;
    text_short = g.text_short;
  }

  -- a pointer and a length whose range may be read, or written
  range_of : (writes : Bool) (k : ℕ) (v : Read f s k) (n : Counted f s (k + 1)) → is_ptr (kind_at f k) ≡ true → is_num (kind_at f (k + 1)) ≡ true → range_leaves caps (kind_at f k) (kind_at f (k + 1)) ≡ false → (writes ≡ true → range_is_read_only (kind_at f k) (kind_at f (k + 1)) ≡ false) → Ranged caps writes v.value n.n
  range_of writes k v n pointer count stays writable = ranged caps writes (kind_at f k) (kind_at f (k + 1)) v.value n.value n.n v.holds n.holds n.is pointer count stays writable

  gets : (arguments : List Argument) (k : ℕ) → some_fault caps f NotSet arguments k ≡ false → some_fault caps f OutOfRegion arguments k ≡ false → some_fault caps f ReadOnly arguments k ≡ false → some_fault caps f WrongKind arguments k ≡ false → some_fault caps f HasPointer arguments k ≡ false → Gets caps f s arguments k
  gets [] k u a b c d = record {
    given = nothing_given s.limits s.caller;
    is = refl;
    small = omega arith;
    targets = refl;
    texts = tt;
    caller = refl;
    limits = refl;
    room_short = λ most e. absurd (none-some most e);
    text_short = λ most e. absurd (none-some most e);
  }
  gets (Number ∷ more) k u a b c d =
      let u1 = neither (has_fault caps f NotSet Number k) (some_fault caps f NotSet more (k + 1)) u in
      let two = neither (has_fault caps f WrongKind Number k) (some_fault caps f WrongKind more (k + 1)) c in
      number_gets more k (counted f s k h (not_false _ two.0)) (gets more (k + 1) u1.1 a b two.1 d)
  gets (OutputLength ∷ more) k u a b c d =
      let u1 = neither (has_fault caps f NotSet OutputLength k) (some_fault caps f NotSet more (k + 1)) u in
      let two = neither (has_fault caps f WrongKind OutputLength k) (some_fault caps f WrongKind more (k + 1)) c in
      let most = not_false _ two.0 in
      let n = counted f s k h (at_most_is_num caps.out_cap (kind_at f k) most) in
      length_gets more k n (below_cap (kind_at f k) n.value n.n caps.out_cap n.holds n.is most) (gets more (k + 1) u1.1 a b two.1 d)
  gets (Readable ∷ more) k u a b c d =
      let x = kind_at f k in
      let y = kind_at f (k + 1) in
      let u1 = neither (has_fault caps f NotSet Readable k) (some_fault caps f NotSet more (k + 2)) u in
      let u2 = neither (is_unset x || is_unset y) (range_meets Nothing caps f x y) u1.0 in
      let a1 = neither (has_fault caps f OutOfRegion Readable k) (some_fault caps f OutOfRegion more (k + 2)) a in
      let c1 = neither (has_fault caps f WrongKind Readable k) (some_fault caps f WrongKind more (k + 2)) c in
      let c2 = neither (not (is_ptr x)) (not (is_num y)) c1.0 in
      let d1 = neither (has_fault caps f HasPointer Readable k) (some_fault caps f HasPointer more (k + 2)) d in
      let pointer = not_false _ c2.0 in
      let count = not_false _ c2.1 in
      let v = read f s k h (ptr_is_set x pointer) in
      let n = counted f s (k + 1) h count in
      let p = range_of false k v n pointer count a1.0 (λ e. absurd (false≢true e)) in
      let inside : not (range_leaves caps x y) ≡ true = ap not a1.0 in
      let unset = when_right (meets Nothing (stack_range x y) 0 f.slots) (not (range_leaves caps x y)) u2.1 inside in
      let parts = when_right (meets Pointer (stack_range x y) 0 f.slots) (not (range_leaves caps x y)) d1.0 inside in
      let holds : HoldsValue x (values.Ptr p.region p.at) = subst (HoldsValue x) p.points v.holds in
      let long : HoldsValue y (values.Num n.n) = subst (HoldsValue y) n.same n.holds in
      let t = texted p.region p.at n.n p.place p.room (λ one j lt reached. ranges f x y unset parts (slot_values known s.memory.stack) long_values h.slots pointer count p.region p.at n.n j holds long lt one reached) in
      readable_gets more k v n p.place p.is t (gets more (k + 2) u1.1 a1.1 b c1.1 d1.1)
  gets (Writable ∷ more) k u a b c d =
      let u1 = neither (has_fault caps f NotSet Writable k) (some_fault caps f NotSet more (k + 2)) u in
      let a1 = neither (has_fault caps f OutOfRegion Writable k) (some_fault caps f OutOfRegion more (k + 2)) a in
      let b1 = neither (has_fault caps f ReadOnly Writable k) (some_fault caps f ReadOnly more (k + 2)) b in
      let c1 = neither (has_fault caps f WrongKind Writable k) (some_fault caps f WrongKind more (k + 2)) c in
      let c2 = neither (not (is_ptr (kind_at f k))) (not (is_num (kind_at f (k + 1)))) c1.0 in
      let pointer = not_false _ c2.0 in
      let count = not_false _ c2.1 in
      let v = read f s k h (ptr_is_set (kind_at f k) pointer) in
      let n = counted f s (k + 1) h count in
      let p = range_of true k v n pointer count a1.0 (λ e. b1.0) in
      writable_gets more k v n p (gets more (k + 2) u1.1 a1.1 b1.1 c1.1 d)

  -- what a helper writes into its range
  room_at : (r : Region) (at room : ℕ) (target : Option (Region × ℕ)) (bytes : List ℕ) → HasRoom caps r at room target → length bytes ≤ room → AreBytes bytes → Wrote known s.memory r at room (typed_room s.memory target bytes)
  room_at r at room None bytes place short b = no_room_written laws caps known few s.memory (h.within).memory r at room bytes
  room_at r at room (Some p) bytes place short b =
      subst (λ (q : Region × ℕ). Wrote known s.memory r at room (typed_room s.memory (Some q) bytes)) (sym (there_is p r at place.0 place.1))
      (room_written laws caps known few s.memory (h.within).memory (r, at) room bytes place.2 place.3 short b)

  overwritten : (o : Option ℕ) (room : ℕ) (target : Option (Region × ℕ)) (bytes : List ℕ) → Targets caps s o room target → length bytes ≤ room → AreBytes bytes → IsMemory known (typed_room s.memory target bytes) × Overwritten o s.regs (slot_values known s.memory.stack) (slot_values known (typed_room s.memory target bytes).stack)
  overwritten None room target bytes none short b =
      subst (λ (t : Option (Region × ℕ)). IsMemory known (typed_room s.memory t bytes) × Overwritten None s.regs (slot_values known s.memory.stack) (slot_values known (typed_room s.memory t bytes).stack)) (sym none)
      ((h.within).memory, refl)
  overwritten (Some k) room target bytes t short b =
      let w = room_at t.region t.at room target bytes t.place short b in
      (w.memory, (t.region, t.at, room, t.pointer, t.count, w.overwrites))

there : (o : Option Takes) → not (is_some o) ≡ false → (takes : Takes) × (o ≡ Some takes)
there None h = absurd (false≢true (sym h))
there (Some takes) h = (takes, refl)

may_write : (w c : Bool) → (w && not c) ≡ false → (not w || c) ≡ true
may_write true true h = refl
may_write true false h = absurd (false≢true (sym h))
may_write false c h = refl

-- a call that was made
pub record Made (rules : RuleSet) (known : ℕ) (caps : Caps) (f : PlainFrame) (helper : ℕ) (s : Typed) : Type 0 where
  pub to : Typed
  pub made : typed_help caps helper s ≡ Some to
  pub answer : ℕ
  pub holds : numbers.Holds (answer_of rules f (Call helper)) answer
  pub regs : to.regs ≡ answered s.regs (values.Num answer)
  pub slots : Overwritten (room_of (Call helper)) s.regs (slot_values known s.memory.stack) (slot_values known to.memory.stack)
  pub within : IsWithin known to

-- an answer is within a limit, where what is given is no longer than its registers may say
within_limit : (f : PlainFrame) (arguments : List Argument) (g : Given) → IsShort f (room_in arguments 1) g.room → IsShort f (text_in arguments 1) (length (text (asked g) 0)) → (l : AnswerLimit) (most : ℕ) → most_of f arguments l ≡ Some most → limit_of (asked g) l ≤ most
within_limit f arguments g room texts (limit.Number n) most e = omega (arith, same_Some n most e)
within_limit f arguments g room texts limit.Room most e = room most e
within_limit f arguments g room texts (limit.RoomOrNumber n) most e = at_most_both (longest f (room_in arguments 1)) room e
  where
    at_most_both : (o : Option ℕ) → ((k : ℕ) → o ≡ Some k → g.room ≤ k) → option_map (λ k. min k n) o ≡ Some most → min g.room n ≤ most
    at_most_both None h e = absurd (none-some most e)
    at_most_both (Some k) h e = let le = h k refl in omega (arith, le, same_Some (min k n) most e)
within_limit f arguments g room texts limit.Text most e = texts most e

module _ (laws : Laws) (rules : RuleSet) (caps : Caps) (known : ℕ) (few : known ≤ 64) (helper : ℕ) (f : PlainFrame) (s : Typed) (h : Holds known f s) where
  -- what the helper does
  abbrev done : Given → Effect
  done g = effect helper s.object (asked g)

  answer_holds : (takes : Takes) (g : Gets caps f s takes.arguments 1) → signature_of helper ≡ Some takes → numbers.Holds (answer_of rules f (Call helper)) (done g.given).answer
  answer_holds takes g sig = by_set rules
    where
      client : g.given.caller < 2 ^ 32
      client = subst (λ n. n < 2 ^ 32) (sym g.caller) (h.within).client

      allowed : IsLimits g.given.limits
      allowed = subst IsLimits (sym g.limits) (h.within).limits

      small : (done g.given).answer < 2 ^ 64
      small = answer_small laws.answers helper s.object (asked g.given) allowed (h.within).object g.small client

      any_holds : numbers.Holds any (done g.given).answer
      any_holds = laws.any (done g.given).answer small

      in_range : (o : Option AnswerRange) → answer_range_of helper ≡ o → numbers.Holds (ranged_answer (precision_of Three) f (Some takes) o) (done g.given).answer
      in_range None e = any_holds
      in_range (Some r) e =
          let range = laws.answers helper r s.object (asked g.given) e allowed (h.within).object g.small in
          let errno = errno_is_small helper r e in
          answers_hold laws.any laws.tighten (precision_of Three) r.errno (most_of f takes.arguments r.most) (done g.given).answer errno small
          (λ most is.
          let le = within_limit f takes.arguments g.given g.room_short g.text_short r.most most is in
          ⊎_elim (λ (below : (done g.given).answer ≤ limit_of (asked g.given) r.most). inl (omega (arith, below, le))) (λ (negative : 2 ^ 64 - r.errno ≤ (done g.given).answer). inr negative) range.side)

      by_set : (rules : RuleSet) → numbers.Holds (helper_answer rules f helper) (done g.given).answer
      by_set One = any_holds
      by_set Two = any_holds
      by_set Three =
          subst (λ (o : Option Takes). numbers.Holds (ranged_answer (precision_of Three) f o (answer_range_of helper)) (done g.given).answer) (sym sig) (in_range (answer_range_of helper) refl)

  -- a call that no rule refuses is made
  pub call_made : not (is_some (takes_of rules helper)) ≡ false → call_fault rules caps f NotSet helper ≡ false → call_fault rules caps f OutOfRegion helper ≡ false → call_fault rules caps f ReadOnly helper ≡ false → call_fault rules caps f WrongKind helper ≡ false → call_fault rules caps f HasPointer helper ≡ false → (writes_object (takes_of rules helper) && not caps.writes) ≡ false → Made rules known caps f helper s
  call_made is_known u a b c d w =
      let known_sig = there (takes_of rules helper) is_known in
      let takes = known_sig.0 in
      let sig : signature_of helper ≡ Some takes = sym (takes_known rules helper is_known) ∙ known_sig.1 in
      let u' = sym (ap (taken_fault caps f NotSet) known_sig.1) ∙ u in
      let a' = sym (ap (taken_fault caps f OutOfRegion) known_sig.1) ∙ a in
      let b' = sym (ap (taken_fault caps f ReadOnly) known_sig.1) ∙ b in
      let c' = sym (ap (taken_fault caps f WrongKind) known_sig.1) ∙ c in
      let d' = sym (ap (taken_fault caps f HasPointer) known_sig.1) ∙ d in
      let w' = sym (ap (λ o. writes_object o && not caps.writes) known_sig.1) ∙ w in
      let g = gets laws.slots laws.ranges caps known few f s h takes.arguments 1 u' a' b' c' d' in
      let e = done g.given in
      let l = laws.effects helper s.object (asked g.given) (subst IsLimits (sym g.limits) (h.within).limits) (h.within).object g.texts in
      let t : Typed = record { slot = s.slot; regs = answered s.regs (values.Num e.answer); memory = typed_room s.memory g.given.target e.bytes; object = e.object; out_len = unwrap_or e.out_len s.out_len; caller = s.caller; limits = s.limits; edits = with_edits (edits helper s.object (asked g.given)) s.edits } in
      let left = overwritten laws.slots laws.ranges caps known few f s h (room_in takes.arguments 1) g.given.room g.given.target e.bytes g.targets l.short l.bytes in
      record {
        to = t;
        made = one_more (signature_of helper) takes _ t sig (cond-true _ _ _ (may_write takes.writes caps.writes w') ∙ one_more _ _ _ _ g.is refl);
        answer = e.answer;
        holds = answer_holds takes g sig;
        regs = refl;
        slots = subst (λ (o : Option Takes). Overwritten (room_of_takes o) s.regs (slot_values known s.memory.stack) (slot_values known t.memory.stack)) (sym sig) left.1;
        within = record { memory = left.0; object = l.object; client = (h.within).client; limits = (h.within).limits };
      }

-- the numbers of a register's kind fit
pub fits_in : (xs : List PlainKind) (r : ℕ) → EachFits xs → KindFits (or_unset (slice_get xs r))
fits_in [] r h = tt
fits_in (x ∷ xs) zero h = h.0
fits_in (x ∷ xs) (suc r) h = fits_in xs r h.1

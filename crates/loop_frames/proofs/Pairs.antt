-- An instruction with a pair of pointers makes its step, after which a frame along one of its edges is true of the state.
use Rattle.std.proofs.Common.{◌≡◌, ℕ, ℤ, ◌+◌, ◌^◌, ◌<◌, ◌≤◌, List, ◌++◌, length, Option, Some, None, Bool, true, false, cond, refl, inl, inr, ap, ◌∙◌, sym, subst, arith, IsSomeAnd, ⊎_elim}
use Rattle.std.specs.Prelude.{slice_get, slice_set, ◌==◌, ◌&&◌, nat_le, nat_lt}
use Rattle.std.specs.Option.{option_map}
use Rattle.std.proofs.lemmas.Bool.{and_parts, and_from, or_cases, or_left, or_right, eqb-true, eqb-false, leb-true, le-leb, lt-ltb, cond-true}
use Rattle.std.proofs.lemmas.Option.{none-some, same_Some}
use Rattle.bpf_decode.specs.declared.insn.Operand.TheVariants.{Register}
use Rattle.bpf_decode.specs.declared.insn.Insn.TheVariants.{Alu, Branch}
use Rattle.bpf_decode.specs.declared.region.Region.{Region}
use Rattle.bpf_decode.specs.declared.region.Region.TheVariants.{Input, Output, Stack}
use Rattle.bpf_decode.specs.declared.value.Value.{Value}
use Rattle.bpf_decode.specs.declared.value.Value.TheVariants as values
use Rattle.bpf_decode.specs.declared.operation.OpWidth.TheVariants.{Bits64}
use Rattle.bpf_decode.specs.declared.operation.Arithmetic.TheVariants.{Sub}
use Rattle.bpf_decode.specs.declared.operation.Comparison.{Comparison}
use Rattle.bpf_decode.specs.Arithmetic.{alu_value, is_taken}
use Rattle.bpf_decode.specs.Jump.{branch_to}
use Rattle.bpf_decode.specs.Values.{extended}
use Rattle.abstract_num.specs.declared.precision.Precision.{Precision}
use Rattle.abstract_num.specs.Plain.{Plain, Holds}
use Rattle.abstract_num.specs.Tighten.{tighten}
use Rattle.abstract_num.specs.Edges.{along}
use Rattle.abstract_num.specs.Keeping.{HeldIn, HeldInBoth, ArithmeticKeeps, TightenKeeps, EdgeKeeps}
use Rattle.abstract_regs.specs.Kind.{PlainKind, Unset, Num, Ptr, HoldsKind, same_region, along_kinds, both_nums, same_num}
use Rattle.abstract_regs.specs.Frame.{PlainFrame, kind_at, with_kind, with_links, HoldsEach}
use Rattle.abstract_regs.specs.Link.{no_link}
use Rattle.abstract_regs.specs.Flow.{target, edge_to, computed, with_both}
use Rattle.abstract_regs.specs.Moves.{flat_option, value_at, with_value, HoldsLinks, Reaches, KindFits, EachFits}
use Rattle.abstract_regs.proofs.Joins.{same_means}
use Rattle.abstract_regs.proofs.Keeping.{fits_at}
use Rattle.abstract_regs.proofs.LinkTruth.{set_register, long_values}
use Rattle.bpf_machine.specs.declared.caps.Caps.{Caps}
use Rattle.bpf_machine.specs.State.{◌>>=◌, only, size, reg, set_reg, go, after}
use Rattle.bpf_machine.specs.Typed.{Typed}
use Rattle.loop_machine.specs.Typed.{places, places_at, is_equality, is_order, are_comparable}
use Rattle.loop_frames.specs.Pairs.{PointerPair, pointers, may_compare, comparable, as_pointer, as_pointers, pair_edge}
use Rattle.loop_frames.specs.Laws.{IsTrueOf, PairSteps, PairsStep}
use Rattle.loop_frames.proofs.Registers.{held, kept, written}

-- ---- the pair, and the values

record ArePointers (x y : PlainKind) (pair : PointerPair) : Type 0 where
  first : x ≡ Ptr pair.region pair.first
  second : y ≡ Ptr pair.region pair.second

chosen : {A : Type 0} (b : Bool) (x y : A) → cond b (Some x) None ≡ Some y → (b ≡ true) × (x ≡ y)
chosen true x y e = (refl, same_Some x y e)
chosen false x y e = absurd (none-some y e)

are_pointers : (x y : PlainKind) (pair : PointerPair) → pointers x y ≡ Some pair → ArePointers x y pair
are_pointers Unset y pair e = absurd (none-some pair e)
are_pointers (Num k) y pair e = absurd (none-some pair e)
are_pointers (Ptr r k) Unset pair e = absurd (none-some pair e)
are_pointers (Ptr r k) (Num l) pair e = absurd (none-some pair e)
are_pointers (Ptr r k) (Ptr q l) pair e =
    let of : PointerPair = record { region = r; first = k; second = l } in
    let same = chosen (same_region r q) of pair e in
    record {
      first = ap (λ (p : PointerPair). Ptr p.region p.first) same.1;
      second = ap (λ (z : Region). Ptr z l) (sym (same_means r q same.0)) ∙ ap (λ (p : PointerPair). Ptr p.region p.second) same.1;
    }

-- a pointer's value
record IsPlace (r : Region) (k : Plain) (c : Option Value) : Type 0 where
  at : ℕ
  is : c ≡ Some (values.Ptr r at)
  holds : Holds k at

is_place : (r : Region) (k : Plain) (c : Option Value) → HoldsKind (Ptr r k) c → IsPlace r k c
is_place r k None h = absurd h
is_place r k (Some (values.Num n)) h = absurd h
is_place r k (Some (values.Ptr q at)) h = record { at = at; is = ap (λ (z : Region). Some (values.Ptr z at)) (sym h.0); holds = h.1 }

place_at : (f : PlainFrame) (cs : List (Option Value)) (d : ℕ) (r : Region) (k : Plain) → kind_at f d ≡ Ptr r k → HoldsEach f.registers cs → IsPlace r k (value_at cs d)
place_at f cs d r k e h = is_place r k (value_at cs d) (subst (λ x. HoldsKind x (value_at cs d)) e (held f.registers cs d h))

flat : (o : Option (Option Value)) → (o >>= λ c. c) ≡ flat_option o
flat None = refl
flat (Some c) = refl

abbrev AreBelow : ℕ → ℕ → Bool
AreBelow m n = nat_lt m (2 ^ 64) && nat_lt n (2 ^ 64)

are_below : (m n : ℕ) → m < 2 ^ 64 → n < 2 ^ 64 → AreBelow m n ≡ true
are_below m n a b = and_from (nat_lt m (2 ^ 64)) (nat_lt n (2 ^ 64)) (lt-ltb m (2 ^ 64) a) (lt-ltb n (2 ^ 64) b)

abbrev placed : Region → ℕ → ℕ → Option (Region × ℕ × ℕ)
placed r m n = Some (r, m, n)

places_same : (r : Region) (m n : ℕ) → m < 2 ^ 64 → n < 2 ^ 64 → places (values.Ptr r m) (values.Ptr r n) ≡ placed r m n
places_same Input m n a b = cond-true (AreBelow m n) (placed Input m n) None (are_below m n a b)
places_same Output m n a b = cond-true (AreBelow m n) (placed Output m n) None (are_below m n a b)
places_same Stack m n a b = cond-true (AreBelow m n) (placed Stack m n) None (are_below m n a b)

both_places : (a b : Option Value) (r : Region) (m n : ℕ) → m < 2 ^ 64 → n < 2 ^ 64 → a ≡ Some (values.Ptr r m) → b ≡ Some (values.Ptr r n) → (a >>= λ x. b >>= λ y. places x y) ≡ placed r m n
both_places a b r m n lm ln e h =
    ap (λ (o : Option Value). o >>= λ x. b >>= λ y. places x y) e ∙ ap (λ (o : Option Value). o >>= λ y. places (values.Ptr r m) y) h ∙ places_same r m n lm ln

-- both registers of a pair have places of one region
record Pair (f : PlainFrame) (s : Typed) (dst src : ℕ) (pair : PointerPair) : Type 0 where
  kinds : ArePointers (kind_at f dst) (kind_at f src) pair
  first : IsPlace pair.region pair.first (value_at s.regs dst)
  second : IsPlace pair.region pair.second (value_at s.regs src)

the_pair : (f : PlainFrame) (s : Typed) (dst src : ℕ) (pair : PointerPair) → HoldsEach f.registers s.regs → pointers (kind_at f dst) (kind_at f src) ≡ Some pair → Pair f s dst src pair
the_pair f s dst src pair h e =
    let kinds = are_pointers (kind_at f dst) (kind_at f src) pair e in
    record {
      kinds = kinds;
      first = place_at f s.regs dst pair.region pair.first kinds.first h;
      second = place_at f s.regs src pair.region pair.second kinds.second h;
    }

pair_places : (f : PlainFrame) (s : Typed) (dst src : ℕ) (pair : PointerPair) (p : Pair f s dst src pair) → places_at s dst src ≡ Some (pair.region, p.first.at, p.second.at)
pair_places f s dst src pair p =
    both_places (reg s dst) (reg s src) pair.region p.first.at p.second.at (p.first.holds).fits (p.second.holds).fits (flat (slice_get s.regs dst) ∙ p.first.is) (flat (slice_get s.regs src) ∙ p.second.is)

fits_pointer : (r : Region) (k : Plain) (x : PlainKind) → x ≡ Ptr r k → KindFits x → KindFits (Ptr r k)
fits_pointer r k x e h = subst KindFits e h

-- ---- the difference

sub_reaches : (o : Option Plain) (q : ℕ) (f : PlainFrame) (dst : ℕ) (cs vs : List (Option Value)) (v : ℕ) → HeldIn o v → HoldsEach f.registers cs → HoldsEach f.slots vs → HoldsLinks f (with_value cs dst (values.Num v)) vs
    → Reaches (computed q f dst (option_map Num o)) q (with_value cs dst (values.Num v)) vs
sub_reaches None q f dst cs vs v held h s l = absurd held
sub_reaches (Some k) q f dst cs vs v held h s l =
    record { frame = with_kind f dst (Num k); there = inl (refl, refl); holds = written f.registers cs dst (Num k) (values.Num v) held h; slots = s; links = l }

no_links : (f : PlainFrame) (dst : ℕ) (cs vs : List (Option Value)) (v : Value) → dst ≤ 10 → dst < length cs → HoldsLinks f cs vs → HoldsLinks (with_links f (slice_set f.links dst no_link)) (with_value cs dst v) vs
no_links f dst cs vs v le lt h = let numbers = h.0 in (numbers, set_register numbers f.links cs vs dst no_link v h.1 le lt tt)

module _ (arithmetic : ArithmeticKeeps) (tightens : TightenKeeps) (edges : EdgeKeeps) (precision : Precision) (caps : Caps) (f : PlainFrame) (s : Typed) (vs : List (Option Value)) (pair : PointerPair)
    (fits : EachFits f.registers) (eleven : length f.registers ≡ 11) (h : IsTrueOf f s.regs vs) where
  subtracts : (dst src : ℕ) → dst ≤ 10 → (dst == 10) ≡ false → pointers (kind_at f dst) (kind_at f src) ≡ Some pair → PairSteps precision caps f (Alu Bits64 Sub dst (Register src)) s vs pair
  subtracts dst src le ne e =
      let p = the_pair f s dst src pair h.registers e in
      let v = alu_value Bits64 Sub p.first.at p.second.at in
      let few : dst < 10 = omega (arith, le, eqb-false dst 10 ne) in
      let long : dst < length s.regs = omega (arith, long_values f.registers s.regs h.registers, eleven, le) in
      let k = fits_pointer pair.region pair.first (kind_at f dst) p.kinds.first (fits_at f.registers dst fits) in
      let l = fits_pointer pair.region pair.second (kind_at f src) p.kinds.second (fits_at f.registers src fits) in
      record {
        to = record s { slot = s.slot + 1; regs = with_value s.regs dst (values.Num v) };
        act = ap (λ (o : Option (Region × ℕ × ℕ)). o >>= λ p. after s (set_reg s dst (values.Num (alu_value Bits64 Sub p.1 p.2)))) (pair_places f s dst src pair p)
            ∙ ap (after s) (cond-true (nat_lt dst 10) (Some (record s { regs = slice_set s.regs dst (Some (values.Num v)) })) None (lt-ltb dst 10 few));
        rest = refl;
        reaches = sub_reaches _ (s.slot + 1) (with_links f (slice_set f.links dst no_link)) dst s.regs vs v (arithmetic precision Bits64 Sub pair.first pair.second k l p.first.at p.second.at p.first.holds p.second.holds)
            h.registers h.slots (no_links f dst s.regs vs (values.Num v) le long h.links);
      }

  -- ---- the comparison

  within : (c : Comparison) (m n : ℕ) → may_compare caps c pair ≡ true → m ≤ pair.first.high → n ≤ pair.second.high → are_comparable caps c (pair.region, m, n) ≡ true
  within c m n e a b =
      let room = size caps pair.region in
      let after_all = is_order c && (nat_le m room && nat_le n room) in
      ⊎_elim (λ (same : is_equality c ≡ true). or_left (is_equality c) after_all same)
      (λ (order : (is_order c && (nat_le pair.first.high room && nat_le pair.second.high room)) ≡ true).
      let parts = and_parts (is_order c) (nat_le pair.first.high room && nat_le pair.second.high room) order in
      let ends = and_parts (nat_le pair.first.high room) (nat_le pair.second.high room) parts.1 in
      let low = leb-true pair.first.high room ends.0 in
      let high = leb-true pair.second.high room ends.1 in
      or_right (is_equality c) after_all
      (and_from (is_order c) (nat_le m room && nat_le n room) parts.0 (and_from (nat_le m room) (nat_le n room) (le-leb m room (omega (arith, a, low))) (le-leb n room (omega (arith, b, high))))))
      (or_cases (is_equality c) (is_order c && (nat_le pair.first.high room && nat_le pair.second.high room)) e)

  pointer_held : (r : Region) (x : PlainKind) (m : ℕ) → HoldsKind x (Some (values.Num m)) → HoldsKind (as_pointer r x) (Some (values.Ptr r m))
  pointer_held r Unset m k = tt
  pointer_held r (Num l) m k = (refl, k)
  pointer_held r (Ptr q l) m k = absurd k

  abbrev LeftBoth : Option (PlainKind × PlainKind) → ℕ → ℕ → Type 0
  LeftBoth o m n = IsSomeAnd o (λ t. HoldsKind t.0 (Some (values.Num m)) × HoldsKind t.1 (Some (values.Num n)))

  left_twice : (o : Option Plain) (m n : ℕ) → m ≡ n → HeldIn o m → LeftBoth (option_map same_num o) m n
  left_twice None m n e k = absurd k
  left_twice (Some l) m n e k = (k, subst (Holds l) e k)

  left_both : (o : Option (Plain × Plain)) (m n : ℕ) → HeldInBoth o m n → LeftBoth (option_map both_nums o) m n
  left_both None m n k = absurd k
  left_both (Some t) m n k = k

  along_left : (c : Comparison) (taken same : Bool) (k l : Plain) (m n : ℕ) → (same ≡ true → m ≡ n) → Holds k m → Holds l n → is_taken Bits64 c m n ≡ taken → LeftBoth (along_kinds precision Bits64 c taken same (Num k) (Num l)) m n
  along_left c taken true k l m n e a b t = left_twice (tighten precision k) m n (e refl) (tightens precision k m a)
  along_left c taken false k l m n e a b t = left_both (along precision Bits64 c taken k l) m n (edges precision Bits64 c taken k l m n a b t)

  abbrev Left : Option PlainFrame → Type 0
  Left o = IsSomeAnd o (λ g. IsTrueOf g s.regs vs)

  with_pointers : (dst src : ℕ) (r : Region) (o : Option (PlainKind × PlainKind)) (m n : ℕ) → value_at s.regs dst ≡ Some (values.Ptr r m) → value_at s.regs src ≡ Some (values.Ptr r n) → LeftBoth o m n → Left (option_map (λ t. with_both f dst (Register src) (as_pointers r t)) o)
  with_pointers dst src r None m n a b k = absurd k
  with_pointers dst src r (Some t) m n a b k =
      let x = as_pointer r t.0 in
      let y = as_pointer r t.1 in
      record {
        registers = kept (slice_set f.registers dst x) s.regs src y (subst (HoldsKind y) (sym b) (pointer_held r t.1 n k.1))
            (kept f.registers s.regs dst x (subst (HoldsKind x) (sym a) (pointer_held r t.0 m k.0)) h.registers);
        slots = h.slots;
        links = h.links;
      }

  same_place : (r : Region) (m n : ℕ) → Some (values.Ptr r m) ≡ Some (values.Ptr r n) → m ≡ n
  same_place r m n e = cc

  edge_left : (c : Comparison) (taken : Bool) (dst src : ℕ) (p : Pair f s dst src pair) → is_taken Bits64 c p.first.at p.second.at ≡ taken → Left (pair_edge precision c taken dst src f pair)
  edge_left c taken dst src p t =
      with_pointers dst src pair.region _ p.first.at p.second.at p.first.is p.second.is
      (along_left c taken (dst == src) pair.first pair.second p.first.at p.second.at
      (λ same. same_place pair.region p.first.at p.second.at (sym p.first.is ∙ ap (value_at s.regs) (eqb-true dst src same) ∙ p.second.is)) p.first.holds p.second.holds t)

  reach_first : (a b : Option PlainFrame) (t q : ℕ) → Left a → Reaches (edge_to t a ++ edge_to q b) t s.regs vs
  reach_first None b t q l = absurd l
  reach_first (Some g) b t q l = record { frame = g; there = inl (refl, refl); holds = l.registers; slots = l.slots; links = l.links }

  reach_second : (a b : Option PlainFrame) (t q : ℕ) → Left b → Reaches (edge_to t a ++ edge_to q b) q s.regs vs
  reach_second a None t q l = absurd l
  reach_second None (Some g) t q l = record { frame = g; there = inl (refl, refl); holds = l.registers; slots = l.slots; links = l.links }
  reach_second (Some e) (Some g) t q l = record { frame = g; there = inr (inl (refl, refl)); holds = l.registers; slots = l.slots; links = l.links }

  reach : (b : Bool) (x y : Option PlainFrame) (offset : ℤ) → (b ≡ true → Left x) → (b ≡ false → Left y) → Reaches (edge_to (target s.slot offset) x ++ edge_to (s.slot + 1) y) (branch_to b s.slot (extended offset)) s.regs vs
  reach true x y offset a b = reach_first x y (target s.slot offset) (s.slot + 1) (a refl)
  reach false x y offset a b = reach_second x y (target s.slot offset) (s.slot + 1) (b refl)

  the_comparable : (c : Comparison) (o : Option PointerPair) → comparable caps c o ≡ Some pair → (o ≡ Some pair) × (may_compare caps c pair ≡ true)
  the_comparable c None e = absurd (none-some pair e)
  the_comparable c (Some q) e =
      let same = chosen (may_compare caps c q) q pair e in
      (ap Some same.1, subst (λ p. may_compare caps c p ≡ true) same.1 same.0)

  compares : (c : Comparison) (dst src : ℕ) (offset : ℤ) → comparable caps c (pointers (kind_at f dst) (kind_at f src)) ≡ Some pair → PairSteps precision caps f (Branch Bits64 c dst (Register src) offset) s vs pair
  compares c dst src offset e =
      let both = the_comparable c (pointers (kind_at f dst) (kind_at f src)) e in
      let p = the_pair f s dst src pair h.registers both.0 in
      let m = p.first.at in
      let n = p.second.at in
      let a = p.first.holds in
      let b = p.second.holds in
      let q = branch_to (is_taken Bits64 c m n) s.slot (extended offset) in
      record {
        to = go q s;
        act = ap (λ (o : Option (Region × ℕ × ℕ)). o >>= λ p. only (are_comparable caps c p) (Some (go (branch_to (is_taken Bits64 c p.1 p.2) s.slot (extended offset)) s))) (pair_places f s dst src pair p)
            ∙ cond-true (are_comparable caps c (pair.region, m, n)) (Some (go q s)) None (within c m n both.1 a.below b.below);
        rest = refl;
        reaches = reach (is_taken Bits64 c m n) (pair_edge precision c true dst src f pair) (pair_edge precision c false dst src f pair) offset (edge_left c true dst src p) (edge_left c false dst src p);
      }

pub pairs_step : ArithmeticKeeps → TightenKeeps → EdgeKeeps → PairsStep
pairs_step arithmetic tightens edges precision caps f (Alu Bits64 Sub dst (Register src)) s vs pair fit r10 fits eleven h e = subtracts arithmetic tightens edges precision caps f s vs pair fits eleven h dst src fit.0 r10 e
pairs_step arithmetic tightens edges precision caps f (Branch Bits64 c dst (Register src) offset) s vs pair fit r10 fits eleven h e = compares arithmetic tightens edges precision caps f s vs pair fits eleven h c dst src offset e
pairs_step arithmetic tightens edges precision caps f i s vs pair fit r10 fits eleven h e = absurd (none-some pair e)

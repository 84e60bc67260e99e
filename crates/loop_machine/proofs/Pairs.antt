-- Two places of one region on the typed machine, and their addresses on the flat one: the same differences and the same
-- order in every layout. So the flat step of an instruction is the image of the typed one.
use Rattle.std.proofs.Common.{◌≡◌, ℕ, ◌+◌, ◌-◌, ◌%◌, ◌^◌, ◌<◌, ◌≤◌, Option, Some, None, Bool, true, false, refl, ap, ◌∙◌, sym, subst, arith}
use Rattle.std.specs.Prelude.{ℤ, nat_lt, nat_le, ◌==◌, ◌&&◌, not}
use Rattle.std.proofs.Math.Nat.{mod-eq_of_lt}
use Rattle.std.proofs.lemmas.Bool.{and_parts, le-leb, leb-true, ltb-true}
use Rattle.std.proofs.lemmas.Bool.Decides.{Decides-eqb, Decides-ltb, Decides-like, same_from_decides}
use Rattle.std.proofs.lemmas.Option.{none-some, same_Some}
use Rattle.bpf_decode.specs.declared.operation.OpWidth.TheVariants.{Bits64}
use Rattle.bpf_decode.specs.declared.operation.Arithmetic.TheVariants.{Sub}
use Rattle.bpf_decode.specs.declared.operation.Comparison.{Comparison}
use Rattle.bpf_decode.specs.declared.operation.Comparison.TheVariants.{Equal, Greater, GreaterEqual, SharesBits, NotEqual, SignedGreater, SignedGreaterEqual, Less, LessEqual, SignedLess, SignedLessEqual}
use Rattle.bpf_decode.specs.declared.insn.Operand.TheVariants.{Register}
use Rattle.bpf_decode.specs.declared.insn.Insn.{Insn}
use Rattle.bpf_decode.specs.declared.insn.Insn.TheVariants.{Alu, Branch}
use Rattle.bpf_decode.specs.declared.region.Region.{Region}
use Rattle.bpf_decode.specs.declared.region.Region.TheVariants.{Input, Output, Stack}
use Rattle.bpf_decode.specs.declared.value.Value.{Value}
use Rattle.bpf_decode.specs.declared.value.Value.TheVariants.{Num, Ptr}
use Rattle.bpf_decode.specs.Arithmetic.{alu_value, is_taken}
use Rattle.bpf_decode.specs.Jump.{branch_to}
use Rattle.bpf_machine.specs.declared.caps.Caps.{Caps}
use Rattle.bpf_machine.specs.State.{◌>>=◌, only, State, size, reg, set_reg, go}
use Rattle.bpf_machine.specs.Flat.{Layout, IsLayout, base, flat_after}
use Rattle.bpf_machine.specs.Typed.{Typed, equal_regions, extended, typed_act, address, image}
use Rattle.bpf_machine.specs.Decoded.{insn_act}
use Rattle.bpf_machine.proofs.Sim.{Sim, Any, sim_none, sim_some, sim_guard, sim_eq, sim_drop}
use Rattle.bpf_machine.proofs.Registers.{register, sets, after_sim}
use Rattle.bpf_machine.proofs.Rows.{act_sim}
use Rattle.loop_machine.specs.Typed.{places, places_at, are_comparable, pair_act, or_else, loop_act}

-- ---- addresses of one region
-- the difference of two addresses is that of the offsets
difference : (b m n : ℕ) → b < 2 ^ 64 → m < 2 ^ 64 → n < 2 ^ 64 → ((b + m) % 2 ^ 64 + (2 ^ 64 - (b + n) % 2 ^ 64)) % 2 ^ 64 ≡ (m + (2 ^ 64 - n)) % 2 ^ 64
difference b m n p q r = omega arith

-- two addresses are the same if the offsets are
same_offset : (b m n : ℕ) → b < 2 ^ 64 → m < 2 ^ 64 → n < 2 ^ 64 → (b + m) % 2 ^ 64 ≡ (b + n) % 2 ^ 64 → m ≡ n
same_offset b m n p q r e = omega arith

-- equal tests of equivalent statements
equal_tests : (x y m n : ℕ) → (x ≡ y → m ≡ n) → (m ≡ n → x ≡ y) → (x == y) ≡ (m == n)
equal_tests x y m n f g = same_from_decides (x == y) (m == n) (Decides-like (x == y) f g (Decides-eqb x y)) (Decides-eqb m n)

le_tests : (x y m n : ℕ) → (x ≤ y → m ≤ n) → (m ≤ n → x ≤ y) → nat_le x y ≡ nat_le m n
le_tests x y m n f g =
    same_from_decides (nat_le x y) (nat_le m n) (λ h. f (leb-true x y h), λ h. le-leb x y (g h)) (leb-true m n, le-leb m n)

lt_tests : (x y m n : ℕ) → (x < y → m < n) → (m < n → x < y) → nat_lt x y ≡ nat_lt m n
lt_tests x y m n f g = same_from_decides (nat_lt x y) (nat_lt m n) (Decides-like (nat_lt x y) f g (Decides-ltb x y)) (Decides-ltb m n)

module _ (caps : Caps) (lay : Layout) (ok : IsLayout caps lay) where
  low_base : (r : Region) → base lay r < 2 ^ 64
  low_base r = omega (arith, ok.fits r)

  -- no address wraps of an offset within the region or at its end
  no_wrap : (r : Region) (m : ℕ) → m ≤ size caps r → (base lay r + m) % 2 ^ 64 ≡ base lay r + m
  no_wrap r m h = mod-eq_of_lt (omega (arith, ok.fits r))

  equal_addresses : (r : Region) (m n : ℕ) → m < 2 ^ 64 → n < 2 ^ 64 → (address lay (Ptr r m) == address lay (Ptr r n)) ≡ (m == n)
  equal_addresses r m n p q = equal_tests _ _ m n (same_offset (base lay r) m n (low_base r) p q) (ap (λ n. address lay (Ptr r n)))

  -- both are within the region or at its end
  in_order : (r : Region) (m n : ℕ) → (nat_le m (size caps r) && nat_le n (size caps r)) ≡ true → (address lay (Ptr r m) ≡ base lay r + m) × (address lay (Ptr r n) ≡ base lay r + n)
  in_order r m n h =
      let two = and_parts (nat_le m (size caps r)) (nat_le n (size caps r)) h in
      (no_wrap r m (leb-true _ _ two.0), no_wrap r n (leb-true _ _ two.1))

  lower : (r : Region) (m n : ℕ) → (nat_le m (size caps r) && nat_le n (size caps r)) ≡ true → nat_lt (address lay (Ptr r m)) (address lay (Ptr r n)) ≡ nat_lt m n
  lower r m n h =
      let two = in_order r m n h in
      ap (λ x. nat_lt x (address lay (Ptr r n))) two.0
      ∙ ap (λ y. nat_lt (base lay r + m) y) two.1
      ∙ lt_tests (base lay r + m) (base lay r + n) m n (λ p. omega arith) (λ p. omega arith)

  not_higher : (r : Region) (m n : ℕ) → (nat_le m (size caps r) && nat_le n (size caps r)) ≡ true → nat_le (address lay (Ptr r m)) (address lay (Ptr r n)) ≡ nat_le m n
  not_higher r m n h =
      let two = in_order r m n h in
      ap (λ x. nat_le x (address lay (Ptr r n))) two.0
      ∙ ap (λ y. nat_le (base lay r + m) y) two.1
      ∙ le_tests (base lay r + m) (base lay r + n) m n (λ p. omega arith) (λ p. omega arith)

  swapped : (a b : Bool) → (a && b) ≡ true → (b && a) ≡ true
  swapped true true h = refl
  swapped true false h = h
  swapped false b h = cc

  -- a comparison of two places goes as one of their addresses
  same_branch : (c : Comparison) (r : Region) (m n : ℕ) → m < 2 ^ 64 → n < 2 ^ 64 → are_comparable caps c (r, m, n) ≡ true → is_taken Bits64 c (address lay (Ptr r m)) (address lay (Ptr r n)) ≡ is_taken Bits64 c m n
  same_branch Equal r m n p q h = equal_addresses r m n p q
  same_branch NotEqual r m n p q h = ap not (equal_addresses r m n p q)
  same_branch Greater r m n p q h = lower r n m (swapped (nat_le m (size caps r)) (nat_le n (size caps r)) h)
  same_branch GreaterEqual r m n p q h = not_higher r n m (swapped (nat_le m (size caps r)) (nat_le n (size caps r)) h)
  same_branch Less r m n p q h = lower r m n h
  same_branch LessEqual r m n p q h = not_higher r m n h
  same_branch SharesBits r m n p q h = cc
  same_branch SignedGreater r m n p q h = cc
  same_branch SignedGreaterEqual r m n p q h = cc
  same_branch SignedLess r m n p q h = cc
  same_branch SignedLessEqual r m n p q h = cc

  same_difference : (r : Region) (m n : ℕ) → m < 2 ^ 64 → n < 2 ^ 64 → alu_value Bits64 Sub (address lay (Ptr r m)) (address lay (Ptr r n)) ≡ alu_value Bits64 Sub m n
  same_difference r m n p q = difference (base lay r) m n (low_base r) p q

  -- ---- two registers
  -- they are places of that region
  record Both (s : Typed) (dst src : ℕ) (p : Region × ℕ × ℕ) : Type 0 where
    first : reg (image lay s) dst ≡ Some (address lay (Ptr p.0 p.1))
    second : reg (image lay s) src ≡ Some (address lay (Ptr p.0 p.2))
    first_low : p.1 < 2 ^ 64
    second_low : p.2 < 2 ^ 64

  same_region : (r q : Region) → equal_regions r q ≡ true → r ≡ q
  same_region Input Input h = refl
  same_region Output Output h = refl
  same_region Stack Stack h = refl
  same_region r q h = cc

  both : (s : Typed) (dst src : ℕ) (p : Region × ℕ × ℕ) → places_at s dst src ≡ Some p → Both s dst src p
  both s dst src p h = by_first (reg s dst) refl h
    where
      of_one : (r q : Region) (m n : ℕ) → reg s dst ≡ Some (Ptr r m) → reg s src ≡ Some (Ptr q n) → (t : Bool) → (equal_regions r q && (nat_lt m (2 ^ 64) && nat_lt n (2 ^ 64))) ≡ t → only t (Some (r, m, n)) ≡ Some p → Both s dst src p
      of_one r q m n x y true e h =
          let all = and_parts (equal_regions r q) (nat_lt m (2 ^ 64) && nat_lt n (2 ^ 64)) e in
          let low = and_parts (nat_lt m (2 ^ 64)) (nat_lt n (2 ^ 64)) all.1 in
          let same : r ≡ q = same_region r q all.0 in
          let here : Both s dst src (r, m, n) = record {
            first = ((register caps lay s dst).by (Ptr r m) x).1;
            second = ((register caps lay s src).by (Ptr r n) (y ∙ ap (λ q. Some (Ptr q n)) (sym same))).1;
            first_low = ltb-true _ _ low.0;
            second_low = ltb-true _ _ low.1;
          } in
          subst (Both s dst src) (same_Some (r, m, n) p h) here
      of_one r q m n x y false e h = absurd (none-some p h)

      by_values : (v w : Value) → reg s dst ≡ Some v → reg s src ≡ Some w → places v w ≡ Some p → Both s dst src p
      by_values (Num n) w x y h = absurd (none-some p h)
      by_values (Ptr r m) (Num n) x y h = absurd (none-some p h)
      by_values (Ptr r m) (Ptr q n) x y h = of_one r q m n x y _ refl h

      by_second : (v : Value) (o : Option Value) → reg s dst ≡ Some v → reg s src ≡ o → (o >>= λ w. places v w) ≡ Some p → Both s dst src p
      by_second v None x y h = absurd (none-some p h)
      by_second v (Some w) x y h = by_values v w x y h

      by_first : (o : Option Value) → reg s dst ≡ o → (o >>= λ v. reg s src >>= λ w. places v w) ≡ Some p → Both s dst src p
      by_first None x h = absurd (none-some p h)
      by_first (Some v) x h = by_second v (reg s src) x refl h

  sub_sim : (dst src : ℕ) (s : Typed) → Sim Any (image lay) (pair_act caps (Alu Bits64 Sub dst (Register src)) s) (insn_act caps lay (Alu Bits64 Sub dst (Register src)) (image lay s))
  sub_sim dst src s = sim_drop Any (image lay) (places_at s dst src) _ _ (λ p e.
      let b = both s dst src p e in
      let t = image lay s in
      sim_eq Any (image lay) _ _ _
      (ap (λ o. o >>= λ y. reg t dst >>= λ x. flat_after caps lay t (set_reg t dst (alu_value Bits64 Sub x y))) b.second
      ∙ ap (λ o. o >>= λ x. flat_after caps lay t (set_reg t dst (alu_value Bits64 Sub x (address lay (Ptr p.0 p.2))))) b.first
      ∙ ap (λ v. flat_after caps lay t (set_reg t dst v)) (same_difference p.0 p.1 p.2 b.first_low b.second_low))
      (after_sim caps lay s _ _ (sets caps lay s dst (Num (alu_value Bits64 Sub p.1 p.2)))))

  compare_sim : (c : Comparison) (dst src : ℕ) (offset : ℤ) (s : Typed) → Sim Any (image lay) (pair_act caps (Branch Bits64 c dst (Register src) offset) s) (insn_act caps lay (Branch Bits64 c dst (Register src) offset) (image lay s))
  compare_sim c dst src offset s = sim_drop Any (image lay) (places_at s dst src) _ _ (λ p e.
      let b = both s dst src p e in
      let t = image lay s in
      sim_guard Any (image lay) (are_comparable caps c p) _ _ (λ yes.
      sim_eq Any (image lay) _ _ _
      (ap (λ o. o >>= λ x. reg t src >>= λ y. Some (go (branch_to (is_taken Bits64 c x y) t.slot (extended offset)) t)) b.first
      ∙ ap (λ o. o >>= λ y. Some (go (branch_to (is_taken Bits64 c (address lay (Ptr p.0 p.1)) y) t.slot (extended offset)) t)) b.second
      ∙ ap (λ taken. Some (go (branch_to taken t.slot (extended offset)) t)) (same_branch c p.0 p.1 p.2 b.first_low b.second_low yes))
      (sim_some Any (image lay) _ _ tt refl)))

  pair_sim : (i : Insn) (s : Typed) → Sim Any (image lay) (pair_act caps i s) (insn_act caps lay i (image lay s))
  pair_sim (Alu Bits64 Sub dst (Register src)) s = sub_sim dst src s
  pair_sim (Branch Bits64 c dst (Register src) offset) s = compare_sim c dst src offset s
  pair_sim i s = sim_none _ _ _

  either_sim : (a b : Option Typed) (c : Option (State ℕ)) → Sim Any (image lay) a c → Sim Any (image lay) b c → Sim Any (image lay) (or_else a b) c
  either_sim None b c x y = y
  either_sim (Some t) b c x y = x

  -- the flat step of an instruction is the image of the typed one
  pub loop_sim : (i : Insn) (s : Typed) → Sim Any (image lay) (loop_act caps i s) (insn_act caps lay i (image lay s))
  loop_sim i s = either_sim (typed_act caps i s) (pair_act caps i s) _ (act_sim caps lay ok i s) (pair_sim i s)

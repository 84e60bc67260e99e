-- What a number tells of a low half is true of it.
use Rattle.std.proofs.Common.{◌≡◌, ℕ, ℤ, pos, negsuc, ◌-◌, ◌*◌, ◌/◌, ◌%◌, ◌^◌, ◌<◌, ◌≤◌, ◌≤ℤ◌, Option, Some, None, true, cond, ap, sym, subst, arith}
use Rattle.std.specs.Prelude.{◌==◌, nat_le, int_lt}
use Rattle.std.specs.Int.{w32, w64, cast_signed, int_max, int_min, int_shr}
use Rattle.std.proofs.lemmas.Int.{ints}
use Rattle.std.proofs.lemmas.Bool.{eqb-true, leb-true, cond_both}
use Rattle.bpf_decode.specs.declared.value.Value.TheVariants as values
use Rattle.abstract_num.specs.declared.precision.Precision.{Precision}
use Rattle.abstract_num.specs.Plain.{Plain, Holds}
use Rattle.abstract_num.specs.Signed.{signed, signed_half}
use Rattle.abstract_num.specs.Tighten.{tighten}
use Rattle.abstract_num.specs.Keeping.{HeldIn, TightenKeeps}
use Rattle.abstract_regs.specs.declared.link.LinkForm.{LinkForm}
use Rattle.abstract_regs.specs.declared.link.LinkForm.TheVariants.{Unlinked, Whole, Low, Up, Sign}
use Rattle.abstract_regs.specs.Link.{HoldsForm}
use Rattle.abstract_regs.specs.Links.{any_half, half_told, met_half, tell_half}

-- between both ends
pub record Between (h : ℤ × ℤ) (s : ℤ) : Type 0 where
  pub least : h.0 ≤ℤ s
  pub greatest : s ≤ℤ h.1

-- ---- halves

half_any : (t : ℕ) → t < 2 ^ 32 → Between any_half (cast_signed w32 t)
half_any t h = record { least = grind (arith, ints); greatest = grind (arith, ints) }

half_positive : (t : ℕ) → t < 2 ^ 31 → Between (pos 0, pos (2 ^ 31 - 1)) (cast_signed w32 t)
half_positive t h = record { least = grind (arith, ints); greatest = grind (arith, ints) }

half_negative : (t : ℕ) → 2 ^ 31 ≤ t → t < 2 ^ 32 → Between (negsuc (2 ^ 31 - 1), negsuc 0) (cast_signed w32 t)
half_negative t h k = record { least = grind (arith, ints); greatest = grind (arith, ints) }

up_least : (a : ℤ) (t : ℕ) → t < 2 ^ 32 → a ≤ℤ cast_signed w64 (t * 2 ^ 32) → int_shr a 32 ≤ℤ cast_signed w32 t
up_least (pos n) t h e = grind (arith, ints)
up_least (negsuc n) t h e = grind (arith, ints)

up_greatest : (a : ℤ) (t : ℕ) → t < 2 ^ 32 → cast_signed w64 (t * 2 ^ 32) ≤ℤ a → cast_signed w32 t ≤ℤ int_shr a 32
up_greatest (pos n) t h e = grind (arith, ints)
up_greatest (negsuc n) t h e = grind (arith, ints)

same_half : (m n : ℕ) → m % 2 ^ 32 ≡ n % 2 ^ 32 → signed_half m ≡ signed_half n
same_half m n e = ap (cast_signed w32) e

short : (m : ℕ) → m % 2 ^ 32 < 2 ^ 32
short m = omega arith

moved_up : (m n : ℕ) → n ≡ m * 2 ^ 32 % 2 ^ 64 → n ≡ m % 2 ^ 32 * 2 ^ 32
moved_up m n e = omega (arith, e)

sign_clear : (m n : ℕ) → n ≡ m / 2 ^ 31 % 2 * 2 ^ 31 → n ≤ 0 → m % 2 ^ 32 < 2 ^ 31
sign_clear m n e h = omega (arith, e, h)

sign_set : (m n : ℕ) → n ≡ m / 2 ^ 31 % 2 * 2 ^ 31 → 1 ≤ n → 2 ^ 31 ≤ m % 2 ^ 32
sign_set m n e h = omega (arith, e, h)

-- what a form tells is true of the number that it is a form of
half_true : (form : LinkForm) (m n : ℕ) (z : Plain) → Holds z n → HoldsForm form m (Some (values.Num n)) → Between (half_told form z) (signed_half m)
half_true Unlinked m n z h is = half_any (m % 2 ^ 32) (short m)
half_true Whole m n z h is =
    let e : signed_half n ≡ signed_half m = ap signed_half is in
    record { least = subst (λ s. z.half_least ≤ℤ s) e h.half_at_least; greatest = subst (λ s. s ≤ℤ z.half_greatest) e h.half_at_most }
half_true Low m n z h is =
    let e : signed_half n ≡ signed_half m = same_half n m is in
    record { least = subst (λ s. z.half_least ≤ℤ s) e h.half_at_least; greatest = subst (λ s. s ≤ℤ z.half_greatest) e h.half_at_most }
half_true Up m n z h is =
    let e : signed n ≡ cast_signed w64 (m % 2 ^ 32 * 2 ^ 32) = ap (cast_signed w64) (moved_up m n is) in
    record {
      least = up_least z.least (m % 2 ^ 32) (short m) (subst (λ s. z.least ≤ℤ s) e h.at_least);
      greatest = up_greatest z.greatest (m % 2 ^ 32) (short m) (subst (λ s. s ≤ℤ z.greatest) e h.at_most);
    }
half_true Sign m n z h is =
    cond_both (z.high == 0) (pos 0, pos (2 ^ 31 - 1)) (cond (nat_le 1 z.low) (negsuc (2 ^ 31 - 1), negsuc 0) any_half) (λ (r : ℤ × ℤ). Between r (signed_half m))
    (λ e. let none = eqb-true z.high 0 e in let below = h.below in half_positive (m % 2 ^ 32) (sign_clear m n is (omega (arith, none, below))))
    (λ _. cond_both (nat_le 1 z.low) (negsuc (2 ^ 31 - 1), negsuc 0) any_half (λ (r : ℤ × ℤ). Between r (signed_half m))
    (λ e. let some = leb-true 1 z.low e in let above = h.above in half_negative (m % 2 ^ 32) (sign_set m n is (omega (arith, some, above))) (short m))
    (λ _. half_any (m % 2 ^ 32) (short m)))

-- ---- the meet

max_below : (x y s : ℤ) → x ≤ℤ s → y ≤ℤ s → int_max x y ≤ℤ s
max_below x y s h k = cond_both (int_lt y x) x y (λ (z : ℤ). z ≤ℤ s) (λ _. h) (λ _. k)

min_above : (x y s : ℤ) → s ≤ℤ x → s ≤ℤ y → s ≤ℤ int_min x y
min_above x y s h k = cond_both (int_lt y x) y x (λ (z : ℤ). s ≤ℤ z) (λ _. k) (λ _. h)

crossed : (p q s : ℤ) → p ≤ℤ s → s ≤ℤ q → int_lt q p ≡ true → ⊥
crossed p q s h k e = grind (arith, ints)

module _ (law : TightenKeeps) (precision : Precision) where
  met_held : (t : Plain) (r : ℤ × ℤ) (v : ℕ) → Holds t v → Between r (signed_half v) → HeldIn (met_half precision t r) v
  met_held t r v h b =
      let p = int_max t.half_least r.0 in
      let q = int_min t.half_greatest r.1 in
      let least = max_below t.half_least r.0 (signed_half v) h.half_at_least b.least in
      let greatest = min_above t.half_greatest r.1 (signed_half v) h.half_at_most b.greatest in
      cond_both (int_lt q p) None (tighten precision (record t { half_least = p; half_greatest = q })) (λ (o : Option Plain). HeldIn o v)
      (λ e. absurd (crossed p q (signed_half v) least greatest e))
      (λ _. law precision (record t { half_least = p; half_greatest = q }) v (record {
        fits = h.fits;
        above = h.above;
        below = h.below;
        at_least = h.at_least;
        at_most = h.at_most;
        agrees = h.agrees;
        half_at_least = least;
        half_at_most = greatest;
      }))

  pub tell_half_held : (form : LinkForm) (m : ℕ) (z t : Plain) (n v : ℕ) → Holds z n → Holds t v → HoldsForm form m (Some (values.Num n)) → v % 2 ^ 32 ≡ m % 2 ^ 32 → HeldIn (tell_half precision form z t) v
  tell_half_held form m z t n v h k is low =
      met_held t (half_told form z) v k (subst (Between (half_told form z)) (sym (same_half v m low)) (half_true form m n z h is))

-- What a helper answers is a number of 64 bits, which the number of its call holds.
use Rattle.std.proofs.Common.{◌≡◌, ℕ, ℤ, pos, ◌-◌, ◌^◌, ◌<◌, ◌≤◌, ◌⊎◌, inl, inr, Option, Some, None, refl, subst, sym, arith}
use Rattle.std.specs.Prelude.{◌-ℤ◌, ◌≤ℤ◌, nat_lt, unwrap_or}
use Rattle.std.specs.Option.{option_and_then}
use Rattle.std.proofs.lemmas.Bool.{cond_both, ltb-true}
use Rattle.std.proofs.lemmas.Int.{ints}
use Rattle.std.proofs.lemmas.Option.{none-some}
use Rattle.abstract_num.specs.Signed.{signed}
use Rattle.abstract_num.specs.declared.precision.Precision.{Precision}
use Rattle.abstract_num.specs.Plain.{Plain, Holds, any}
use Rattle.abstract_num.specs.Tighten.{tighten}
use Rattle.abstract_num.specs.Transfer.{signed_ranged}
use Rattle.abstract_num.specs.Keeping.{HeldIn, AnyHolds, TightenKeeps}
use Rattle.object_store.specs.Object.{PlainObject}
use Rattle.object_store.specs.Limits.{IsLimits, IsAnyObject}
use Rattle.helpers.specs.declared.helper.Helper.{Helper}
use Rattle.helpers.specs.declared.helper.Helper.TheVariants.{Stat, Read, Write, Truncate, Remove, GetXattr, SetXattr, RmXattr, MapGet, MapSet, MapRm, MapNext, OutLen, Create, Caller, Compare, Copy, XattrNext}
use Rattle.helpers.specs.declared.answer_ranges.AnswerRange.{AnswerRange}
use Rattle.helpers.specs.Effect.{Given}
use Rattle.helpers.specs.Table.{effect_of, effect, helper_of, stat_answer}
use Rattle.helpers.specs.Ranges.{range_row, answer_range_of, AnswersAreInRange}
use Rattle.verifier.specs.Answers.{answers_to}

-- ---- an error is a small number

abbrev HasSmallError : Option AnswerRange → Type 0
HasSmallError None = Unit {0}
HasSmallError (Some r) = r.errno < 2 ^ 63

small_row : (h : Helper) → HasSmallError (range_row h)
small_row Stat = tt
small_row Read = omega arith
small_row Write = omega arith
small_row Truncate = omega arith
small_row Remove = omega arith
small_row GetXattr = omega arith
small_row SetXattr = omega arith
small_row RmXattr = omega arith
small_row MapGet = omega arith
small_row MapSet = omega arith
small_row MapRm = omega arith
small_row MapNext = omega arith
small_row OutLen = omega arith
small_row Create = omega arith
small_row Caller = tt
small_row Compare = omega arith
small_row Copy = omega arith
small_row XattrNext = omega arith

small_errors : (o : Option Helper) → HasSmallError (option_and_then range_row o)
small_errors None = tt
small_errors (Some h) = small_row h

pub errno_is_small : (id : ℕ) (r : AnswerRange) → answer_range_of id ≡ Some r → r.errno < 2 ^ 63
errno_is_small id r e = subst HasSmallError e (small_errors (helper_of id))

-- ---- an answer is a number of 64 bits

stat_small : (object : PlainObject) → IsAnyObject object → (stat_answer object).number < 2 ^ 64
stat_small None h = omega arith
stat_small (Some o) h = let le = h.length in omega (arith, le)

-- that of a helper of no range
plain_small : (h : Option Helper) (object : PlainObject) (g : Given) → option_and_then range_row h ≡ None → IsAnyObject object → g.caller < 2 ^ 32 → (effect_of h object g).answer < 2 ^ 64
plain_small None object g e o caller = omega arith
plain_small (Some Stat) object g e o caller = stat_small object o
plain_small (Some Caller) object g e o caller = omega (arith, caller)
plain_small (Some other) object g e o caller = absurd (none-some _ (sym e))

module _ (law : AnswersAreInRange) (id : ℕ) (object : PlainObject) (g : Given) (limits : IsLimits g.limits) (within : IsAnyObject object) (room : g.room < 2 ^ 64) (caller : g.caller < 2 ^ 32) where
  by_range : (o : Option AnswerRange) → answer_range_of id ≡ o → (effect id object g).answer < 2 ^ 64
  by_range None e = plain_small (helper_of id) object g e within caller
  by_range (Some r) e = let range = law id r object g e limits within room in range.fits

  pub answer_small : (effect id object g).answer < 2 ^ 64
  answer_small = by_range (answer_range_of id) refl

-- ---- and the number of its call holds it

tightened : (o : Option Plain) (n : ℕ) → HeldIn o n → Holds (unwrap_or o any) n
tightened None n h = absurd h
tightened (Some z) n h = h

signed_low : (n : ℕ) → n < 2 ^ 63 → signed n ≡ pos n
signed_low n h = omega (arith, ints)

signed_high : (n : ℕ) → 2 ^ 63 ≤ n → n < 2 ^ 64 → signed n ≡ pos n -ℤ pos (2 ^ 64)
signed_high n h k = cond_both (nat_lt n (2 ^ 63)) _ _ (λ z. z ≡ pos n -ℤ pos (2 ^ 64)) (λ e. absurd (omega (arith, h, ltb-true n (2 ^ 63) e))) (λ e. omega (arith, ints))

above_least : (errno most n : ℕ) → errno < 2 ^ 63 → most < 2 ^ 63 → n < 2 ^ 64 → (n ≤ most) ⊎ (2 ^ 64 - errno ≤ n) → (pos 0 -ℤ pos errno) ≤ℤ signed n
above_least errno most n a b c (inl below) =
    subst (λ (z : ℤ). (pos 0 -ℤ pos errno) ≤ℤ z) (sym (signed_low n (omega arith))) (omega (arith, ints))
above_least errno most n a b c (inr negative) =
    subst (λ (z : ℤ). (pos 0 -ℤ pos errno) ≤ℤ z) (sym (signed_high n (omega arith) c)) (omega (arith, ints))

below_greatest : (errno most n : ℕ) → errno < 2 ^ 63 → most < 2 ^ 63 → n < 2 ^ 64 → (n ≤ most) ⊎ (2 ^ 64 - errno ≤ n) → signed n ≤ℤ pos most
below_greatest errno most n a b c (inl below) =
    subst (λ (z : ℤ). z ≤ℤ pos most) (sym (signed_low n (omega arith))) (omega (arith, ints))
below_greatest errno most n a b c (inr negative) =
    subst (λ (z : ℤ). z ≤ℤ pos most) (sym (signed_high n (omega arith) c)) (omega (arith, ints))

module _ (anything : AnyHolds) (tighten_keeps : TightenKeeps) where
  range_holds : (errno most n : ℕ) → errno < 2 ^ 63 → most < 2 ^ 63 → n < 2 ^ 64 → (n ≤ most) ⊎ (2 ^ 64 - errno ≤ n) → Holds (signed_ranged (pos 0 -ℤ pos errno) (pos most)) n
  range_holds errno most n a b c side =
      let all = anything n c in
      record {
        fits = all.fits;
        above = all.above;
        below = all.below;
        at_least = above_least errno most n a b c side;
        at_most = below_greatest errno most n a b c side;
        agrees = all.agrees;
        half_at_least = all.half_at_least;
        half_at_most = all.half_at_most;
      }

  pub answers_hold : (precision : Precision) (errno : ℕ) (o : Option ℕ) (n : ℕ) → errno < 2 ^ 63 → n < 2 ^ 64 → ((most : ℕ) → o ≡ Some most → (n ≤ most) ⊎ (2 ^ 64 - errno ≤ n)) → Holds (answers_to precision errno o) n
  answers_hold precision errno None n a c side = anything n c
  answers_hold precision errno (Some most) n a c side =
      let range = signed_ranged (pos 0 -ℤ pos errno) (pos most) in
      cond_both (nat_lt most (2 ^ 63)) (unwrap_or (tighten precision range) any) any (λ x. Holds x n)
      (λ t. tightened (tighten precision range) n (tighten_keeps precision range n (range_holds errno most n a (ltb-true most (2 ^ 63) t) c (side most refl))))
      (λ t. anything n c)

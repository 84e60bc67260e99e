-- Tightening, step after step.
use Rattle.std.specs.Prelude.{ℕ, ℤ, ◌<ℤ◌, ◌≤ℤ◌, ◌≡◌, ◌≤◌, ◌<◌, ◌+◌, ◌^◌, bit_and, Bool, true, false, cond, nat_lt, int_lt, Option, None}
use Rattle.std.proofs.Common.{ap, ◌∙◌, refl, arith, subst}
use Rattle.std.proofs.lemmas.Int.{ints}
use Rattle.std.proofs.lemmas.Nat.{or_disjoint, or_lt}
use Rattle.abstract_num.specs.Tighten.{by_bits, by_unsigned, by_signed, by_constant, tighten_whole}
use Rattle.abstract_num.specs.Plain.{Plain, Number, view}

lt_yes : (a b : ℕ) → a < b → nat_lt a b ≡ true
lt_yes a b h = grind arith

lt_no : (a b : ℕ) → b ≤ a → nat_lt a b ≡ false
lt_no a b h = grind arith

lt_z_yes : (a b : ℤ) → a <ℤ b → int_lt a b ≡ true
lt_z_yes a b h = grind (arith, ints)

lt_z_no : (a b : ℤ) → b ≤ℤ a → int_lt a b ≡ false
lt_z_no a b h = grind (arith, ints)

pub none_first : (x : Plain) → (by_bits x).high < (by_bits x).low → tighten_whole x ≡ None
unfolding tighten_whole
none_first x h = rw (lt_yes _ _ h)

-- the steps after the first, of what it left
abbrev pub from_first : Plain → Option Plain
from_first y =
    cond (int_lt (by_unsigned y).greatest (by_unsigned y).least) None
    (cond (nat_lt (by_signed (by_unsigned y)).high (by_signed (by_unsigned y)).low) None
    (by_constant (by_signed (by_unsigned y))))

abbrev pub from_second : Plain → Option Plain
from_second z = cond (nat_lt (by_signed z).high (by_signed z).low) None (by_constant (by_signed z))

pub first_step : (x : Plain) → tighten_whole x ≡ cond (nat_lt (by_bits x).high (by_bits x).low) None (from_first (by_bits x))
unfolding tighten_whole
first_step x = refl

after_first : (x : Plain) (y : Number) → view y ≡ by_bits x → tighten_whole x ≡ from_first (view y)
after_first x y e =
    first_step x ∙ subst (λ (s : Plain). cond (nat_lt s.high s.low) None (from_first s) ≡ from_first (view y)) e
    (ap (λ (b : Bool). cond b None (from_first (view y))) (lt_no y.first.high y.first.low y.first.ordered))

after_second : (y z : Number) → view z ≡ by_unsigned (view y) → from_first (view y) ≡ from_second (view z)
after_second y z e =
    subst (λ (s : Plain). cond (int_lt s.greatest s.least) None (from_second s) ≡ from_second (view z)) e
    (ap (λ (b : Bool). cond b None (from_second (view z))) (lt_z_no z.second.first.high z.second.first.low z.second.first.ordered))

after_third : (z w : Number) → view w ≡ by_signed (view z) → from_second (view z) ≡ by_constant (view w)
after_third z w e =
    subst (λ (s : Plain). cond (nat_lt s.high s.low) None (by_constant s) ≡ by_constant (view w)) e
    (ap (λ (b : Bool). cond b None (by_constant (view w))) (lt_no w.first.high w.first.low w.first.ordered))

pub none_second : (x : Plain) (y : Number) → view y ≡ by_bits x → (by_unsigned (view y)).greatest <ℤ (by_unsigned (view y)).least → tighten_whole x ≡ None
none_second x y e h = after_first x y e ∙ ap (λ (b : Bool). cond b None (from_second (by_unsigned (view y)))) (lt_z_yes _ _ h)

pub none_third : (x : Plain) (y z : Number) → view y ≡ by_bits x → view z ≡ by_unsigned (view y) → (by_signed (view z)).high < (by_signed (view z)).low → tighten_whole x ≡ None
none_third x y z e f h = after_first x y e ∙ after_second y z f ∙ ap (λ (b : Bool). cond b None (by_constant (by_signed (view z)))) (lt_yes _ _ h)

pub all_steps : (x : Plain) (y z w : Number) → view y ≡ by_bits x → view z ≡ by_unsigned (view y) → view w ≡ by_signed (view z) → tighten_whole x ≡ by_constant (view w)
all_steps x y z w e f g = after_first x y e ∙ after_second y z f ∙ after_third z w g

pub sum_fits : (v m : ℕ) → bit_and v m ≡ 0 → v < 2 ^ 64 → m < 2 ^ 64 → v + m < 2 ^ 64
sum_fits v m e p q = subst (λ (x : ℕ). x < 2 ^ 64) (or_disjoint v m e) (or_lt 64 v m p q)

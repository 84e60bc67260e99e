-- Proved; nothing here need be believed.
-- A choice by a test, proved case by case.
use Rattle.std.specs.Prelude.{◌≡◌, ◌&&◌, ◌||◌, Bool, true, false, cond}
use Rattle.std.proofs.Common.{refl}

pub cond_dec : {A : Type 0} (b : Bool) → (b ≡ true → A) → (b ≡ false → A) → A
cond_dec true f g = f refl
cond_dec false f g = g refl

pub cond_both : {A : Type 0} (P : A → Type 0) (b : Bool) (x y : A) → (b ≡ true → P x) → (b ≡ false → P y) →
    P (cond b x y)
cond_both P true x y f g = f refl
cond_both P false x y f g = g refl

pub and_first : (a b : Bool) → (a && b) ≡ true → a ≡ true
and_first true b e = refl
and_first false b e = cc

pub and_second : (a b : Bool) → (a && b) ≡ true → b ≡ true
and_second true b e = e
and_second false b e = cc

pub or_true : (a b : Bool) → a ≡ true → (a || b) ≡ true
or_true true b e = refl
or_true false b e = cc

pub or_false : (a b : Bool) → a ≡ false → b ≡ false → (a || b) ≡ false
or_false true b p q = cc
or_false false b p q = q

pub bool_no : (b : Bool) → (b ≡ true → ⊥) → b ≡ false
bool_no true h = absurd (h refl)
bool_no false h = refl

-- The method at a place of a class.
use Rattle.std.proofs.Common.{◌≡◌, ◌∙◌, ℕ, zero, suc, ◌<◌, Bool, true, List, [], ◌∷◌, Some, ap, sym, arith, length, drop, get_or}
use Rattle.std.specs.Prelude.{slice_get, if◌then◌else◌}
use Rattle.std.specs.Str.{bytes_eq}
use Rattle.std.proofs.lemmas.Option.{none-some, same_Some}
use Rattle.bpf_decode.specs.Class.{ClassMethod}
use Rattle.verifier.specs.Verified.{method_named}

-- the first of those left has the name
pub first_named : (ms : List ClassMethod) (name : List ℕ) (n : ℕ) (m : ClassMethod) → n < length ms → m ≡ get_or ms n m → bytes_eq m.name name ≡ true → method_named (drop n ms) name ≡ Some m
first_named [] name n m h e t = absurd (omega (arith, h))
first_named (x ∷ ms) name zero m h e t =
    let named : bytes_eq x.name name ≡ true = ap (λ (y : ClassMethod). bytes_eq y.name name) (sym e) ∙ t in
    ap (λ (b : Bool). if b then Some x else method_named ms name) named ∙ ap Some (sym e)
first_named (x ∷ ms) name (suc n) m h e t = first_named ms name n m (omega (arith, h)) e t

pub stands_at : (ms : List ClassMethod) (n : ℕ) (m : ClassMethod) → n < length ms → m ≡ get_or ms n m → slice_get ms n ≡ Some m
stands_at [] n m h e = absurd (omega (arith, h))
stands_at (x ∷ ms) zero m h e = ap Some (sym e)
stands_at (x ∷ ms) (suc n) m h e = stands_at ms n m (omega (arith, h)) e

pub is_that : (ms : List ClassMethod) (n : ℕ) (x m : ClassMethod) → slice_get ms n ≡ Some x → m ≡ get_or ms n m → x ≡ m
is_that [] n x m at e = absurd (none-some x at)
is_that (y ∷ ms) zero x m at e = sym (same_Some y x at) ∙ sym e
is_that (y ∷ ms) (suc n) x m at e = is_that ms n x m at e

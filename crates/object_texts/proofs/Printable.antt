-- A name that is printed as text is a text.
use Rattle.std.proofs.Common.{◌≡◌, ℕ, zero, suc, ◌<◌, Bool, true, false, ◌||◌, ◌&&◌, List, [], ◌∷◌, refl, arith}
use Rattle.std.specs.Prelude.{not, IsUtf8}
use Rattle.std.specs.List.{list_any}
use Rattle.std.specs.Str.{IsAscii}
use Rattle.std.proofs.lemmas.Bool.Decides.{nat_tests}
use Rattle.std.proofs.lemmas.Str.{IsUtf8-from_ascii}
use Rattle.object_texts.specs.Shown.{is_printable, is_text}

small : (b : ℕ) → is_printable b ≡ true → b < 128
small b e = grind (arith, nat_tests, e)

parts : (v r : Bool) → (not v || r) ≡ false → (v ≡ true) × (r ≡ false)
parts true r e = (refl, e)
parts false r e = absurd (let bad : true ≡ false = e in cc)

ascii : (name : List ℕ) → list_any (λ b. not (is_printable b)) name ≡ false → IsAscii name
ascii [] none i = omega arith
ascii (b ∷ bs) none zero = small b (parts (is_printable b) (list_any (λ b. not (is_printable b)) bs) none).0
ascii (b ∷ bs) none (suc i) = ascii bs (parts (is_printable b) (list_any (λ b. not (is_printable b)) bs) none).1 i

none_other : (a b : Bool) → (not a && not b) ≡ true → b ≡ false
none_other true b e = absurd (let bad : false ≡ true = e in cc)
none_other false true e = absurd (let bad : false ≡ true = e in cc)
none_other false false e = refl

pub text_is_utf8 : (name : List ℕ) → is_text name ≡ true → IsUtf8 name
text_is_utf8 name e = IsUtf8-from_ascii name (ascii name (none_other _ _ e))

-- Bytes, the steps of a reading that did not fail, and the fields of a slot.
use Rattle.std.proofs.Common.{◌≡◌, ℕ, suc, ◌+◌, ◌*◌, ◌/◌, ◌%◌, ◌^◌, ◌<◌, ◌≤◌, Bool, true, false, List, [], ◌∷◌, ◌++◌, get_or, take, drop, Option, Some, None, Result, Ok, Err, refl, ap, subst, ◌∙◌, arith, inl, inr}
use Rattle.std.specs.Prelude.{◌&&◌}
use Rattle.std.specs.Option.{ok_or}
use Rattle.std.proofs.lemmas.Bool.{cases_lt}
use Rattle.std.proofs.lemmas.List.{get_or-drop, get_or-take, get_or_past, length-take}
use Rattle.bpf_decode.specs.Fields.{Fields, fields_of}
use Rattle.bpf_decode.specs.Instruction.{slot}
use Rattle.bpf_decode.specs.Reading.{◌>>=◌, checked}

abbrev pub IsBytes : List ℕ → Type 0
IsBytes bytes = (i : ℕ) → get_or bytes i 0 < 256

pub IsBytes-drop : (n : ℕ) (bytes : List ℕ) → IsBytes bytes → IsBytes (drop n bytes)
IsBytes-drop n bytes h i = rw get_or-drop (h (n + i))

pub IsBytes-take : (n : ℕ) (bytes : List ℕ) → IsBytes bytes → IsBytes (take n bytes)
IsBytes-take n bytes h i =
    elim (cases_lt i n) [
      | inl lt ↦ rw (get_or-take n bytes i 0 lt) (h i)
      | inr le ↦ rw (get_or_past (take n bytes) i 0 (omega (arith, length-take n bytes))) (omega arith)
    ]

pub IsBytes-rest : (b : ℕ) (bytes : List ℕ) → IsBytes (b ∷ bytes) → IsBytes bytes
IsBytes-rest b bytes h i = h (suc i)

-- the value of a step that did not fail
pub bind_ok : {A B E : Type 0} (r : Result A E) (f : A → Result B E) (y : B) → (r >>= f) ≡ Ok y → (x : A) × (r ≡ Ok x) × (f x ≡ Ok y)
bind_ok (Ok x) f y e = (x, refl, e)
bind_ok (Err d) f y e = absurd cc

pub checked_ok : {A E : Type 0} (b : Bool) (d : E) (x y : A) → checked b d x ≡ Ok y → (b ≡ true) × (x ≡ y)
checked_ok true d x y e = (refl, cc)
checked_ok false d x y e = absurd cc

pub ok_or_ok : {A E : Type 0} (o : Option A) (d : E) (y : A) → ok_or o d ≡ Ok y → o ≡ Some y
ok_or_ok (Some x) d y e = cc
ok_or_ok None d y e = absurd cc

pub both_true : (a b : Bool) → (a && b) ≡ true → (a ≡ true) × (b ≡ true)
both_true true b e = (refl, e)
both_true false b e = absurd cc

-- ---- the fields of a slot

abbrev pub fields_are : ℕ → ℕ → ℕ → ℕ → ℕ → Fields
fields_are opcode dst src offset imm = record { opcode = opcode; dst = dst; src = src; offset = offset; imm = imm }

low_nibble : (d s : ℕ) → d ≤ 10 → (d + 16 * s) % 16 ≡ d
low_nibble d s h = omega arith

high_nibble : (d s : ℕ) → d ≤ 10 → (d + 16 * s) / 16 ≡ s
high_nibble d s h = omega arith

two_bytes : (o : ℕ) → o % 256 + 256 * (o / 256) ≡ o
two_bytes o = omega arith

four_bytes : (k : ℕ) → k % 256 + 256 * (k / 256 % 256) + 65536 * (k / 65536 % 256) + 16777216 * (k / 16777216) ≡ k
four_bytes k = omega arith

pub fields_of-slot : (op d s o k : ℕ) (rest : List ℕ) → d ≤ 10 → fields_of (slot op d s o k ++ rest) ≡ Some (fields_are op d s o k)
fields_of-slot op d s o k rest h =
    let e1 = low_nibble d s h in
    let e2 = high_nibble d s h in
    let e3 = two_bytes o in
    let e4 = four_bytes k in
    cc

pub same_slot : (op op' d d' s s' o o' k k' : ℕ) → op ≡ op' → d ≡ d' → s ≡ s' → o ≡ o' → k ≡ k' → slot op d s o k ≡ slot op' d' s' o' k'
same_slot op op' d d' s s' o o' k k' e1 e2 e3 e4 e5 =
    ap (λ (x : ℕ). slot x d s o k) e1 ∙ ap (λ (x : ℕ). slot op' x s o k) e2 ∙ ap (λ (x : ℕ). slot op' d' x o k) e3 ∙ ap (λ (x : ℕ). slot op' d' s' x k) e4 ∙ ap (λ (x : ℕ). slot op' d' s' o' x) e5

-- what a slot's fields take from the bytes
pub record TakesSlot (bytes : List ℕ) (f : Fields) : Type 0 where
  pub parts : bytes ≡ slot f.opcode f.dst f.src f.offset f.imm ++ drop 8 bytes
  pub offset : f.offset < 2 ^ 16
  pub imm : f.imm < 2 ^ 32

two_cells : (b c : ℕ) → b < 256 → c < 256 → ((b + 256 * c) % 256 ≡ b) × ((b + 256 * c) / 256 ≡ c)
two_cells b c h k = (omega arith, omega arith)

abbrev four : ℕ → ℕ → ℕ → ℕ → ℕ
four a b c d = a + 256 * b + 65536 * c + 16777216 * d

four_cells : (a b c d : ℕ) → a < 256 → b < 256 → c < 256 → d < 256 → (four a b c d % 256 ≡ a) × (four a b c d / 256 % 256 ≡ b) × (four a b c d / 65536 % 256 ≡ c) × (four a b c d / 16777216 ≡ d)
four_cells a b c d h i j k = (omega arith, omega arith, omega arith, omega arith)

abbrev some : Fields → Option Fields
some f = Some f

some_is : (f g : Fields) → some f ≡ some g → f ≡ g
some_is f g e = cc

pub fields_take : (bytes : List ℕ) (f : Fields) → IsBytes bytes → fields_of bytes ≡ Some f → TakesSlot bytes f
fields_take (b0 ∷ b1 ∷ b2 ∷ b3 ∷ b4 ∷ b5 ∷ b6 ∷ b7 ∷ rest) f fits e =
    let h2 : b2 < 256 = fits 2 in
    let h3 : b3 < 256 = fits 3 in
    let h4 : b4 < 256 = fits 4 in
    let h5 : b5 < 256 = fits 5 in
    let h6 : b6 < 256 = fits 6 in
    let h7 : b7 < 256 = fits 7 in
    let e1 : b1 % 16 + 16 * (b1 / 16) ≡ b1 = omega arith in
    let e2 = two_cells b2 b3 h2 h3 in
    let e3 = four_cells b4 b5 b6 b7 h4 h5 h6 h7 in
    let all = b0 ∷ b1 ∷ b2 ∷ b3 ∷ b4 ∷ b5 ∷ b6 ∷ b7 ∷ rest in
    let made : Fields = fields_are b0 (b1 % 16) (b1 / 16) (b2 + 256 * b3) (four b4 b5 b6 b7) in
    subst (λ (g : Fields). TakesSlot (b0 ∷ b1 ∷ b2 ∷ b3 ∷ b4 ∷ b5 ∷ b6 ∷ b7 ∷ rest) g) (some_is made f e) (record {
      parts = cc;
      offset = omega arith;
      imm = omega arith;
    })
fields_take [] f fits e = absurd cc
fields_take (b0 ∷ []) f fits e = absurd cc
fields_take (b0 ∷ b1 ∷ []) f fits e = absurd cc
fields_take (b0 ∷ b1 ∷ b2 ∷ []) f fits e = absurd cc
fields_take (b0 ∷ b1 ∷ b2 ∷ b3 ∷ []) f fits e = absurd cc
fields_take (b0 ∷ b1 ∷ b2 ∷ b3 ∷ b4 ∷ []) f fits e = absurd cc
fields_take (b0 ∷ b1 ∷ b2 ∷ b3 ∷ b4 ∷ b5 ∷ []) f fits e = absurd cc
fields_take (b0 ∷ b1 ∷ b2 ∷ b3 ∷ b4 ∷ b5 ∷ b6 ∷ []) f fits e = absurd cc

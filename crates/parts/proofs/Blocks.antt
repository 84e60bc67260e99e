-- What blocks of a part say of data, and which data agrees with it.
use Rattle.std.proofs.Common.{◌≡◌, ◌∙◌, ◌⊎◌, inl, inr, ℕ, ◌+◌, ◌-◌, ◌*◌, ◌/◌, ◌%◌, ◌<◌, ◌≤◌, min, Bool, true, false, cond, List, [], ◌∷◌, Option, Some, None, IsSome, length, drop, get_or, refl, ap, sym, subst, arith, length-drop, eq-eqb}
use Rattle.std.specs.Prelude.{nat_le, ◌==◌, ◌↔◌}
use Rattle.std.specs.Option.{is_some}
use Rattle.std.specs.List.{AllByRecursion}
use Rattle.std.proofs.lemmas.Bool.{cases_eq, eqb-true}
use Rattle.std.proofs.lemmas.Bool.Decides.{leb_tells}
use Rattle.std.proofs.lemmas.List.{length-take, get_or-take, get_or-drop, ext_get_or}
use Rattle.object_store.specs.Object.{part}
use Rattle.part_bytes.specs.Part.{Block, AreInTurn, IsBlock, after_block}
use Rattle.part_data.specs.Known.{KnownData, Agrees, blocks_of, known, or_zero}
use Rattle.part_data.specs.Changes.{IsUnread, IsLearned}
use Rattle.parts.specs.Agreed.{HasBlocks, IsInBlock}
use Rattle.parts.specs.inner.Part.{first_of, byte_at, byte_of, IsDataOf}

-- ---- the first of two
pub first_of_three : {X : Type 0} (x y z : Option X) → first_of x (first_of y z) ≡ first_of (first_of x y) z
first_of_three (Some x) y z = refl
first_of_three None y z = refl

pub none_first : {X : Type 0} (x : Option X) → first_of None x ≡ x
none_first x = refl

pub all_of : {X : Type 0} {P Q : X → Type 0} (f : (x : X) → P x → Q x) (xs : List X) → AllByRecursion P xs → AllByRecursion Q xs
all_of f [] h = tt
all_of f (x ∷ xs) h = (f x h.0, all_of f xs h.1)

-- ---- a block
pub byte_here : (b : Block) (p : ℕ) → p / 4096 ≡ b.0 → byte_at b p ≡ Some (get_or b.1 (p % 4096) 0)
byte_here b p e = ap (λ t. cond t (Some (get_or b.1 (p % 4096) 0)) None) (eq-eqb (p / 4096) b.0 e)

pub byte_other : (b : Block) (p : ℕ) → (p / 4096 ≡ b.0 → ⊥) → byte_at b p ≡ None
byte_other b p ne = by (p / 4096 == b.0) refl
  where
    by : (t : Bool) → (p / 4096 == b.0) ≡ t → cond t (Some (get_or b.1 (p % 4096) 0)) None ≡ None
    by true e = absurd (ne (eqb-true (p / 4096) b.0 e))
    by false e = refl

-- one block more is learned, and one fewer is left
pub learned_one : (b : Block) (bs : List Block) (old new : ℕ → Option ℕ) (p : ℕ) → IsLearned old new b.0 b.1 → first_of (byte_of bs p) (new p) ≡ first_of (byte_of (b ∷ bs) p) (old p)
learned_one b bs old new p l = ap (first_of (byte_of bs p)) is ∙ first_of_three (byte_of bs p) (byte_at b p) (old p)
  where
    is : new p ≡ first_of (byte_at b p) (old p)
    is = elim (cases_eq (p / 4096) b.0) [
      | inl e ↦ l.here p e ∙ sym (ap (λ o. first_of o (old p)) (byte_here b p e))
      | inr ne ↦ l.others p ne ∙ sym (ap (λ o. first_of o (old p)) (byte_other b p ne))
    ]

-- before any block
pub none_learned : (size : ℕ) (f : ℕ → Option ℕ) → IsUnread f size → (o : Option ℕ) (p : ℕ) → first_of o (f p) ≡ or_zero o (nat_le (blocks_of size) (p / 4096))
none_learned size f u (Some v) p = refl
none_learned size f u None p = elim (leb_tells (blocks_of size) (p / 4096)) [
  | inl t ↦ u.past p t.1 ∙ sym (ap (or_zero None) t.0)
  | inr g ↦ u.within p (omega (arith, g.1)) ∙ sym (ap (or_zero None) g.0)
]

-- ---- a byte of the blocks is that of one of them
module _ (P : Block → Type 0) where
  -- the block that has a byte
  pub record Has (p v : ℕ) (b : Block) : Type 0 where
    pub fact : P b
    pub here : p / 4096 ≡ b.0
    pub byte : v ≡ get_or b.1 (p % 4096) 0

  pub byte_from : (bs : List Block) (p v : ℕ) → AllByRecursion P bs → byte_of bs p ≡ Some v → (b : Block) × Has p v b
  byte_from [] p v h e = absurd (cc)
  byte_from (b ∷ bs) p v h e = by (byte_from bs p v h.1) (byte_of bs p) refl e
    where
      at : byte_at b p ≡ Some v → (b : Block) × Has p v b
      at f = elim (cases_eq (p / 4096) b.0) [
        | inl same ↦ let g : Some (get_or b.1 (p % 4096) 0) ≡ Some v = sym (byte_here b p same) ∙ f in (b, record { fact = h.0; here = same; byte = cc })
        | inr ne ↦ let g : ◌≡◌ {A = Option ℕ} None (Some v) = sym (byte_other b p ne) ∙ f in absurd (cc)
      ]

      by : (byte_of bs p ≡ Some v → (b : Block) × Has p v b) → (o : Option ℕ) → byte_of bs p ≡ o → first_of o (byte_at b p) ≡ Some v → (b : Block) × Has p v b
      by more (Some w) is f = more (is ∙ f)
      by more None is f = at f

pub in_block : (bs : List Block) (p : ℕ) → IsInBlock bs p → IsSome (byte_of bs p)
in_block [] p h = absurd h
in_block (b ∷ bs) p h = by (in_block bs p) (byte_of bs p) refl h
  where
    by : (IsInBlock bs p → IsSome (byte_of bs p)) → (o : Option ℕ) → byte_of bs p ≡ o → (p / 4096 ≡ b.0) ⊎ IsInBlock bs p → IsSome (first_of o (byte_at b p))
    by more (Some v) is h = refl
    by more None is (inl e) = ap is_some (byte_here b p e)
    by more None is (inr h) = absurd (cc (more h, is))

pub block_in : (bs : List Block) (p v : ℕ) → byte_of bs p ≡ Some v → IsInBlock bs p
block_in [] p v e = absurd (cc)
block_in (b ∷ bs) p v e = by (block_in bs p v) (byte_of bs p) refl e
  where
    at : byte_at b p ≡ Some v → (p / 4096 ≡ b.0) ⊎ IsInBlock bs p
    at f = elim (cases_eq (p / 4096) b.0) [
      | inl same ↦ inl same
      | inr ne ↦ let g : ◌≡◌ {A = Option ℕ} None (Some v) = sym (byte_other b p ne) ∙ f in absurd (cc)
    ]

    by : (byte_of bs p ≡ Some v → IsInBlock bs p) → (o : Option ℕ) → byte_of bs p ≡ o → first_of o (byte_at b p) ≡ Some v → (p / 4096 ≡ b.0) ⊎ IsInBlock bs p
    by more (Some w) is f = inr (more (is ∙ f))
    by more None is f = at f

-- ---- blocks whose numbers rise
-- a block of which all bytes are those of the list
record Stays (size : ℕ) (bs : List Block) (b : Block) : Type 0 where
  begins : 4096 * b.0 < size
  length : length b.1 ≡ min 4096 (size - 4096 * b.0)
  bytes : (p : ℕ) → p / 4096 ≡ b.0 → byte_of bs p ≡ Some (get_or b.1 (p % 4096) 0)

below_none : (size least : ℕ) (bs : List Block) → AreInTurn (IsBlock size) after_block least bs → (p : ℕ) → p / 4096 < least → byte_of bs p ≡ None
below_none size least [] t p h = refl
below_none size least (b ∷ bs) t p h =
    let from = t.0.from in
    let lower : p / 4096 < b.0 = omega (arith, from, h) in
    let next : p / 4096 < b.0 + 1 = omega (arith, lower) in
    ap (λ o. first_of o (byte_at b p)) (below_none size (b.0 + 1) bs t.1 p next) ∙ byte_other b p (λ e. absurd (omega (arith, e, lower)))

stay : (size least : ℕ) (bs : List Block) → AreInTurn (IsBlock size) after_block least bs → AllByRecursion (Stays size bs) bs
stay size least [] t = tt
stay size least (b ∷ bs) t = (
  record {
    begins = t.0.begins;
    length = t.0.length;
    bytes = λ p e. ap (λ o. first_of o (byte_at b p)) (below_none size (b.0 + 1) bs t.1 p (omega (arith, e))) ∙ byte_here b p e;
  },
  all_of (λ x s. record { begins = s.begins; length = s.length; bytes = λ p e. ap (λ o. first_of o (byte_at b p)) (s.bytes p e) }) bs (stay size (b.0 + 1) bs t.1),
)

-- ---- which data agrees
length-part : (xs : List ℕ) (at n : ℕ) → length (part xs at n) ≡ min n (length xs - at)
length-part xs at n = length-take n (drop at xs) ∙ ap (min n) (length-drop at xs)

part_read : (xs : List ℕ) (at n k : ℕ) → k < n → get_or (part xs at n) k 0 ≡ get_or xs (at + k) 0
part_read xs at n k h = get_or-take n (drop at xs) k 0 h ∙ get_or-drop at xs k 0

or_zero_some : (o : Option ℕ) (z : Bool) (v : ℕ) → o ≡ Some v → or_zero o z ≡ Some v
or_zero_some o z v e = ap (λ x. or_zero x z) e

module _ (size : ℕ) (bs : List Block) (d : KnownData) (t : AreInTurn (IsBlock size) after_block 0 bs) (is : IsDataOf size bs d) where
  pub blocks_agree : (all : List ℕ) → length all ≡ size → HasBlocks bs all → Agrees d all
  blocks_agree all len has = record { length = len ∙ sym is.size; each = λ p v lt e. by p v lt (byte_of bs p) refl (sym (is.each p) ∙ e) }
    where
      from_block : (p v : ℕ) (b : Block) → part all (4096 * b.0) 4096 ≡ b.1 → p / 4096 ≡ b.0 → v ≡ get_or b.1 (p % 4096) 0 → get_or all p 0 ≡ v
      from_block p v b same here byte =
          let k : 4096 * b.0 + p % 4096 ≡ p = omega (arith, here) in
          let within : p % 4096 < 4096 = omega arith in
          sym (ap (λ i. get_or all i 0) k) ∙ sym (part_read all (4096 * b.0) 4096 (p % 4096) within) ∙ ap (λ l. get_or l (p % 4096) 0) same ∙ sym byte

      by : (p v : ℕ) → p < d.size → (o : Option ℕ) → byte_of bs p ≡ o → or_zero o (nat_le (blocks_of size) (p / 4096)) ≡ Some v → get_or all p 0 ≡ v
      by p v lt (Some w) o e =
          let found = byte_from (λ b. part all (4096 * b.0) 4096 ≡ b.1) bs p v has (o ∙ e) in
          from_block p v found.0 found.1.fact found.1.here found.1.byte
      by p v lt None o e = elim (leb_tells (blocks_of size) (p / 4096)) [
        | inl past ↦ let h = past.1 in let s = is.size in absurd (omega (arith, h, lt, s))
        | inr g ↦ let f : ◌≡◌ {A = Option ℕ} None (Some v) = sym (ap (or_zero None) g.0) ∙ e in absurd (cc)
      ]

  pub agree_blocks : (all : List ℕ) → Agrees d all → HasBlocks bs all
  agree_blocks all a = all_of same bs (stay size 0 bs t)
    where
      same : (b : Block) → Stays size bs b → part all (4096 * b.0) 4096 ≡ b.1
      same b s =
          let len : length all ≡ size = a.length ∙ is.size in
          let begins = s.begins in
          let long = s.length in
          ext_get_or 0 (part all (4096 * b.0) 4096) b.1 (length-part all (4096 * b.0) 4096 ∙ ap (λ n. min 4096 (n - 4096 * b.0)) len ∙ sym long)
          (λ k h.
          let cut = length-part all (4096 * b.0) 4096 in
          let lt : k < 4096 = omega (arith, h, cut) in
          let low : 4096 * b.0 + k < d.size = omega (arith, h, cut, len, is.size) in
          let here : (4096 * b.0 + k) / 4096 ≡ b.0 = omega (arith, lt) in
          let rest : (4096 * b.0 + k) % 4096 ≡ k = omega (arith, lt) in
          part_read all (4096 * b.0) 4096 k lt
          ∙ a.each (4096 * b.0 + k) (get_or b.1 k 0) low
          (is.each (4096 * b.0 + k) ∙ or_zero_some (byte_of bs (4096 * b.0 + k)) _ (get_or b.1 k 0) (s.bytes (4096 * b.0 + k) here ∙ ap (λ i. Some (get_or b.1 i 0)) rest)))

  pub known_blocks : (p : ℕ) → IsSome (known d p) ↔ (IsInBlock bs p ⊎ (blocks_of size ≤ p / 4096))
  known_blocks p = (λ h. to (byte_of bs p) refl (sym (ap is_some (is.each p)) ∙ h), λ h. ap is_some (is.each p) ∙ from (byte_of bs p) refl h)
    where
      to : (o : Option ℕ) → byte_of bs p ≡ o → IsSome (or_zero o (nat_le (blocks_of size) (p / 4096))) → IsInBlock bs p ⊎ (blocks_of size ≤ p / 4096)
      to (Some v) e h = inl (block_in bs p v e)
      to None e h = elim (leb_tells (blocks_of size) (p / 4096)) [
        | inl past ↦ inr past.1
        | inr g ↦ let f : IsSome (or_zero None false) = subst (λ z. IsSome (or_zero None z)) g.0 h in absurd (cc f)
      ]

      from : (o : Option ℕ) → byte_of bs p ≡ o → IsInBlock bs p ⊎ (blocks_of size ≤ p / 4096) → IsSome (or_zero o (nat_le (blocks_of size) (p / 4096)))
      from (Some v) e h = refl
      from None e (inl i) = absurd (cc (in_block bs p i, e))
      from None e (inr past) = elim (leb_tells (blocks_of size) (p / 4096)) [
        | inl t ↦ ap (λ z. is_some (or_zero None z)) t.0
        | inr g ↦ let h = g.1 in absurd (omega (arith, past, h))
      ]

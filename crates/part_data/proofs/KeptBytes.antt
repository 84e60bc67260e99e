-- What steps on blocks do to the bytes that are kept, and to those that are known.
use Rattle.std.proofs.Common.{◌≡◌, ℕ, ◌+◌, ◌-◌, ◌*◌, ◌/◌, ◌%◌, ◌<◌, ◌≤◌, min, Bool, true, false, List, [], Option, Some, None, IsSome, length, get_or, refl, ap, sym, ◌∙◌, inl, inr, arith}
use Rattle.std.proofs.lemmas.Bool.{cases_eq}
use Rattle.std.proofs.lemmas.Bool.Decides.{leb_tells}
use Rattle.std.specs.Prelude.{nat_le}
use Rattle.std.specs.Option.{is_some}
use Rattle.part_data.specs.Known.{KeptBlocks, block_at, blocks_of, byte_in, kept, known_by, or_zero}
use Rattle.part_data.specs.Changes.{made, IsSame, IsWritten, IsLearned, IsCut}
use Rattle.part_data.specs.inner.Kept.{padded, IsCleared}
use Rattle.part_data.proofs.Positions.{padded_read}

-- ---- one block
pub kept_here : (blocks : KeptBlocks) (p n : ℕ) (o : Option (List ℕ)) → p / 4096 ≡ n → block_at blocks n ≡ o → kept blocks p ≡ byte_in o (p % 4096)
kept_here blocks p n o e h = ap (λ k. byte_in (block_at blocks k) (p % 4096)) e ∙ ap (λ b. byte_in b (p % 4096)) h

pub kept_same : (old new : KeptBlocks) (p : ℕ) → block_at new (p / 4096) ≡ block_at old (p / 4096) → kept new p ≡ kept old p
kept_same old new p h = ap (λ b. byte_in b (p % 4096)) h

pub written_from_same : (f g h : ℕ → Option ℕ) (at : ℕ) (text : List ℕ) → IsSame f g → IsWritten g h at text → IsWritten f h at text
written_from_same f g h at text same w = record {
  met = λ p from to. w.met p from to ∙ ap (made (get_or text (p - at) 0)) (same p);
  before = λ p lt. w.before p lt ∙ same p;
  after = λ p past. w.after p past ∙ same p;
}

-- ---- from kept bytes to known ones
made_known : (v : ℕ) (o : Option ℕ) (b : Bool) → (b ≡ true → IsSome o) → or_zero (made v o) b ≡ made v (or_zero o b)
made_known v (Some w) b h = refl
made_known v None true h = absurd (cc (h refl))
made_known v None false h = refl

zero_known : (o : Option ℕ) (b : Bool) → or_zero (made 0 o) b ≡ made 0 (or_zero o b)
zero_known (Some w) b = refl
zero_known None true = refl
zero_known None false = refl

past_low : (low b : ℕ) → low ≤ b → nat_le low b ≡ true
past_low low b h = elim (leb_tells low b) [ inl t ↦ t.0 | inr f ↦ absurd (omega (arith, f.1, h)) ]

below_low : (low b : ℕ) → nat_le low b ≡ true → low ≤ b
below_low low b h = elim (leb_tells low b) [ inl t ↦ t.1 | inr f ↦ absurd (let e : true ≡ false = sym h ∙ f.0 in cc) ]

pub written_known : (low : ℕ) (old new : KeptBlocks) (at : ℕ) (text : List ℕ) → IsWritten (kept old) (kept new) at text → ((n : ℕ) → low ≤ n → at / 4096 ≤ n → n * 4096 < at + length text → IsSome (block_at old n)) → IsWritten (known_by low old) (known_by low new) at text
written_known low old new at text w full = record {
  met = λ p from to.
      let b = nat_le low (p / 4096) in
      let there : b ≡ true → IsSome (kept old p) = λ h. is_there (block_at old (p / 4096)) (p % 4096) (full (p / 4096) (below_low low (p / 4096) h) (omega (arith, from)) (omega (arith, to))) in
      ap (λ o. or_zero o b) (w.met p from to) ∙ made_known (get_or text (p - at) 0) (kept old p) b there;
  before = λ p lt. ap (λ o. or_zero o (nat_le low (p / 4096))) (w.before p lt);
  after = λ p past. ap (λ o. or_zero o (nat_le low (p / 4096))) (w.after p past);
}
  where
    is_there : (o : Option (List ℕ)) (k : ℕ) → IsSome o → IsSome (byte_in o k)
    is_there (Some x) k h = refl
    is_there None k h = absurd (cc h)

-- a block of zeros is kept from `low` on, where none was
pub filled_known : (low n : ℕ) (old new : KeptBlocks) → low ≤ n → block_at old n ≡ None → block_at new n ≡ Some (padded []) → ((q : ℕ) → (q ≡ n → ⊥) → block_at new q ≡ block_at old q) → IsSame (known_by low old) (known_by low new)
filled_known low n old new past was is others = λ p. elim (cases_eq (p / 4096) n) [
  | inl e ↦
      let b : nat_le low (p / 4096) ≡ true = past_low low (p / 4096) (omega (arith, e, past)) in
      ap (λ o. or_zero o (nat_le low (p / 4096))) (kept_here new p n (Some (padded [])) e is ∙ ap Some (padded_read [] 4096 (p % 4096)))
      ∙ sym (ap (λ o. or_zero o (nat_le low (p / 4096))) (kept_here old p n None e was) ∙ ap (or_zero None) b)
  | inr ne ↦ ap (λ o. or_zero o (nat_le low (p / 4096))) (kept_same old new p (others (p / 4096) ne))
]

none_from : (o : Option (List ℕ)) → is_some o ≡ false → o ≡ None
none_from None h = refl
none_from (Some x) h = absurd (cc h)

-- the same, where a look-up found none
pub fills_known : (low n : ℕ) (old new : KeptBlocks) → low ≤ n → is_some (block_at old n) ≡ false → block_at new n ≡ Some (padded []) → ((q : ℕ) → (q ≡ n → ⊥) → block_at new q ≡ block_at old q) → IsSame (known_by low old) (known_by low new)
fills_known low n old new past missing is others = filled_known low n old new past (none_from (block_at old n) missing) is others

-- all blocks of a range are kept, one more than before
pub fills_more : (first n : ℕ) (old new : KeptBlocks) (o : List ℕ) → block_at new n ≡ Some o → ((q : ℕ) → (q ≡ n → ⊥) → block_at new q ≡ block_at old q) → ((q : ℕ) → first ≤ q → q < n → IsSome (block_at old q)) → (q : ℕ) → first ≤ q → q < n + 1 → IsSome (block_at new q)
fills_more first n old new o is others all q from to = elim (cases_eq q n) [
  | inl e ↦ ap (λ k. is_some (block_at new k)) e ∙ ap is_some is
  | inr ne ↦ ap is_some (others q ne) ∙ all q from (omega (arith, to, ne))
]

-- the bytes of a block are kept
pub learned_known : (low n : ℕ) (bytes : List ℕ) (old new : KeptBlocks) → block_at new n ≡ Some (padded bytes) → ((q : ℕ) → (q ≡ n → ⊥) → block_at new q ≡ block_at old q) → IsLearned (known_by low old) (known_by low new) n bytes
learned_known low n bytes old new is others = record {
  here = λ p e.
      ap (λ o. or_zero o (nat_le low (p / 4096))) (kept_here new p n (Some (padded bytes)) e is ∙ ap Some (padded_read bytes (4096 - length bytes) (p % 4096)));
  others = λ p ne. ap (λ o. or_zero o (nat_le low (p / 4096))) (kept_same old new p (others (p / 4096) ne));
}

-- zeros from a length on in its block, and no block past it
module _ (low low' end len : ℕ) (old mid new : KeptBlocks) (lower : low' ≡ min low end) (ends : end ≡ blocks_of len) (cleared : IsCleared (kept old) (kept mid) len) (below : (q : ℕ) → q < end → block_at new q ≡ block_at mid q) (from : (q : ℕ) → end ≤ q → block_at new q ≡ None) where
  low_same : (b : ℕ) → b < end → nat_le low' b ≡ nat_le low b
  low_same b h = elim (leb_tells low b) [
    | inl t ↦ past_low low' b (omega (arith, t.1, lower)) ∙ sym t.0
    | inr f ↦ elim (leb_tells low' b) [ inl t ↦ absurd (omega (arith, t.1, f.1, h, lower)) | inr g ↦ g.0 ∙ sym f.0 ]
  ]

  pub cut_known : IsCut (known_by low old) (known_by low' new) len
  cut_known = record {
    before = λ p lt.
        let b : p / 4096 < end = omega (arith, lt, ends) in
        ap (or_zero (kept new p)) (low_same (p / 4096) b)
        ∙ ap (λ o. or_zero o (nat_le low (p / 4096))) (kept_same mid new p (below (p / 4096) b) ∙ cleared.before p lt);
    last = λ p ge lt.
        let b : p / 4096 < end = omega (arith, lt, ends) in
        ap (or_zero (kept new p)) (low_same (p / 4096) b)
        ∙ ap (λ o. or_zero o (nat_le low (p / 4096))) (kept_same mid new p (below (p / 4096) b) ∙ cleared.tail p ge (omega (arith, ge, lt)))
        ∙ zero_known (kept old p) (nat_le low (p / 4096));
    past = λ p ge.
        let e : end ≤ p / 4096 = omega (arith, ge, ends) in
        ap (or_zero (kept new p)) (past_low low' (p / 4096) (omega (arith, e, lower)))
        ∙ ap (λ o. or_zero o true) (kept_here new p (p / 4096) None refl (from (p / 4096) e));
  }

-- the block after a range is kept too
pub stays_more : (first n : ℕ) (blocks : KeptBlocks) → is_some (block_at blocks n) ≡ true → ((q : ℕ) → first ≤ q → q < n → IsSome (block_at blocks q)) → (q : ℕ) → first ≤ q → q < n + 1 → IsSome (block_at blocks q)
stays_more first n blocks here all q from to = elim (cases_eq q n) [
  | inl e ↦ ap (λ k. is_some (block_at blocks k)) e ∙ here
  | inr ne ↦ all q from (omega (arith, to, ne))
]

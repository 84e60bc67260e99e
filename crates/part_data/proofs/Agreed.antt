-- Data that agrees with what is known still does after a change, and known bytes stay sound.
use Rattle.std.specs.Prelude.{nat_le, Bool, true, false, [], ◌∷◌, ◌==◌}
use Rattle.std.proofs.Common.{◌≡◌, ℕ, ◌+◌, ◌-◌, ◌*◌, ◌/◌, ◌%◌, ◌<◌, ◌≤◌, min, max, List, Option, Some, None, IsSome, length, get_or, refl, ap, sym, ◌∙◌, inl, inr, arith}
use Rattle.std.proofs.lemmas.Bool.{cases_lt, cases_eq}
use Rattle.std.proofs.lemmas.List.{get_or_past, ext_get_or}
use Rattle.std.specs.Option.{unwrap_or}
use Rattle.object_store.specs.Object.{part, spliced, resized}
use Rattle.part_data.specs.Known.{KnownData, Agrees, AreKnown, known, kept, or_zero, block_of}
use Rattle.part_data.specs.Changes.{made, IsSame, IsWritten, IsLearned, IsCut}
use Rattle.part_data.specs.inner.Kept.{AreSound, AreCopied}
use Rattle.part_data.proofs.Positions.{length-spliced, spliced_before, spliced_met, spliced_after, length-resized, resized_read, length-part, part_read}

made_some : (v w : ℕ) (o : Option ℕ) → made v o ≡ Some w → v ≡ w
made_some v w (Some x) h = cc h
made_some v w None h = absurd (cc h)

pub some_bytes : (text : List ℕ) → (length text == 0) ≡ false → 1 ≤ length text
some_bytes [] e = absurd (cc)
some_bytes (x ∷ xs) e = omega arith

-- each known byte is the data's, past the end too
pub agrees_all : (d : KnownData) (all : List ℕ) → AreSound d.size (known d) → Agrees d all → (p v : ℕ) → known d p ≡ Some v → get_or all p 0 ≡ v
agrees_all d all sound a p v h =
    elim (cases_lt p d.size) [
      | inl lt ↦ a.each p v lt h
      | inr ge ↦ get_or_past all p 0 (omega (arith, a.length, ge)) ∙ sym (sound.zeros p v ge h)
    ]

-- ---- a write
module _ (d d' : KnownData) (at : ℕ) (text : List ℕ) (some : 1 ≤ length text) (size : d'.size ≡ max d.size (at + length text)) (w : IsWritten (known d) (known d') at text) (sound : AreSound d.size (known d)) where
  pub written_agrees : (all : List ℕ) → Agrees d all → Agrees d' (spliced all at text)
  written_agrees all a = record {
    length = length-spliced all at text some ∙ ap (λ n. max n (at + length text)) a.length ∙ sym size;
    each = λ p v lt h. elim (cases_lt p at) [
      | inl before ↦ spliced_before all at text some p before ∙ agrees_all d all sound a p v (sym (w.before p before) ∙ h)
      | inr from ↦ elim (cases_lt p (at + length text)) [
        | inl to ↦ spliced_met all at text some p from to ∙ made_some (get_or text (p - at) 0) v (known d p) (sym (w.met p from to) ∙ h)
        | inr past ↦ spliced_after all at text some p past ∙ agrees_all d all sound a p v (sym (w.after p past) ∙ h)
      ]
    ];
  }

-- ---- another length
module _ (d d' : KnownData) (len : ℕ) (size : d'.size ≡ len) (sound : AreSound d.size (known d)) where
  pub cut_agrees : IsCut (known d) (known d') len → (all : List ℕ) → Agrees d all → Agrees d' (resized all len)
  cut_agrees c all a = record {
    length = length-resized all len ∙ sym size;
    each = λ p v lt h.
        let below : p < len = omega (arith, lt, size) in
        resized_read all len p below ∙ agrees_all d all sound a p v (sym (c.before p below) ∙ h);
  }

  pub extended_agrees : IsSame (known d) (known d') → (all : List ℕ) → Agrees d all → Agrees d' (resized all len)
  extended_agrees s all a = record {
    length = length-resized all len ∙ sym size;
    each = λ p v lt h. resized_read all len p (omega (arith, lt, size)) ∙ agrees_all d all sound a p v (sym (s p) ∙ h);
  }

-- ---- the bytes of a block
module _ (d d' : KnownData) (n : ℕ) (bytes : List ℕ) (size : d'.size ≡ d.size) (learned : IsLearned (known d) (known d') n bytes) where
  some_same : (v w : ℕ) → Some v ≡ Some w → v ≡ w
  some_same v w h = cc h

  pub learned_agrees : (all : List ℕ) → Agrees d all → part all (n * 4096) 4096 ≡ bytes → Agrees d' all
  learned_agrees all a is = record {
    length = a.length ∙ sym size;
    each = λ p v lt h. elim (cases_eq (p / 4096) n) [
      | inl e ↦
          let k : n * 4096 + p % 4096 ≡ p = omega (arith, e) in
          let within : p % 4096 < 4096 = omega arith in
          sym (ap (λ i. get_or all i 0) k)
          ∙ sym (part_read all (n * 4096) 4096 (p % 4096) within)
          ∙ ap (λ l. get_or l (p % 4096) 0) is
          ∙ some_same _ v (sym (learned.here p e) ∙ h)
      | inr ne ↦ a.each p v (omega (arith, lt, size)) (sym (learned.others p ne) ∙ h)
    ];
  }

-- ---- a read
known_is : (o k : Option ℕ) (b : Bool) → IsSome (or_zero k b) → or_zero k b ≡ Some (unwrap_or k 0)
known_is o (Some v) b h = refl
known_is o None true h = refl
known_is o None false h = absurd (cc h)

-- kept bytes of a range that is known, and zeros where none is kept, are the data's
pub copied_agrees : (d : KnownData) (all out : List ℕ) (at n : ℕ) → AreSound d.size (known d) → Agrees d all → AreKnown d at n → length out ≡ min n (d.size - at) → AreCopied (kept d.blocks) at out → out ≡ part all at n
copied_agrees d all out at n sound a are len copied =
    ext_get_or 0 out (part all at n) (len ∙ sym (length-part all at n ∙ ap (λ m. min n (m - at)) a.length))
    (λ i h.
    copied i h
    ∙ sym (agrees_all d all sound a (at + i) (unwrap_or (kept d.blocks (at + i)) 0)
    (known_is None (kept d.blocks (at + i)) (nat_le d.low (block_of (at + i))) (are (at + i) (omega arith) (omega (arith, h, len)))))
    ∙ sym (part_read all at n i (omega (arith, h, len))))

-- The frames that are kept for heads: each is found at its head's slot.
use Rattle.std.proofs.Common.{◌≡◌, ◌≢◌, ℕ, zero, suc, ◌+◌, ◌<◌, List, [], ◌∷◌, Option, Some, None, Bool, true, false, refl, ap, ◌∙◌, sym, subst, arith, length, get_or, ⊎_elim}
use Rattle.std.specs.Prelude.{slice_get, slice_set, is_some, ◌==◌}
use Rattle.std.specs.List.{position_or_len}
use Rattle.std.proofs.lemmas.Bool.{cases_eq, cases_lt, eqb-true, cond-true, cond-false, false≢true, lt-ltb}
use Rattle.std.proofs.lemmas.List.{length-set}
use Rattle.std.proofs.lemmas.List.Quantifiers.{position-Some}
use Rattle.bpf_decode.specs.declared.insn.Insn.{Insn}
use Rattle.bpf_machine.specs.State.{◌>>=◌}
use Rattle.bpf_machine.specs.Typed.{fetch}
use Rattle.abstract_regs.specs.Frame.{PlainFrame}
use Rattle.verifier.specs.Rules.{begins_at}
use Rattle.verifier.specs.Verdict.{Table, frame_at}
use Rattle.loop_heads.specs.declared.place.HeadPlace.{HeadPlace}
use Rattle.loop_heads.specs.Loops.{PlainHead, head_at}
use Rattle.loop_verdict.specs.declared.heads.HeadFrames.{HeadFrames}
use Rattle.loop_verdict.specs.inner.Heads.{head_slots, place_of, frame_of, with_frame}
use Rattle.loop_verdict.specs.inner.Pass.{kept_for, HasEntered}

pub get_other : {A : Type 0} (xs : List A) (q p : ℕ) (v : A) → q ≢ p → slice_get (slice_set xs q v) p ≡ slice_get xs p
get_other [] q p v n = refl
get_other (x ∷ xs) zero zero v n = absurd (n refl)
get_other (x ∷ xs) zero (suc p) v n = refl
get_other (x ∷ xs) (suc q) zero v n = refl
get_other (x ∷ xs) (suc q) (suc p) v n = get_other xs q p v (λ e. n (ap suc e))

pub get_same : {A : Type 0} (xs : List A) (q : ℕ) (v : A) → q < length xs → slice_get (slice_set xs q v) q ≡ Some v
get_same [] q v h = absurd (omega arith)
get_same (x ∷ xs) zero v h = refl
get_same (x ∷ xs) (suc q) v h = get_same xs q v (omega arith)

-- a head is among the slots of heads
among : (heads : List PlainHead) (q : ℕ) → is_some (head_at heads q) ≡ true → position_or_len (λ s. s == q) (head_slots heads) < length (head_slots heads)
among [] q e = absurd (false≢true e)
among (h ∷ heads) q e = by (h.slot == q) refl (λ is. among heads q (sym (ap is_some (cond-false (h.slot == q) (Some h.places) (head_at heads q) is)) ∙ e))
  where
    by : (b : Bool) → (h.slot == q) ≡ b → ((h.slot == q) ≡ false → position_or_len (λ s. s == q) (head_slots heads) < length (head_slots heads)) → position_or_len (λ s. s == q) (head_slots (h ∷ heads)) < length (head_slots (h ∷ heads))
    by true is later = rw is (omega arith)
    by false is later = let before = later is in rw is (omega arith)

-- so it has a place
pub has_place : (heads : List PlainHead) (q : ℕ) → is_some (head_at heads q) ≡ true → (k : ℕ) × (place_of (head_slots heads) q ≡ Some k)
has_place heads q e =
    (position_or_len (λ s. s == q) (head_slots heads), cond-true _ _ _ (lt-ltb _ _ (among heads q e)))

-- slots with one place are one
pub one_place : (slots : List ℕ) (q q' k : ℕ) → place_of slots q ≡ Some k → place_of slots q' ≡ Some k → q ≡ q'
one_place slots q q' k h h' =
    let a = position-Some (λ s. s == q) slots k 0 h in
    let b = position-Some (λ s. s == q') slots k 0 h' in
    sym (eqb-true (get_or slots k 0) q a.1) ∙ eqb-true (get_or slots k 0) q' b.1

pub place_inside : (slots : List ℕ) (q k : ℕ) → place_of slots q ≡ Some k → k < length slots
place_inside slots q k h = let a = position-Some (λ s. s == q) slots k 0 h in a.0

-- the frame that is kept for a slot is found there
pub kept_same : (slots : List ℕ) (frames : Table) (p k : ℕ) (o : Option PlainFrame) → length frames ≡ length slots → place_of slots p ≡ Some k → frame_of slots (with_frame frames o (place_of slots p)) p ≡ o
kept_same slots frames p k o long at =
    let inside : k < length frames = omega (arith, place_inside slots p k at, long) in
    ap (λ place. frame_of slots (with_frame frames o place) p) at
    ∙ ap (λ place. place >>= frame_at (slice_set frames k o)) at
    ∙ ap (λ x. x >>= λ f. f) (get_same frames k o inside)

other_place : (slots : List ℕ) (frames : Table) (p q k : ℕ) (o : Option PlainFrame) → p ≢ q → place_of slots q ≡ Some k → (place : Option ℕ) → place_of slots p ≡ place → frame_at (with_frame frames o place) k ≡ frame_at frames k
other_place slots frames p q k o ne at None is = refl
other_place slots frames p q k o ne at (Some j) is =
    ap (λ x. x >>= λ f. f) (get_other frames j k o (λ e. ne (one_place slots p q k (is ∙ ap Some e) at)))

-- and no other one changes
pub kept_other : (slots : List ℕ) (frames : Table) (p q k : ℕ) (o : Option PlainFrame) → p ≢ q → place_of slots q ≡ Some k → frame_of slots (with_frame frames o (place_of slots p)) q ≡ frame_of slots frames q
kept_other slots frames p q k o ne at =
    ap (λ place. place >>= frame_at (with_frame frames o (place_of slots p))) at
    ∙ other_place slots frames p q k o ne at (place_of slots p) refl
    ∙ sym (ap (λ place. place >>= frame_at frames) at)

-- frames of heads below a slot at which an instruction begins, as a table has them
abbrev pub KeptBelow : List PlainHead → List (Option Insn) → HeadFrames → (ℕ → Option PlainFrame) → ℕ → Type 0
KeptBelow heads code kept frame n =
    (q : ℕ) → q < n → begins_at code q ≡ true → is_some (head_at heads q) ≡ true → kept_for kept q ≡ frame q

length-frames : (frames : Table) (o : Option PlainFrame) (place : Option ℕ) → length (with_frame frames o place) ≡ length frames
length-frames frames o None = refl
length-frames frames o (Some k) = length-set frames k o

-- what the frames of heads are between two slots
pub record Kept (heads : List PlainHead) (code : List (Option Insn)) (kept : HeadFrames) (frame : ℕ → Option PlainFrame) (n : ℕ) : Type 0 where
  pub slots : kept.slots.items ≡ head_slots heads
  pub long : length kept.frames.items ≡ length kept.slots.items
  pub below : KeptBelow heads code kept frame n

module _ (heads : List PlainHead) (code : List (Option Insn)) (frame : ℕ → Option PlainFrame) (p : ℕ) (old new : HeadFrames) where
  entered_at : Kept heads code old frame p → (new.slots.items ≡ old.slots.items) → (new.frames.items ≡ with_frame old.frames.items (frame p) (place_of old.slots.items p)) → KeptBelow heads code new frame (p + 1)
  entered_at k slots frames q lt begins at =
      let place = has_place heads q at in
      let there : place_of old.slots.items q ≡ Some place.0 = ap (λ s. place_of s q) k.slots ∙ place.1 in
      ap (λ s. frame_of s new.frames.items q) slots ∙ ap (λ f. frame_of old.slots.items f q) frames
      ∙ ⊎_elim
      (λ (same : p ≡ q). subst (λ n. frame_of old.slots.items (with_frame old.frames.items (frame p) (place_of old.slots.items p)) n ≡ frame n) same
      (kept_same old.slots.items old.frames.items p place.0 (frame p) k.long (subst (λ n. place_of old.slots.items n ≡ Some place.0) (sym same) there)))
      (λ (ne : p ≡ q → ⊥). kept_other old.slots.items old.frames.items p q place.0 (frame p) ne there ∙ k.below q (not_last q ne lt) begins at) (cases_eq p q)
    where
      not_last : (q : ℕ) → (p ≡ q → ⊥) → q < p + 1 → q < p
      not_last q ne lt = ⊎_elim (λ less. less) (λ le. absurd (ne (omega arith))) (cases_lt q p)

  kept_by : Kept heads code old frame p → (o : Option (List HeadPlace)) → head_at heads p ≡ o → HasEntered o p old (frame p) new → Kept heads code new frame (p + 1)
  kept_by k None none e = subst (λ h. Kept heads code h frame (p + 1)) (sym e) (record {
    slots = k.slots;
    long = k.long;
    below = λ q lt begins at. ⊎_elim (λ less. k.below q less begins at)
        (λ le. let same : q ≡ p = omega arith in absurd (false≢true (sym (ap is_some (ap (head_at heads) same ∙ none)) ∙ at))) (cases_lt q p);
  })
  kept_by k (Some places) is e = record {
    slots = e.0 ∙ k.slots;
    long = ap length e.1 ∙ length-frames old.frames.items (frame p) (place_of old.slots.items p) ∙ k.long ∙ sym (ap length e.0);
    below = entered_at k e.0 e.1;
  }

  -- once the pass has entered slot p, that slot's frame is among them
  pub enters : Kept heads code old frame p → HasEntered (head_at heads p) p old (frame p) new → Kept heads code new frame (p + 1)
  enters k e = kept_by k (head_at heads p) refl e

  -- where nothing begins, nothing is kept
  pub passes_over : fetch code p ≡ None → Kept heads code old frame p → Kept heads code old frame (p + 1)
  passes_over none k = record {
    slots = k.slots;
    long = k.long;
    below = λ q lt begins at. ⊎_elim (λ less. k.below q less begins at)
        (λ le. let same : q ≡ p = omega arith in absurd (false≢true (sym (ap is_some (ap (fetch code) same ∙ none)) ∙ begins))) (cases_lt q p);
  }

-- What a verdict by heads says of each slot, and how a pass finds it.
use Rattle.std.proofs.Common.{◌≡◌, ℕ, zero, suc, ◌+◌, ◌≤◌, List, [], ◌∷◌, Option, Some, None, Bool, true, false, refl, ap, ◌∙◌, sym, subst, arith, drop, inl, inr, ⊎_elim}
use Rattle.std.specs.Prelude.{slice_get, nat_le, ◌&&◌, ◌||◌, not, if◌then◌else◌}
use Rattle.std.proofs.lemmas.Bool.{and_parts, le-leb, leb-true, false≢true}
use Rattle.std.proofs.lemmas.Option.{none-some, same_Some}
use Rattle.bpf_decode.specs.declared.insn.Insn.{Insn}
use Rattle.bpf_machine.specs.declared.caps.Caps.{Caps}
use Rattle.bpf_machine.specs.Typed.{fetch}
use Rattle.abstract_regs.specs.Frame.{PlainFrame}
use Rattle.abstract_regs.specs.Moves.{Among}
use Rattle.verifier.specs.declared.rule.Rule.{Rule}
use Rattle.verifier.specs.declared.rule.Rule.TheVariants.{Backward}
use Rattle.verifier.specs.Verdict.{Table, frame_at, or_else}
use Rattle.verifier.proofs.Tables.{drop_head}
use Rattle.loop_heads.specs.Loops.{PlainHead}
use Rattle.loop_tables.specs.Table.{edges_at, loop_table}
use Rattle.loop_tables.specs.Verdict.{is_kept, are_kept, back_rule, or_back, loop_rule, first_in_loops, loop_verdict}

none_left : (p : ℕ) (r : Option Rule) (later : Option (ℕ × Rule)) → or_else p r later ≡ None → (r ≡ None) × (later ≡ None)
none_left p None later h = (refl, h)
none_left p (Some rule) later h = absurd (none-some _ (sym h))

-- neither rule refuses
pub neither_rule : (a b : Option Rule) → or_back a b ≡ None → (a ≡ None) × (b ≡ None)
neither_rule None b h = (refl, h)
neither_rule (Some rule) b h = absurd (none-some rule (sym h))

module _ (caps : Caps) (heads : List PlainHead) (code : List (Option Insn)) (table : Table) where
  passes_from : (rest : List (Option Insn)) (p k : ℕ) (i : Insn) → first_in_loops caps heads code table p rest ≡ None → fetch rest k ≡ Some i → loop_rule caps heads code table (p + k) i ≡ None
  passes_from [] p k i h at = absurd (none-some i at)
  passes_from (None ∷ rest) p zero i h at = absurd (none-some i at)
  passes_from (Some j ∷ rest) p zero i h at =
      let l = none_left p (loop_rule caps heads code table p j) (first_in_loops caps heads code table (p + 1) rest) h in
      let same = same_Some j i at in
      let here : p ≡ p + zero = omega arith in
      subst (λ n. loop_rule caps heads code table n i ≡ None) here (subst (λ i. loop_rule caps heads code table p i ≡ None) same l.0)
  passes_from (None ∷ rest) p (suc k) i h at =
      let next : p + 1 + k ≡ p + suc k = omega arith in
      subst (λ n. loop_rule caps heads code table n i ≡ None) next (passes_from rest (p + 1) k i h at)
  passes_from (Some j ∷ rest) p (suc k) i h at =
      let l = none_left p (loop_rule caps heads code table p j) (first_in_loops caps heads code table (p + 1) rest) h in
      let next : p + 1 + k ≡ p + suc k = omega arith in
      subst (λ n. loop_rule caps heads code table n i ≡ None) next (passes_from rest (p + 1) k i l.1 at)

  -- the slots from p on, if nothing begins at p
  pub refused_over : (p : ℕ) → slice_get code p ≡ Some None → first_in_loops caps heads code table p (drop p code) ≡ first_in_loops caps heads code table (p + 1) (drop (p + 1) code)
  refused_over p at = ap (first_in_loops caps heads code table p) (drop_head code p None at)

  -- the slots from p on, if an instruction begins at p
  pub refused_at : (p : ℕ) (i : Insn) (r : Option Rule) → slice_get code p ≡ Some (Some i) → loop_rule caps heads code table p i ≡ r →
      first_in_loops caps heads code table p (drop p code) ≡ or_else p r (first_in_loops caps heads code table (p + 1) (drop (p + 1) code))
  refused_at p i r at is =
      ap (first_in_loops caps heads code table p) (drop_head code p (Some i) at)
      ∙ ap (λ r. or_else p r (first_in_loops caps heads code table (p + 1) (drop (p + 1) code))) is

-- no rule refuses what begins at a slot
pub passes : (caps : Caps) (heads : List PlainHead) (code : List (Option Insn)) (p : ℕ) (i : Insn) → loop_verdict caps heads code ≡ None → fetch code p ≡ Some i → loop_rule caps heads code (loop_table caps heads code) p i ≡ None
passes caps heads code p i h at =
    let same : 0 + p ≡ p = omega arith in
    subst (λ n. loop_rule caps heads code (loop_table caps heads code) n i ≡ None) same (passes_from caps heads code (loop_table caps heads code) code 0 p i h at)

-- ---- edges that go back

or_of : (a b : Bool) → (not a || b) ≡ true → a ≡ true → b ≡ true
or_of true b h e = h
or_of false b h e = absurd (false≢true e)

-- an edge that goes back is kept, if all are
pub kept_edge : (table : Table) (p q : ℕ) (g : PlainFrame) (edges : List (ℕ × PlainFrame)) → are_kept table p edges ≡ true → Among q g edges → q ≤ p → is_kept g (frame_at table q) ≡ true
kept_edge table p q g [] h e le = absurd e
kept_edge table p q g (edge ∷ edges) h e le =
    let both = and_parts (not (nat_le edge.0 p) || is_kept edge.1 (frame_at table edge.0)) (are_kept table p edges) h in
    ⊎_elim
    (λ (here : (q ≡ edge.0) × (g ≡ edge.1)).
    subst (λ k. is_kept k (frame_at table q) ≡ true) (sym here.1)
    (subst (λ n. is_kept edge.1 (frame_at table n) ≡ true) (sym here.0)
    (or_of (nat_le edge.0 p) (is_kept edge.1 (frame_at table edge.0)) both.0 (le-leb edge.0 p (omega (arith, le, here.0))))))
    (λ (later : Among q g edges). kept_edge table p q g edges both.1 later le) e

-- only the frames to which edges go back matter
pub are_kept_same : (t t' : Table) (p : ℕ) (edges : List (ℕ × PlainFrame)) → ((q : ℕ) (g : PlainFrame) → Among q g edges → q ≤ p → frame_at t q ≡ frame_at t' q) → are_kept t p edges ≡ are_kept t' p edges
are_kept_same t t' p [] h = refl
are_kept_same t t' p (edge ∷ edges) h =
    ap (λ b. b && are_kept t p edges) (one (nat_le edge.0 p) refl)
    ∙ ap (λ b. (not (nat_le edge.0 p) || is_kept edge.1 (frame_at t' edge.0)) && b) (are_kept_same t t' p edges (λ q g e le. h q g (inr e) le))
  where
    one : (b : Bool) → nat_le edge.0 p ≡ b → (not b || is_kept edge.1 (frame_at t edge.0)) ≡ (not b || is_kept edge.1 (frame_at t' edge.0))
    one true e = ap (is_kept edge.1) (h edge.0 edge.1 (inl (refl, refl)) (leb-true edge.0 p e))
    one false e = refl

tested : (b : Bool) → (if b then None else Some Backward) ≡ None → b ≡ true
tested true h = refl
tested false h = absurd (none-some Backward (sym h))

-- what goes back from a slot that isn't refused is kept
pub back_kept : (caps : Caps) (table : Table) (p : ℕ) (i : Insn) (f : PlainFrame) → back_rule caps table p i (Some f) ≡ None → are_kept table p (edges_at caps i p f) ≡ true
back_kept caps table p i f h = tested (are_kept table p (edges_at caps i p f)) h

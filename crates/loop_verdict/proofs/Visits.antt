-- The pass over the slots follows the table of a method with heads.
use Rattle.std.proofs.Common.{◌≡◌, ◌≢◌, ℕ, zero, suc, ◌+◌, ◌^◌, ◌<◌, ◌≤◌, List, [], ◌∷◌, Option, Some, None, Bool, true, false, refl, inl, inr, ap, ◌∙◌, sym, subst, arith, length, ⊎_elim}
use Rattle.std.specs.Prelude.{slice_set, replicate, ◌==◌, ◌&&◌, ◌||◌, not, nat_le}
use Rattle.std.proofs.lemmas.Bool.{cases_lt, ne_eqb, cond-false, leb-true}
use Rattle.std.proofs.lemmas.List.{length-set, length-replicate}
use Rattle.std.proofs.lemmas.Option.{none-some}
use Rattle.bpf_decode.specs.declared.insn.Insn.{Insn}
use Rattle.bpf_decode.specs.Instruction.{Fits}
use Rattle.bpf_decode.specs.declared.rule_set.RuleSet.TheVariants.{Three}
use Rattle.bpf_machine.specs.declared.caps.Caps.{Caps}
use Rattle.bpf_machine.specs.State.{◌>>=◌}
use Rattle.bpf_machine.specs.Typed.{fetch}
use Rattle.abstract_regs.specs.Frame.{PlainFrame}
use Rattle.abstract_regs.specs.Moves.{Among}
use Rattle.verifier.specs.declared.rule.Rule.{Rule}
use Rattle.verifier.specs.Frame.{entry}
use Rattle.verifier.specs.Verdict.{Table, frame_at, joined, met, along, start}
use Rattle.verifier.specs.inner.Kept.{unbox}
use Rattle.verifier.specs.inner.Pass.{fallen, IsSpaced}
use Rattle.loop_heads.specs.Loops.{PlainHead, head_at}
use Rattle.loop_tables.specs.Rules.{rule_below}
use Rattle.loop_tables.specs.Table.{edges_at, with_head, loop_table}
use Rattle.loop_tables.specs.Verdict.{is_kept, are_kept, back_rule, or_back, loop_rule}
use Rattle.loop_tables.proofs.Tables.{Brought, its_frame, brought_first, brought_over, brought_dead, brought_more}
use Rattle.loop_tables.proofs.Verdicts.{neither_rule}
use Rattle.loop_tables.proofs.Frames.{edge_begins}
use Rattle.loop_tables.proofs.Backs.{back_is_head}
use Rattle.loop_verdict.specs.declared.flows.Back.{Back}
use Rattle.loop_verdict.specs.declared.flows.Flows.{Flows}
use Rattle.loop_verdict.specs.declared.heads.HeadFrames.{HeadFrames}
use Rattle.loop_verdict.specs.declared.pass.HeadPass.{HeadPass}
use Rattle.loop_verdict.specs.inner.Heads.{head_slots}
use Rattle.loop_verdict.specs.inner.Pass.{kept_for, keeps, keeps_back, awaited, edges_if, HasEntered, HasLeft, HasVisited, found, back_of, FitsIf}
use Rattle.loop_verdict.proofs.Lookups.{Kept, enters, passes_over, get_other}

-- only the frames to which edges go back matter
keeps_same : (frame : ℕ → Option PlainFrame) (table : Table) (p : ℕ) (edges : List (ℕ × PlainFrame)) → ((q : ℕ) (g : PlainFrame) → Among q g edges → q ≤ p → frame q ≡ frame_at table q) → keeps frame p edges ≡ are_kept table p edges
keeps_same frame table p [] h = refl
keeps_same frame table p (edge ∷ edges) h =
    ap (λ b. b && keeps frame p edges) (one (nat_le edge.0 p) refl)
    ∙ ap (λ b. (not (nat_le edge.0 p) || is_kept edge.1 (frame_at table edge.0)) && b) (keeps_same frame table p edges (λ q g e le. h q g (inr e) le))
  where
    one : (b : Bool) → nat_le edge.0 p ≡ b → (not b || is_kept edge.1 (frame edge.0)) ≡ (not b || is_kept edge.1 (frame_at table edge.0))
    one true e = ap (is_kept edge.1) (h edge.0 edge.1 (inl (refl, refl)) (leb-true edge.0 p e))
    one false e = refl

elsewhere : (o : Option PlainFrame) (landing q : ℕ) (inflow : Option PlainFrame) → landing ≢ q → fallen o landing q inflow ≡ inflow
elsewhere None landing q inflow n = refl
elsewhere (Some g) landing q inflow n = cond-false (landing == q) (Some (joined inflow g)) inflow (ne_eqb landing q n)

same_rule : (r : Option Rule) (a b : Option Rule) → (r ≡ None → a ≡ b) → or_back r a ≡ or_back r b
same_rule None a b h = h refl
same_rule (Some rule) a b h = refl

-- What a visit did, by its steps: it arrived, entered, and left if no rule refuses.
pub visited : (caps : Caps) (heads : List PlainHead) (code : List (Option Insn)) (i : Insn) (p : ℕ) (old new : HeadPass) (arrived entered : Flows) (kept : HeadFrames) (refused r : Option Rule) (back : Option Back) →
    unbox arrived.current ≡ awaited old.flows p → arrived.pending ≡ slice_set old.flows.pending p None →
    unbox entered.current ≡ with_head (head_at heads p) (unbox arrived.current) → entered.pending ≡ arrived.pending → HasEntered (head_at heads p) p old.heads (unbox entered.current) kept → new.heads ≡ kept →
    FitsIf (unbox entered.current) → refused ≡ rule_below caps heads code p i (unbox entered.current) → r ≡ or_back refused (back_of (keeps_back (kept_for kept) back)) →
    (refused ≡ None → HasLeft caps (unbox entered.current) entered.pending i p new.flows back) → HasVisited caps heads code i p old new r
visited caps heads code i p old new arrived entered kept refused r back current pending frame pending_old enter stay fits rule is left =
    let its : unbox entered.current ≡ found heads old p = frame ∙ ap (with_head (head_at heads p)) current in
    let was : refused ≡ rule_below caps heads code p i (found heads old p) = rule ∙ ap (rule_below caps heads code p i) its in
    record {
      entered = kept;
      heads_are = subst (λ o. HasEntered (head_at heads p) p old.heads o kept) its enter;
      heads_stay = stay;
      back = back;
      rule = is ∙ ap (λ o. or_back o (back_of (keeps_back (kept_for kept) back))) was;
      left = λ clear. subst (λ t. HasLeft caps (found heads old p) t i p new.flows back) (pending_old ∙ pending)
          (subst (λ o. HasLeft caps o entered.pending i p new.flows back) its (left (was ∙ clear)));
      fits = subst FitsIf its fits;
    }

blank : (n q : ℕ) → frame_at (replicate n None) q ≡ None
blank zero q = refl
blank (suc n) zero = refl
blank (suc n) (suc q) = blank n q

module _ (caps : Caps) (heads : List PlainHead) (code : List (Option Insn)) where
  -- before slot p the pass has, of each slot to come, what the slots below p bring, and the frames of the heads below
  pub record Follows (p : ℕ) (pass : HeadPass) : Type 0 where
    pub size : length pass.flows.pending ≡ length code
    pub brought : Brought caps heads code p (awaited pass.flows)
    pub gap : (q : ℕ) → p ≤ q → q < pass.flows.landing → fetch code q ≡ None
    pub kept : Kept heads code pass.heads (frame_at (loop_table caps heads code)) p

  begins : (q : ℕ) → met 0 (entry Three caps) q None ≡ start Three caps q
  begins zero = refl
  begins (suc q) = cond-false (0 == suc q) (Some (entry Three caps)) None (ne_eqb 0 (suc q) (λ e. absurd (omega (arith, e))))

  pub follows_first : (pass : HeadPass) → pass.flows.pending ≡ replicate (length code) None → pass.heads.slots.items ≡ head_slots heads → length pass.heads.frames.items ≡ length pass.heads.slots.items → unbox pass.flows.current ≡ Some (entry Three caps) → pass.flows.landing ≡ 0 → Follows 0 pass
  follows_first pass pending slots long current landing = record {
    size = ap length pending ∙ length-replicate (length code) None;
    brought = brought_first caps heads code (awaited pass.flows) (λ q lt.
        ap (λ o. fallen o pass.flows.landing q (frame_at pass.flows.pending q)) current
        ∙ ap (λ n. met n (entry Three caps) q (frame_at pass.flows.pending q)) landing
        ∙ ap (met 0 (entry Three caps) q) (ap (λ t. frame_at t q) pending ∙ blank (length code) q)
        ∙ begins q);
    gap = λ q le lt. absurd (omega (arith, landing));
    kept = record { slots = slots; long = long; below = λ q lt begins at. absurd (omega (arith, lt)) };
  }

  -- past a slot at which nothing begins
  pub follows_over : (p : ℕ) (pass : HeadPass) → fetch code p ≡ None → Follows p pass → Follows (p + 1) pass
  follows_over p pass none f = record {
    size = f.size;
    brought = brought_over caps heads code p (awaited pass.flows) (awaited pass.flows) none (λ q lt inside. refl) f.brought;
    gap = λ q le lt. f.gap q (omega arith) lt;
    kept = passes_over heads code (frame_at (loop_table caps heads code)) p pass.heads pass.heads none f.kept;
  }

  module _ (p : ℕ) (i : Insn) (old new : HeadPass) (r : Option Rule) (small : p < 2 ^ 62) (lt : p < length code) (at : fetch code p ≡ Some i) (fit : Fits i) (f : Follows p old) (v : HasVisited caps heads code i p old new r) where
    abbrev table : Table
    table = loop_table caps heads code

    -- the pass finds the slot's frame
    pub its : found heads old p ≡ frame_at table p
    its = its_frame caps heads code p (awaited old.flows) lt f.brought

    kept_now : Kept heads code v.entered (frame_at table) (p + 1)
    kept_now = enters heads code (frame_at table) p old.heads v.entered f.kept (subst (λ o. HasEntered (head_at heads p) p old.heads o v.entered) its v.heads_are)

    abbrev keeping : Bool
    keeping = keeps_back (kept_for v.entered) v.back

    compared : (o : Option PlainFrame) → rule_below caps heads code p i o ≡ None → keeping ≡ keeps (kept_for v.entered) p (edges_if caps i p o) → back_of keeping ≡ back_rule caps table p i o
    compared None clear e = ap back_of e
    compared (Some g) clear e =
        ap back_of (e ∙ keeps_same (kept_for v.entered) table p (edges_at caps i p g) (λ q h to le.
        kept_now.below q (omega (arith, le)) (edge_begins caps heads code i p g clear q h to) (back_is_head heads code p small caps i g fit clear q h to le)))

    left_now : rule_below caps heads code p i (frame_at table p) ≡ None → HasLeft caps (frame_at table p) (slice_set old.flows.pending p None) i p new.flows v.back
    left_now clear = subst (λ o. HasLeft caps o (slice_set old.flows.pending p None) i p new.flows v.back) its (v.left (ap (rule_below caps heads code p i) its ∙ clear))

    -- and its rule is the slot's
    pub its_rule : r ≡ loop_rule caps heads code table p i
    its_rule =
        v.rule ∙ ap (λ o. or_back (rule_below caps heads code p i o) (back_of keeping)) its
        ∙ same_rule (rule_below caps heads code p i (frame_at table p)) (back_of keeping) (back_rule caps table p i (frame_at table p))
        (λ clear. let left = left_now clear in let gone = left.gone in compared (frame_at table p) clear (gone.back_is (kept_for v.entered)))

    landed : old.flows.landing ≤ p
    landed = ⊎_elim (λ (less : p < old.flows.landing). absurd (none-some i (sym (f.gap p (omega arith) less) ∙ at))) (λ (le : old.flows.landing ≤ p). le) (cases_lt p old.flows.landing)

    -- what the edges bring, of each slot to come
    brings : (o : Option PlainFrame) → HasLeft caps o (slice_set old.flows.pending p None) i p new.flows v.back → (q : ℕ) → p < q → q < length code → awaited new.flows q ≡ along (edges_if caps i p o) q (awaited old.flows q)
    brings o left q less inside =
        let gone = left.gone in
        let long = length-set old.flows.pending p None in
        ap (λ n. fallen (unbox new.flows.current) n q (frame_at new.flows.pending q)) left.landing
        ∙ gone.flows q less (omega (arith, long, f.size, inside))
        ∙ ap (along (edges_if caps i p o) q)
        (ap (λ x. x >>= λ g. g) (get_other old.flows.pending p q None (λ e. absurd (omega (arith, e, less))))
        ∙ sym (elsewhere (unbox old.flows.current) old.flows.landing q (frame_at old.flows.pending q) (λ e. absurd (omega (arith, e, landed, less)))))

    brought_by : (o : Option PlainFrame) → frame_at table p ≡ o → rule_below caps heads code p i o ≡ None → HasLeft caps o (slice_set old.flows.pending p None) i p new.flows v.back → Brought caps heads code (p + 1) (awaited new.flows)
    brought_by None is clear left = brought_dead caps heads code p i (awaited old.flows) (awaited new.flows) at is (brings None left) f.brought
    brought_by (Some g) is clear left = brought_more caps heads code p i g (awaited old.flows) (awaited new.flows) at is clear (brings (Some g) left) f.brought

    -- past a slot that no rule refuses
    pub follows_more : IsSpaced code → r ≡ None → Follows (p + 1) new
    follows_more spaced none =
        let clear = neither_rule (rule_below caps heads code p i (frame_at table p)) (back_rule caps table p i (frame_at table p)) (sym its_rule ∙ none) in
        let left = left_now clear.0 in
        let gone = left.gone in
        let long = length-set old.flows.pending p None in
        record {
          size = gone.size ∙ long ∙ f.size;
          brought = brought_by (frame_at table p) refl clear.0 left;
          gap = λ q le less. spaced p q i at (omega arith) (omega (arith, left.landing));
          kept = subst (λ h. Kept heads code h (frame_at table) (p + 1)) (sym v.heads_stay) kept_now;
        }

  -- the numbers of the frames below slot p are below 2 ^ 64
  abbrev pub FitBelow : ℕ → Type 0
  FitBelow p = (k : ℕ) (i : Insn) → k < p → fetch code k ≡ Some i → FitsIf (frame_at (loop_table caps heads code) k)

  pub fit_more : (p : ℕ) → FitBelow p → FitsIf (frame_at (loop_table caps heads code) p) → FitBelow (p + 1)
  fit_more p below here k j lt is = ⊎_elim (λ less. below k j less is)
      (λ le. let same : p ≡ k = omega arith in subst (λ n. FitsIf (frame_at (loop_table caps heads code) n)) same here) (cases_lt k p)

  pub fit_over : (p : ℕ) → FitBelow p → fetch code p ≡ None → FitBelow (p + 1)
  fit_over p below none k j lt is = ⊎_elim (λ less. below k j less is)
      (λ le. let same : p ≡ k = omega arith in absurd (none-some j (sym none ∙ ap (fetch code) same ∙ is))) (cases_lt k p)

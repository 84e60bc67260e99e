-- The pass over the slots follows the whole table of frames.
use Rattle.std.proofs.Common.{◌≡◌, ◌≢◌, ℕ, zero, suc, ◌+◌, ◌<◌, ◌≤◌, List, [], ◌∷◌, ◌++◌, Option, Some, None, refl, ap, ◌∙◌, sym, subst, arith, length, drop, ⊎_elim, length-append}
use Rattle.std.specs.Prelude.{slice_get, slice_set, replicate, ◌==◌}
use Rattle.std.proofs.lemmas.Bool.{cases_eq, cases_lt, eq-eqb, ne_eqb, cond-true, cond-false}
use Rattle.std.proofs.lemmas.List.{length-set, length-replicate}
use Rattle.std.proofs.lemmas.Option.{none-some, same_Some}
use Rattle.bpf_decode.specs.declared.insn.Insn.{Insn}
use Rattle.bpf_decode.specs.Instruction.{slot_count}
use Rattle.bpf_decode.specs.declared.rule_set.RuleSet.{RuleSet}
use Rattle.bpf_machine.specs.declared.caps.Caps.{Caps}
use Rattle.bpf_machine.specs.State.{◌>>=◌}
use Rattle.bpf_machine.specs.Typed.{fetch}
use Rattle.verifier.specs.declared.rule.Rule.{Rule}
use Rattle.abstract_num.specs.declared.precision.Precision.{Precision}
use Rattle.abstract_num.specs.Plain.{Plain}
use Rattle.abstract_regs.specs.Frame.{PlainFrame}
use Rattle.abstract_regs.specs.Flow.{edge_to, flow}
use Rattle.abstract_regs.specs.Moves.{EachFits, Keeps}
use Rattle.verifier.specs.declared.pass.Pass.{Pass}
use Rattle.verifier.specs.Frame.{precision_of, entry}
use Rattle.verifier.specs.Rules.{rule_at, room_of}
use Rattle.verifier.specs.Answers.{answer_of}
use Rattle.verifier.specs.inner.Kept.{unbox}
use Rattle.verifier.specs.Verdict.{Table, frame_at, joined, met, along, unless_refused, flow_from, start, incoming, frames, whole_table, IsTable, or_else, first_refused}
use Rattle.verifier.specs.inner.Pass.{merged, merged_if, fallen, awaited, flown, HasLeft, IsSpaced, IsSound, Sound}

get_left : {A : Type 0} (xs ys : List A) (p : ℕ) → p < length xs → slice_get (xs ++ ys) p ≡ slice_get xs p
get_left [] ys p h = absurd (omega arith)
get_left (x ∷ xs) ys zero h = refl
get_left (x ∷ xs) ys (suc p) h = get_left xs ys p (omega arith)

get_last : {A : Type 0} (xs : List A) (x : A) (p : ℕ) → length xs ≡ p → slice_get (xs ++ (x ∷ [])) p ≡ Some x
get_last [] x zero h = refl
get_last [] x (suc p) h = absurd (omega arith)
get_last (y ∷ xs) x zero h = absurd (omega arith)
get_last (y ∷ xs) x (suc p) h = get_last xs x p (omega arith)

get_other : {A : Type 0} (xs : List A) (q p : ℕ) (v : A) → q ≢ p → slice_get (slice_set xs q v) p ≡ slice_get xs p
get_other [] q p v n = refl
get_other (x ∷ xs) zero zero v n = absurd (n refl)
get_other (x ∷ xs) zero (suc p) v n = refl
get_other (x ∷ xs) (suc q) zero v n = refl
get_other (x ∷ xs) (suc q) (suc p) v n = get_other xs q p v (λ e. n (ap suc e))

get_same : {A : Type 0} (xs : List A) (q : ℕ) (v : A) → q < length xs → slice_get (slice_set xs q v) q ≡ Some v
get_same [] q v h = absurd (omega arith)
get_same (x ∷ xs) zero v h = refl
get_same (x ∷ xs) (suc q) v h = get_same xs q v (omega arith)

pub drop_head : {A : Type 0} (xs : List A) (p : ℕ) (x : A) → slice_get xs p ≡ Some x → drop p xs ≡ x ∷ drop (p + 1) xs
drop_head [] p x h = absurd (none-some x h)
drop_head (y ∷ xs) zero x h = let e : y ≡ x = cc in ap (λ y. y ∷ xs) e
drop_head (y ∷ xs) (suc p) x h =
    let r = drop_head xs p x h in
    let e : suc (p + 1) ≡ suc p + 1 = omega arith in
    r ∙ ap (λ n. x ∷ drop n (y ∷ xs)) e

merged_is : (table : Table) (a q : ℕ) (g : PlainFrame) → q < length table → frame_at (merged table a g) q ≡ met a g q (frame_at table q)
merged_is table a q g lt = ⊎_elim
    (λ e. subst (λ n. frame_at (merged table n g) q ≡ met n g q (frame_at table q)) (sym e)
    (ap (λ o. o >>= λ f. f) (get_same table q (Some (joined (frame_at table q) g)) lt) ∙ sym (cond-true _ _ _ (eq-eqb q q refl))))
    (λ n. ap (λ o. o >>= λ f. f) (get_other table a q _ n) ∙ sym (cond-false _ _ _ (ne_eqb a q n))) (cases_eq a q)

-- the one edge of a jump, which is kept
pub leaves_one : (rules : RuleSet) (frame : Option PlainFrame) (f h : PlainFrame) (kept : Table) (pass : Pass) (i : Insn) (p a w : ℕ) → frame ≡ Some f → flow (precision_of rules) (room_of i) (answer_of rules f i) i p f ≡ (a, h) ∷ [] → w ≡ slot_count i → pass.kept ≡ merged kept a h → unbox pass.current ≡ None → pass.landing ≡ p + w → HasLeft rules frame kept i p pass
leaves_one rules frame f h kept pass i p a w is flows width merges current landing = record {
  landing = landing ∙ ap (λ n. p + n) width;
  size = ap length merges ∙ length-set kept a _;
  flows = λ q lt.
      ap (λ o. fallen o pass.landing q (frame_at pass.kept q)) current
      ∙ ap (λ t. frame_at t q) merges ∙ merged_is kept a q h lt
      ∙ sym (ap (λ o. flown rules o i p q (frame_at kept q)) is ∙ ap (λ edges. along edges q (frame_at kept q)) flows);
}

-- what a flow keeps, of the frame at hand
pub is_sound : (rules : RuleSet) (frame : Option PlainFrame) (f g : PlainFrame) (precision : Precision) (room : Option ℕ) (answer : Plain) (i : Insn) (p : ℕ) → frame ≡ Some f → g ≡ f → precision ≡ precision_of rules → room ≡ room_of i → answer ≡ answer_of rules g i → Keeps precision room answer i p g → EachFits g.registers → IsSound rules i p frame
is_sound rules frame f g precision room answer i p is same precise rooms answers keeps fits =
    let sound : Sound rules i p g = record {
      keeps = subst (λ a. Keeps (precision_of rules) (room_of i) a i p g) answers (subst (λ r. Keeps (precision_of rules) r answer i p g) rooms (subst (λ x. Keeps x room answer i p g) precise keeps));
      fits = fits;
    } in
    subst (IsSound rules i p) (sym (is ∙ ap Some (sym same))) sound

-- both edges of a jump: one is kept, the other falls through
pub leaves_both : (rules : RuleSet) (frame : Option PlainFrame) (f g h : PlainFrame) (kept : Table) (pass : Pass) (i : Insn) (p a w : ℕ) → frame ≡ Some f → flow (precision_of rules) (room_of i) (answer_of rules f i) i p f ≡ (a, h) ∷ (p + slot_count i, g) ∷ [] → w ≡ slot_count i → pass.kept ≡ merged kept a h → unbox pass.current ≡ Some g → pass.landing ≡ p + w → HasLeft rules frame kept i p pass
leaves_both rules frame f g h kept pass i p a w is flows width merges current landing = record {
  landing = landing ∙ ap (λ n. p + n) width;
  size = ap length merges ∙ length-set kept a _;
  flows = λ q lt.
      ap (λ o. fallen o pass.landing q (frame_at pass.kept q)) current
      ∙ ap (λ n. met n g q (frame_at pass.kept q)) (landing ∙ ap (λ n. p + n) width)
      ∙ ap (met (p + slot_count i) g q) (ap (λ t. frame_at t q) merges ∙ merged_is kept a q h lt)
      ∙ sym (ap (λ o. flown rules o i p q (frame_at kept q)) is ∙ ap (λ edges. along edges q (frame_at kept q)) flows);
}

merged_if_is : (table : Table) (a q : ℕ) (x : Option PlainFrame) → q < length table → frame_at (merged_if table a x) q ≡ along (edge_to a x) q (frame_at table q)
merged_if_is table a q None lt = refl
merged_if_is table a q (Some g) lt = merged_is table a q g lt

length-merged_if : (table : Table) (a : ℕ) (x : Option PlainFrame) → length (merged_if table a x) ≡ length table
length-merged_if table a None = refl
length-merged_if table a (Some g) = length-set table a _

fallen_is : (next q : ℕ) (y inflow : Option PlainFrame) → fallen y next q inflow ≡ along (edge_to next y) q inflow
fallen_is next q None inflow = refl
fallen_is next q (Some g) inflow = refl

along_both : (a b q : ℕ) (x y inflow : Option PlainFrame) → along (edge_to b y) q (along (edge_to a x) q inflow) ≡ along (edge_to a x ++ edge_to b y) q inflow
along_both a b q None y inflow = refl
along_both a b q (Some g) y inflow = refl

-- both edges of a jump, each of which may be dead
pub leaves_forks : (rules : RuleSet) (frame : Option PlainFrame) (f : PlainFrame) (x y : Option PlainFrame) (kept : Table) (pass : Pass) (i : Insn) (p a w : ℕ) → frame ≡ Some f → flow (precision_of rules) (room_of i) (answer_of rules f i) i p f ≡ edge_to a x ++ edge_to (p + slot_count i) y → w ≡ slot_count i → pass.kept ≡ merged_if kept a x → unbox pass.current ≡ y → pass.landing ≡ p + w → HasLeft rules frame kept i p pass
leaves_forks rules frame f x y kept pass i p a w is flows width merges current landing = record {
  landing = landing ∙ ap (λ n. p + n) width;
  size = ap length merges ∙ length-merged_if kept a x;
  flows = λ q lt.
      ap (λ o. fallen o pass.landing q (frame_at pass.kept q)) current
      ∙ ap (λ n. fallen y n q (frame_at pass.kept q)) (landing ∙ ap (λ n. p + n) width)
      ∙ ap (fallen y (p + slot_count i) q) (ap (λ t. frame_at t q) merges ∙ merged_if_is kept a q x lt)
      ∙ fallen_is (p + slot_count i) q y (along (edge_to a x) q (frame_at kept q))
      ∙ along_both a (p + slot_count i) q x y (frame_at kept q)
      ∙ sym (ap (λ o. flown rules o i p q (frame_at kept q)) is ∙ ap (λ edges. along edges q (frame_at kept q)) flows);
}

module _ (rules : RuleSet) (caps : Caps) (code : List (Option Insn)) where
  -- frames below n alone count
  agree : (t t' : Table) (q n : ℕ) → ((p : ℕ) → p < n → frame_at t p ≡ frame_at t' p) → incoming rules caps code t q n ≡ incoming rules caps code t' q n
  agree t t' q zero h = refl
  agree t t' q (suc p) h =
      ap (λ f. flow_from rules caps code p q (fetch code p) f (incoming rules caps code t q p)) (h p (omega arith))
      ∙ ap (λ inflow. flow_from rules caps code p q (fetch code p) (frame_at t' p) inflow) (agree t t' q p (λ k lt. h k (omega arith)))

  length-frames : (n : ℕ) → length (frames rules caps code n) ≡ n
  length-frames zero = refl
  length-frames (suc n) =
      let h = length-frames n in
      let a = length-append (frames rules caps code n) (incoming rules caps code (frames rules caps code n) n n ∷ []) in
      omega (arith, a, h)

  frames_at : (n p : ℕ) → p < n → frame_at (frames rules caps code n) p ≡ incoming rules caps code (frames rules caps code p) p p
  frames_at zero p lt = absurd (omega arith)
  frames_at (suc n) p lt =
      let long = length-frames n in
      ⊎_elim
      (λ less. ap (λ o. o >>= λ f. f) (get_left (frames rules caps code n) _ p (omega arith)) ∙ frames_at n p less)
      (λ same. let same' : p ≡ n = omega arith in
      ap (λ o. o >>= λ f. f) (get_last (frames rules caps code n) (incoming rules caps code (frames rules caps code n) n n) p (omega arith))
      ∙ ap (λ m. incoming rules caps code (frames rules caps code m) m m) (sym same')) (cases_lt p n)

  -- each slot's frame is the join of all that flows into it from lower slots
  pub whole_at : (q : ℕ) → q < length code → frame_at (whole_table rules caps code) q ≡ incoming rules caps code (whole_table rules caps code) q q
  whole_at q lt =
      frames_at (length code) q lt
      ∙ agree (frames rules caps code q) (whole_table rules caps code) q q (λ p less. frames_at q p less ∙ sym (frames_at (length code) p (omega arith)))

  pub whole_is_table : IsTable rules caps code (whole_table rules caps code)
  whole_is_table = record { long = length-frames (length code); each = whole_at }

  only_below : (table : Table) → IsTable rules caps code table → (n q : ℕ) → q < n → q < length code → frame_at table q ≡ frame_at (whole_table rules caps code) q
  only_below table t zero q below lt = absurd (omega arith)
  only_below table t (suc n) q below lt =
      t.each q lt
      ∙ agree table (whole_table rules caps code) q q (λ p less. only_below table t n p (omega arith) (omega arith))
      ∙ sym (whole_at q lt)

  -- every table is the whole table
  pub only_table : (table : Table) → IsTable rules caps code table → (q : ℕ) → q < length code → frame_at table q ≡ frame_at (whole_table rules caps code) q
  only_table table t q lt = only_below table t (q + 1) q (omega arith) lt

  -- before slot p the pass has, of each slot to come, what the slots below p bring
  pub record Brought (p : ℕ) (pass : Pass) : Type 0 where
    pub size : length pass.kept ≡ length code
    pub at : (q : ℕ) → p ≤ q → q < length code → awaited pass q ≡ incoming rules caps code (whole_table rules caps code) q p
    pub gap : (q : ℕ) → p ≤ q → q < pass.landing → fetch code q ≡ None

  -- so at slot p it has the slot's frame
  pub its_frame : (p : ℕ) (pass : Pass) → p < length code → Brought p pass → awaited pass p ≡ frame_at (whole_table rules caps code) p
  its_frame p pass lt b = b.at p (omega arith) lt ∙ sym (whole_at p lt)

  blank : (n q : ℕ) → frame_at (replicate n None) q ≡ None
  blank zero q = refl
  blank (suc n) zero = refl
  blank (suc n) (suc q) = blank n q

  begins : (q : ℕ) → met 0 (entry rules caps) q None ≡ start rules caps q
  begins zero = refl
  begins (suc q) = cond-false (0 == suc q) (Some (entry rules caps)) None (ne_eqb 0 (suc q) (λ e. absurd (omega (arith, e))))

  pub brought_first : (pass : Pass) → pass.kept ≡ replicate (length code) None → unbox pass.current ≡ Some (entry rules caps) → pass.landing ≡ 0 → Brought 0 pass
  brought_first pass kept current landing =
      let none : Table = replicate (length code) None in
      record {
        size = ap length kept ∙ length-replicate (length code) None;
        at = λ q le lt.
            ap (λ o. fallen o pass.landing q (frame_at pass.kept q)) current
            ∙ ap (λ n. met n (entry rules caps) q (frame_at pass.kept q)) landing
            ∙ ap (met 0 (entry rules caps) q) (ap (λ t. frame_at t q) kept ∙ blank (length code) q)
            ∙ begins q;
        gap = λ q le lt. absurd (omega (arith, landing));
      }

  one_more : (p : ℕ) → suc p ≡ p + 1
  one_more p = omega arith

  pub brought_over : (p : ℕ) (pass : Pass) → fetch code p ≡ None → Brought p pass → Brought (p + 1) pass
  brought_over p pass none b =
      subst (λ n. Brought n pass) (one_more p) (record {
        size = b.size;
        at = λ q le lt.
            b.at q (omega arith) lt ∙ sym (ap (λ i. flow_from rules caps code p q i (frame_at (whole_table rules caps code) p) (incoming rules caps code (whole_table rules caps code) q p)) none);
        gap = λ q le lt. b.gap q (omega arith) lt;
      })

  elsewhere : (o : Option PlainFrame) (landing q : ℕ) (inflow : Option PlainFrame) → landing ≢ q → fallen o landing q inflow ≡ inflow
  elsewhere None landing q inflow n = refl
  elsewhere (Some g) landing q inflow n = cond-false (landing == q) (Some (joined inflow g)) inflow (ne_eqb landing q n)

  flows_on : (p q : ℕ) (i : Insn) (frame inflow : Option PlainFrame) → rule_at rules caps code p i frame ≡ None → flow_from rules caps code p q (Some i) frame inflow ≡ flown rules frame i p q inflow
  flows_on p q i None inflow none = refl
  flows_on p q i (Some f) inflow none = ap (λ r. unless_refused r (along (flow (precision_of rules) (room_of i) (answer_of rules f i) i p f) q inflow) inflow) none

  -- a slot that no rule refuses brings its flow
  pub brought_more : (p : ℕ) (i : Insn) (pass pass' : Pass) → IsSpaced code → p < length code → fetch code p ≡ Some i → rule_at rules caps code p i (awaited pass p) ≡ None → HasLeft rules (awaited pass p) (slice_set pass.kept p None) i p pass' → Brought p pass → Brought (p + 1) pass'
  brought_more p i pass pass' spaced lt at none left b =
      let table = whole_table rules caps code in
      let frame = its_frame p pass lt b in
      let clear : rule_at rules caps code p i (frame_at table p) ≡ None = ap (rule_at rules caps code p i) (sym frame) ∙ none in
      let landed : pass.landing ≤ p = ⊎_elim (λ (less : p < pass.landing). absurd (none-some i (sym (b.gap p (omega arith) less) ∙ at))) (λ (le : pass.landing ≤ p). le) (cases_lt p pass.landing) in
      let long = length-set pass.kept p None in
      subst (λ n. Brought n pass') (one_more p) (record {
        size = left.size ∙ long ∙ b.size;
        at = λ q le lt.
            left.flows q (omega (arith, long, b.size))
            ∙ ap (λ o. flown rules o i p q (frame_at (slice_set pass.kept p None) q)) frame
            ∙ ap (flown rules (frame_at table p) i p q) (ap (λ o. o >>= λ f. f) (get_other pass.kept p q None (λ e. absurd (omega (arith, e))))
            ∙ sym (elsewhere (unbox pass.current) pass.landing q (frame_at pass.kept q) (λ e. absurd (omega (arith, e, landed))))
            ∙ b.at q (omega arith) lt)
            ∙ sym (ap (λ j. flow_from rules caps code p q j (frame_at table p) (incoming rules caps code table q p)) at
            ∙ flows_on p q i (frame_at table p) (incoming rules caps code table q p) clear);
        gap = λ q le lt. spaced p q i at (omega arith) (omega (arith, left.landing));
      })

  -- the slots from p on, where nothing begins at p
  pub refused_over : (p : ℕ) → slice_get code p ≡ Some None → first_refused rules caps code (whole_table rules caps code) p (drop p code) ≡ first_refused rules caps code (whole_table rules caps code) (p + 1) (drop (p + 1) code)
  refused_over p at = ap (first_refused rules caps code (whole_table rules caps code) p) (drop_head code p None at)

  -- the slots from p on, where an instruction begins at p
  pub refused_at : (p : ℕ) (i : Insn) (pass : Pass) (r : Option Rule) → p < length code → slice_get code p ≡ Some (Some i) → Brought p pass → rule_at rules caps code p i (awaited pass p) ≡ r →
      first_refused rules caps code (whole_table rules caps code) p (drop p code) ≡ or_else p r (first_refused rules caps code (whole_table rules caps code) (p + 1) (drop (p + 1) code))
  refused_at p i pass r lt at b is =
      ap (first_refused rules caps code (whole_table rules caps code) p) (drop_head code p (Some i) at)
      ∙ ap (λ r. or_else p r (first_refused rules caps code (whole_table rules caps code) (p + 1) (drop (p + 1) code))) (ap (rule_at rules caps code p i) (sym (its_frame p pass lt b)) ∙ is)

  -- the flows of the slots below p keep what is held
  abbrev pub SoundBelow : ℕ → Type 0
  SoundBelow p = (k : ℕ) (i : Insn) → k < p → fetch code k ≡ Some i → IsSound rules i k (frame_at (whole_table rules caps code) k)

  pub sound_more : (p : ℕ) (i : Insn) → SoundBelow p → fetch code p ≡ Some i → IsSound rules i p (frame_at (whole_table rules caps code) p) → SoundBelow (p + 1)
  sound_more p i below at here k j lt is = ⊎_elim (λ less. below k j less is)
      (λ le. let same : p ≡ k = omega arith in
      let same' : i ≡ j = same_Some i j (sym at ∙ ap (fetch code) same ∙ is) in
      subst (λ n. IsSound rules j n (frame_at (whole_table rules caps code) n)) same (subst (λ j. IsSound rules j p (frame_at (whole_table rules caps code) p)) same' here)) (cases_lt k p)

  pub sound_over : (p : ℕ) → SoundBelow p → fetch code p ≡ None → SoundBelow (p + 1)
  sound_over p below none k j lt is = ⊎_elim (λ less. below k j less is)
      (λ le. let same : p ≡ k = omega arith in absurd (none-some j (sym none ∙ ap (fetch code) same ∙ is))) (cases_lt k p)

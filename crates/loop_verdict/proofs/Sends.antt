-- What is kept of the flows into the slots to come, once flows went there, and what goes back.
use Rattle.std.proofs.Common.{◌≡◌, ℕ, ◌+◌, ◌<◌, ◌≤◌, List, ◌++◌, Option, Some, None, Bool, true, false, refl, ap, ◌∙◌, sym, subst, arith, length, ⊎_elim}
use Rattle.std.specs.Prelude.{◌==◌, ◌&&◌, ◌||◌, not, nat_le}
use Rattle.std.proofs.lemmas.Bool.{cases_eq, eq-eqb, ne_eqb, cond-true, cond-false, le-leb, leb-true}
use Rattle.std.proofs.lemmas.List.{length-set}
use Rattle.bpf_decode.specs.declared.insn.Insn.{Insn}
use Rattle.bpf_decode.specs.declared.insn.Insn.TheVariants.{Alu, Neg, Mov, MovSigned, End, LoadWide, Load, LoadSigned, Store, Jump, JumpLong, Branch, Call, CallLocal, Exit}
use Rattle.bpf_decode.specs.Instruction.{slot_count}
use Rattle.bpf_decode.specs.declared.rule_set.RuleSet.TheVariants.{Three}
use Rattle.bpf_machine.specs.State.{◌>>=◌}
use Rattle.abstract_num.specs.declared.precision.Precision.TheVariants.{Halves}
use Rattle.abstract_num.specs.Plain.{Plain}
use Rattle.abstract_regs.specs.declared.edges.Edges.{Edges}
use Rattle.abstract_regs.specs.declared.kind.Kinds.{Kinds}
use Rattle.abstract_regs.specs.Edged.{with_edges}
use Rattle.abstract_regs.specs.Frame.{PlainFrame}
use Rattle.abstract_regs.specs.Flow.{edge_to, flow}
use Rattle.verifier.specs.Answers.{answer_of}
use Rattle.verifier.specs.Rules.{room_of}
use Rattle.verifier.specs.Verdict.{Table, frame_at, joined, met, along}
use Rattle.verifier.specs.inner.Pass.{merged, merged_if, fallen}
use Rattle.loop_tables.specs.Verdict.{is_kept}
use Rattle.loop_verdict.specs.declared.flows.Back.{Back}
use Rattle.loop_verdict.specs.inner.Pass.{keeps, HasSent, HasGone}
use Rattle.loop_verdict.proofs.Lookups.{get_same, get_other}

merged_is : (table : Table) (a q : ℕ) (g : PlainFrame) → q < length table → frame_at (merged table a g) q ≡ met a g q (frame_at table q)
merged_is table a q g lt = ⊎_elim
    (λ e. subst (λ n. frame_at (merged table n g) q ≡ met n g q (frame_at table q)) (sym e)
    (ap (λ o. o >>= λ f. f) (get_same table q (Some (joined (frame_at table q) g)) lt) ∙ sym (cond-true _ _ _ (eq-eqb q q refl))))
    (λ n. ap (λ o. o >>= λ f. f) (get_other table a q _ n) ∙ sym (cond-false _ _ _ (ne_eqb a q n))) (cases_eq a q)

-- a flow that is dead goes nowhere
pub sent_none : (old new : Table) (p a : ℕ) → new ≡ old → HasSent old p a None new None
sent_none old new p a is = record { size = ap length is; flows = λ q lt inside. ap (λ t. frame_at t q) is; back_is = λ frame. refl }

left_or : (b c : Bool) → b ≡ true → c ≡ ((not b || c) && true)
left_or true true e = refl
left_or true false e = refl
left_or false c e = cc

out_of : (b c : Bool) → b ≡ false → true ≡ ((not b || c) && true)
out_of true c e = cc
out_of false c e = refl

-- one that goes back is given back, and changes nothing
pub sent_back : (old new : Table) (p a : ℕ) (g : PlainFrame) (back : Back) → a ≤ p → new ≡ old → back.target ≡ a → back.frame.value ≡ g → HasSent old p a (Some g) new (Some back)
sent_back old new p a g back le is target value = record {
  size = ap length is;
  flows = λ q lt inside. ap (λ t. frame_at t q) is ∙ sym (cond-false (a == q) (Some (joined (frame_at old q) g)) (frame_at old q) (ne_eqb a q (λ e. absurd (omega (arith, e, le, lt)))));
  back_is = λ frame. ap (is_kept back.frame.value) (ap frame target) ∙ ap (λ g. is_kept g (frame a)) value ∙ left_or (nat_le a p) (is_kept g (frame a)) (le-leb a p le);
}

-- one that goes on is kept
sent_on : (old new : Table) (p a : ℕ) (g : PlainFrame) → p < a → new ≡ merged old a g → HasSent old p a (Some g) new None
sent_on old new p a g lt is = record {
  size = ap length is ∙ length-set old a _;
  flows = λ q less inside. ap (λ t. frame_at t q) is ∙ merged_is old a q g inside;
  back_is = λ frame. out_of (nat_le a p) (is_kept g (frame a)) (past (nat_le a p) refl);
}
  where
    past : (b : Bool) → nat_le a p ≡ b → nat_le a p ≡ false
    past true e = absurd (omega (arith, leb-true a p e, lt))
    past false e = e

pub sent_if : (old new : Table) (p a : ℕ) (x : Option PlainFrame) → p < a → new ≡ merged_if old a x → HasSent old p a x new None
sent_if old new p a None lt is = sent_none old new p a is
sent_if old new p a (Some g) lt is = sent_on old new p a g lt is

fallen_is : (next q : ℕ) (y inflow : Option PlainFrame) → fallen y next q inflow ≡ along (edge_to next y) q inflow
fallen_is next q None inflow = refl
fallen_is next q (Some g) inflow = refl

along_both : (a b q : ℕ) (x y inflow : Option PlainFrame) → along (edge_to b y) q (along (edge_to a x) q inflow) ≡ along (edge_to a x ++ edge_to b y) q inflow
along_both a b q None y inflow = refl
along_both a b q (Some g) y inflow = refl

and_true : (b : Bool) → (b && true) ≡ b
and_true true = refl
and_true false = refl

keeps_next : (frame : ℕ → Option PlainFrame) (p next : ℕ) (y : Option PlainFrame) → p < next → keeps frame p (edge_to next y) ≡ true
keeps_next frame p next None lt = refl
keeps_next frame p next (Some g) lt = sym (out_of (nat_le next p) (is_kept g (frame next)) (past (nat_le next p) refl))
  where
    past : (b : Bool) → nat_le next p ≡ b → nat_le next p ≡ false
    past true e = absurd (omega (arith, leb-true next p e, lt))
    past false e = e

keeps_both : (frame : ℕ → Option PlainFrame) (p a next : ℕ) (x y : Option PlainFrame) → p < next → keeps frame p (edge_to a x) ≡ keeps frame p (edge_to a x ++ edge_to next y)
keeps_both frame p a next None y lt = sym (keeps_next frame p next y lt)
keeps_both frame p a next (Some g) y lt = ap (λ b. (not (nat_le a p) || is_kept g (frame a)) && b) (sym (keeps_next frame p next y lt))

-- Both edges of an instruction: one was sent, the other falls through.
pub gone : (old new : Table) (p a next : ℕ) (x y : Option PlainFrame) (edges : List (ℕ × PlainFrame)) (back : Option Back) → p < next → edges ≡ edge_to a x ++ edge_to next y → HasSent old p a x new back → HasGone old p next edges y new back
gone old new p a next x y edges back lt is sent = record {
  size = sent.size;
  flows = λ q less inside.
      ap (fallen y next q) (sent.flows q less inside)
      ∙ fallen_is next q y (along (edge_to a x) q (frame_at old q))
      ∙ along_both a next q x y (frame_at old q)
      ∙ ap (λ edges. along edges q (frame_at old q)) (sym is);
  back_is = λ frame. sent.back_is frame ∙ keeps_both frame p a next x y lt ∙ ap (keeps frame p) (sym is);
}

-- the edges of an instruction, by what the code has of them
pub flowed : (i : Insn) (p : ℕ) (f taken h : PlainFrame) (room : Option ℕ) (answer : Plain) (edges : Edges) (kinds : Kinds) → room ≡ room_of i → answer ≡ answer_of Three f i → taken ≡ f → flow Halves room answer i p taken ≡ with_edges Halves edges kinds (p + slot_count i) h → flow Halves (room_of i) (answer_of Three f i) i p f ≡ with_edges Halves edges kinds (p + slot_count i) h
flowed i p f taken h room answer edges kinds has_room answered is table =
    ap (λ room. flow Halves room (answer_of Three f i) i p f) (sym has_room)
    ∙ ap (λ answer. flow Halves room answer i p f) (sym answered)
    ∙ ap (flow Halves room answer i p) (sym is) ∙ table

-- the slot after an instruction is past it
pub goes_past : (p : ℕ) (i : Insn) → p < p + slot_count i
goes_past p (Alu bits operation dst source) = omega arith
goes_past p (Neg bits dst) = omega arith
goes_past p (Mov bits dst source) = omega arith
goes_past p (MovSigned extension dst src) = omega arith
goes_past p (End order width dst) = omega arith
goes_past p (LoadWide dst value) = omega arith
goes_past p (Load width dst from offset) = omega arith
goes_past p (LoadSigned width dst from offset) = omega arith
goes_past p (Store width to offset source) = omega arith
goes_past p (Jump offset) = omega arith
goes_past p (JumpLong distance) = omega arith
goes_past p (Branch bits comparison dst source offset) = omega arith
goes_past p (Call helper) = omega arith
goes_past p (CallLocal distance) = omega arith
goes_past p Exit = omega arith

-- Every frame of a method speaks of as many slots as the frame that it begins with.
use Rattle.std.proofs.Common.{◌≡◌, ℕ, zero, suc, ◌<◌, List, [], ◌∷◌, Option, Some, None, refl, inl, inr, ◌∙◌, sym, subst, arith, length, ⊎_elim}
use Rattle.std.specs.Prelude.{◌==◌}
use Rattle.std.proofs.lemmas.Bool.{cases_lt, cond_both}
use Rattle.std.proofs.lemmas.Option.{none-some, same_Some}
use Rattle.bpf_decode.specs.declared.insn.Insn.{Insn}
use Rattle.bpf_decode.specs.declared.rule_set.RuleSet.{RuleSet}
use Rattle.bpf_machine.specs.declared.caps.Caps.{Caps}
use Rattle.bpf_machine.specs.Typed.{fetch}
use Rattle.verifier.specs.declared.rule.Rule.{Rule}
use Rattle.abstract_regs.specs.Frame.{PlainFrame}
use Rattle.abstract_regs.specs.Flow.{flow}
use Rattle.abstract_regs.specs.Moves.{Among}
use Rattle.abstract_regs.specs.Laws.{FlowsKeepSlots, JoinsKeepSlots}
use Rattle.verifier.specs.Frame.{precision_of, entry}
use Rattle.verifier.specs.Rules.{rule_at, room_of}
use Rattle.verifier.specs.Answers.{answer_of}
use Rattle.verifier.specs.Verdict.{Table, frame_at, joined, met, along, unless_refused, flow_from, start, incoming, whole_table}
use Rattle.verifier.proofs.Tables.{whole_at}

-- a frame, if there is one, speaks of that many slots
abbrev IsLong : ℕ → Option PlainFrame → Type 0
IsLong known o = (g : PlainFrame) → o ≡ Some g → length g.slots ≡ known

module _ (flows : FlowsKeepSlots) (joins : JoinsKeepSlots) (known : ℕ) where
  joined_long : (inflow : Option PlainFrame) (g : PlainFrame) → IsLong known inflow → length g.slots ≡ known → length (joined inflow g).slots ≡ known
  joined_long None g h long = long
  joined_long (Some f) g h long = let f_long = h f refl in joins f g (long ∙ sym f_long) ∙ f_long

  met_long : (a q : ℕ) (g : PlainFrame) (inflow : Option PlainFrame) → IsLong known inflow → length g.slots ≡ known → IsLong known (met a g q inflow)
  met_long a q g inflow h long =
      cond_both (a == q) (Some (joined inflow g)) inflow (IsLong known)
      (λ _ k e. subst (λ (f : PlainFrame). length f.slots ≡ known) (same_Some (joined inflow g) k e) (joined_long inflow g h long))
      (λ _. h)

  along_long : (edges : List (ℕ × PlainFrame)) (q : ℕ) (inflow : Option PlainFrame) → IsLong known inflow → ((a : ℕ) (g : PlainFrame) → Among a g edges → length g.slots ≡ known) → IsLong known (along edges q inflow)
  along_long [] q inflow h all = h
  along_long (edge ∷ edges) q inflow h all =
      along_long edges q (met edge.0 edge.1 q inflow) (met_long edge.0 q edge.1 inflow h (all edge.0 edge.1 (inl (refl, refl)))) (λ a g e. all a g (inr e))

  unless_long : (r : Option Rule) (flown inflow : Option PlainFrame) → IsLong known flown → IsLong known inflow → IsLong known (unless_refused r flown inflow)
  unless_long None flown inflow a b = a
  unless_long (Some rule) flown inflow a b = b

  module _ (rules : RuleSet) (caps : Caps) (code : List (Option Insn)) (first : length (entry rules caps).slots ≡ known) where
    flow_long : (p q : ℕ) (o : Option Insn) (frame inflow : Option PlainFrame) → IsLong known frame → IsLong known inflow → IsLong known (flow_from rules caps code p q o frame inflow)
    flow_long p q None frame inflow f h = h
    flow_long p q (Some i) None inflow f h = h
    flow_long p q (Some i) (Some g) inflow f h =
        unless_long (rule_at rules caps code p i (Some g)) (along (flow (precision_of rules) (room_of i) (answer_of rules g i) i p g) q inflow) inflow
        (along_long (flow (precision_of rules) (room_of i) (answer_of rules g i) i p g) q inflow h (λ a k e. flows (precision_of rules) (room_of i) (answer_of rules g i) i p a g k e ∙ f g refl)) h

    start_long : (q : ℕ) → IsLong known (start rules caps q)
    start_long zero g e = subst (λ (f : PlainFrame). length f.slots ≡ known) (same_Some (entry rules caps) g e) first
    start_long (suc q) g e = absurd (none-some g e)

    incoming_long : (table : Table) (q n : ℕ) → ((p : ℕ) → p < n → IsLong known (frame_at table p)) → IsLong known (incoming rules caps code table q n)
    incoming_long table q zero h = start_long q
    incoming_long table q (suc p) h =
        flow_long p q (fetch code p) (frame_at table p) (incoming rules caps code table q p) (h p (omega arith))
        (incoming_long table q p (λ k lt. h k (omega (arith, lt))))

    table_long : (n p : ℕ) → p < n → p < length code → IsLong known (frame_at (whole_table rules caps code) p)
    table_long zero p lt inside = absurd (omega (arith, lt))
    table_long (suc n) p lt inside = ⊎_elim
        (λ less. table_long n p less inside)
        (λ le.
        let same : n ≡ p = omega (arith, lt, le) in
        subst (IsLong known) (sym (whole_at rules caps code p inside))
        (incoming_long (whole_table rules caps code) p p (λ k less. table_long n k (omega (arith, less, same)) (omega (arith, less, inside)))))
        (cases_lt p n)

    pub long_at : (p : ℕ) → p < length code → (g : PlainFrame) → frame_at (whole_table rules caps code) p ≡ Some g → length g.slots ≡ known
    long_at p inside g e = table_long (suc p) p (omega arith) inside g e

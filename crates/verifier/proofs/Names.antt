-- The links of a method's frame at a slot have no names of that slot or of later ones: what gives a
-- name is an instruction at a lower slot.
use Rattle.std.proofs.Common.{◌≡◌, ℕ, zero, suc, ◌<◌, ◌≤◌, List, [], ◌∷◌, Option, Some, None, refl, inl, inr, sym, subst, arith, length, ⊎_elim}
use Rattle.std.specs.Prelude.{◌==◌}
use Rattle.std.proofs.lemmas.Bool.{cases_lt, cond_both}
use Rattle.std.proofs.lemmas.Option.{none-some, same_Some}
use Rattle.bpf_decode.specs.declared.insn.Insn.{Insn}
use Rattle.bpf_decode.specs.declared.rule_set.RuleSet.{RuleSet}
use Rattle.bpf_machine.specs.declared.caps.Caps.{Caps}
use Rattle.bpf_machine.specs.Typed.{fetch}
use Rattle.verifier.specs.declared.rule.Rule.{Rule}
use Rattle.abstract_regs.specs.Frame.{PlainFrame}
use Rattle.abstract_regs.specs.Flow.{flow}
use Rattle.abstract_regs.specs.Moves.{Among, NamesBelow}
use Rattle.abstract_regs.specs.Laws.{FlowsKeepNames, JoinsKeepNames}
use Rattle.verifier.specs.Frame.{precision_of, entry}
use Rattle.verifier.specs.Rules.{rule_at, room_of}
use Rattle.verifier.specs.Answers.{answer_of}
use Rattle.verifier.specs.Verdict.{Table, frame_at, joined, met, along, unless_refused, flow_from, start, incoming, whole_table}
use Rattle.verifier.proofs.Tables.{whole_at}

-- a frame, if there is one, has links of names below n
abbrev AreBelow : ℕ → Option PlainFrame → Type 0
AreBelow n o = (g : PlainFrame) → o ≡ Some g → NamesBelow n g

module _ (flows : FlowsKeepNames) (joins : JoinsKeepNames) where
  joined_below : (n : ℕ) (inflow : Option PlainFrame) (g : PlainFrame) → AreBelow n inflow → NamesBelow n g → NamesBelow n (joined inflow g)
  joined_below n None g h below = below
  joined_below n (Some f) g h below = joins f g n (h f refl)

  met_below : (n a q : ℕ) (g : PlainFrame) (inflow : Option PlainFrame) → AreBelow n inflow → NamesBelow n g → AreBelow n (met a g q inflow)
  met_below n a q g inflow h below =
      cond_both (a == q) (Some (joined inflow g)) inflow (AreBelow n)
      (λ _ k e. subst (NamesBelow n) (same_Some (joined inflow g) k e) (joined_below n inflow g h below))
      (λ _. h)

  along_below : (n : ℕ) (edges : List (ℕ × PlainFrame)) (q : ℕ) (inflow : Option PlainFrame) → AreBelow n inflow → ((a : ℕ) (g : PlainFrame) → Among a g edges → NamesBelow n g) → AreBelow n (along edges q inflow)
  along_below n [] q inflow h all = h
  along_below n (edge ∷ edges) q inflow h all =
      along_below n edges q (met edge.0 edge.1 q inflow) (met_below n edge.0 q edge.1 inflow h (all edge.0 edge.1 (inl (refl, refl)))) (λ a g e. all a g (inr e))

  unless_below : (n : ℕ) (r : Option Rule) (flown inflow : Option PlainFrame) → AreBelow n flown → AreBelow n inflow → AreBelow n (unless_refused r flown inflow)
  unless_below n None flown inflow a b = a
  unless_below n (Some rule) flown inflow a b = b

  module _ (rules : RuleSet) (caps : Caps) (code : List (Option Insn)) (first : (n : ℕ) → NamesBelow n (entry rules caps)) where
    flow_below : (n p q : ℕ) (o : Option Insn) (frame inflow : Option PlainFrame) → p < n → AreBelow p frame → AreBelow n inflow → AreBelow n (flow_from rules caps code p q o frame inflow)
    flow_below n p q None frame inflow lt f h = h
    flow_below n p q (Some i) None inflow lt f h = h
    flow_below n p q (Some i) (Some g) inflow lt f h =
        unless_below n (rule_at rules caps code p i (Some g)) (along (flow (precision_of rules) (room_of i) (answer_of rules g i) i p g) q inflow) inflow
        (along_below n (flow (precision_of rules) (room_of i) (answer_of rules g i) i p g) q inflow h (λ a k e. flows (precision_of rules) (room_of i) (answer_of rules g i) i p a g k (f g refl) e n lt)) h

    start_below : (n q : ℕ) → AreBelow n (start rules caps q)
    start_below n zero g e = subst (NamesBelow n) (same_Some (entry rules caps) g e) (first n)
    start_below n (suc q) g e = absurd (none-some g e)

    incoming_below : (table : Table) (n q m : ℕ) → m ≤ n → ((p : ℕ) → p < m → AreBelow p (frame_at table p)) → AreBelow n (incoming rules caps code table q m)
    incoming_below table n q zero le h = start_below n q
    incoming_below table n q (suc p) le h =
        flow_below n p q (fetch code p) (frame_at table p) (incoming rules caps code table q p) (omega (arith, le)) (h p (omega arith))
        (incoming_below table n q p (omega (arith, le)) (λ k lt. h k (omega (arith, lt))))

    table_below : (n p : ℕ) → p < n → p < length code → AreBelow p (frame_at (whole_table rules caps code) p)
    table_below zero p lt inside = absurd (omega (arith, lt))
    table_below (suc n) p lt inside = ⊎_elim
        (λ less. table_below n p less inside)
        (λ le.
        let same : n ≡ p = omega (arith, lt, le) in
        subst (AreBelow p) (sym (whole_at rules caps code p inside))
        (incoming_below (whole_table rules caps code) p p p (omega arith) (λ k less. table_below n k (omega (arith, less, same)) (omega (arith, less, inside)))))
        (cases_lt p n)

    pub below_at : (p : ℕ) → p < length code → (g : PlainFrame) → frame_at (whole_table rules caps code) p ≡ Some g → NamesBelow p g
    below_at p inside g e = table_below (suc p) p (omega arith) inside g e

-- A run by a budget ends in one way.
use Rattle.std.proofs.Common.{◌≡◌, ℕ, zero, suc, ◌+◌, ◌-◌, ◌≤◌, ◌⊎◌, inl, inr, List, Option, Some, None, Bool, true, false, refl, ap, ◌∙◌, sym, subst, arith}
use Rattle.std.specs.Prelude.{◌==◌, ◌&&◌}
use Rattle.std.proofs.lemmas.Bool.{and_parts, eqb-true}
use Rattle.std.proofs.lemmas.Option.{none-some, same_Some}
use Rattle.bpf_decode.specs.Fields.{Fields, fields_of}
use Rattle.object_store.specs.Object.{PlainObject}
use Rattle.txn.specs.Edits.{Edit}
use Rattle.bpf_machine.specs.declared.caps.Caps.{Caps}
use Rattle.bpf_machine.specs.State.{◌>>=◌, only, State, reg, Outcome, outcome_of}
use Rattle.bpf_machine.specs.Flat.{Layout, at_slot, exit_code}
use Rattle.bpf_machine.specs.Safe.{caps_of, first_layout}
use Rattle.bpf_machine.specs.Lists.{list_of}
use Rattle.bpf_machine.proofs.Counting.{exit_stops}
use Rattle.bpf_machine.proofs.Runs.{has_layout}
use Rattle.loop_machine.specs.Runs.{weight_by, weight_at, Spends, Exits, IsSpent, EndsAreOne, RunsByBudgetAreOne}
use Rattle.loop_machine.proofs.Walks.{IsLast}

-- an exit weighs 1
exit_weighs : (code : List ℕ) (s : State ℕ) (v : ℕ) → exit_code code s ≡ Some v → weight_at code s.slot ≡ 1
exit_weighs code s v h = by_fields (fields_of (at_slot code s.slot)) h
  where
    by_fields : (o : Option Fields) → (o >>= λ f. only ((f.opcode == 0x95) && (f.dst == 0) && (f.src == 0) && (f.offset == 0) && (f.imm == 0)) (reg s 0)) ≡ Some v → weight_by o ≡ 1
    by_fields None h = refl
    by_fields (Some f) h = ap (λ o. weight_by (Some (record f { opcode = o }))) (is_exit _ refl h)
      where
        is_exit : (b : Bool) → ((f.opcode == 0x95) && (f.dst == 0) && (f.src == 0) && (f.offset == 0) && (f.imm == 0)) ≡ b → only b (reg s 0) ≡ Some v → f.opcode ≡ 0x95
        is_exit true e h =
            let four = and_parts _ _ e in
            let three = and_parts _ _ four.0 in
            let two = and_parts _ _ three.0 in
            let one = and_parts _ _ two.0 in
            eqb-true _ _ one.0
        is_exit false e h = absurd (none-some v h)

module _ (caps : Caps) (lay : Layout) (code : List ℕ) where
  abbrev SameEnd : ℕ → ℕ → ℕ → ℕ → State ℕ → State ℕ → Type 0
  SameEnd k n taken spent last other = (k ≡ n) × (taken ≡ spent) × (last ≡ other)

  -- where a run ends no step within the budget is made
  no_more : (n budget spent : ℕ) (s other : State ℕ) → IsLast caps lay code budget 0 s → Spends caps lay code (suc n) spent s other → spent ≤ budget → ⊥
  no_more n budget spent s other (inl e) b within = none-some b.0 (sym (exit_stops caps lay code s e.0 e.1) ∙ b.2)
  no_more n budget spent s other (inr short) b within = let sum = b.3 in omega arith

  begins_last : (budget taken : ℕ) (s last : State ℕ) → Spends caps lay code 0 taken s last → IsLast caps lay code budget taken last → IsLast caps lay code budget 0 s
  begins_last budget taken s last a e =
      subst (λ t. IsLast caps lay code budget t s) a.0 (subst (λ x. IsLast caps lay code budget taken x) (sym a.1) e)

  same_end : (k n budget taken spent : ℕ) (s last other : State ℕ) → Spends caps lay code k taken s last → IsLast caps lay code budget taken last → taken ≤ budget → Spends caps lay code n spent s other → IsLast caps lay code budget spent other → spent ≤ budget → SameEnd k n taken spent last other
  same_end zero zero budget taken spent s last other a x p b y q = (refl, a.0 ∙ sym b.0, sym a.1 ∙ b.1)
  same_end zero (suc n) budget taken spent s last other a x p b y q =
      absurd (no_more n budget spent s other (begins_last budget taken s last a x) b q)
  same_end (suc k) zero budget taken spent s last other a x p b y q =
      absurd (no_more k budget taken s last (begins_last budget spent s other b y) a p)
  same_end (suc k) (suc n) budget taken spent s last other a x p b y q =
      let one : a.0 ≡ b.0 = same_Some a.0 b.0 (sym a.2 ∙ b.2) in
      let u = a.3 in
      let v = b.3 in
      let more = same_end k n (budget - weight_at code s.slot) a.1 b.1 b.0 last other (subst (λ c. Spends caps lay code k a.1 c last) one a.4) (rest taken a.1 last u x) (omega arith) b.4 (rest spent b.1 other v y) (omega arith) in
      let count = more.0 in
      let sum = more.1 in
      (omega arith, omega arith, more.2)
    where
      rest : (taken later : ℕ) (last : State ℕ) → taken ≡ weight_at code s.slot + later → IsLast caps lay code budget taken last → IsLast caps lay code (budget - weight_at code s.slot) later last
      rest taken later last u (inl e) = inl e
      rest taken later last u (inr short) = inr (omega arith)

  module _ (budget : ℕ) (before : PlainObject) where
    abbrev EndsBy : ℕ → ℕ → State ℕ → Outcome → ℕ → List Edit → Type 0
    EndsBy count taken last p j a =
        Exits caps lay code budget before count taken last p j a ⊎ IsSpent caps lay code budget before taken last p j a

    last_of : (count taken : ℕ) (last : State ℕ) (p : Outcome) (j : ℕ) (a : List Edit) → EndsBy count taken last p j a → IsLast caps lay code budget taken last
    last_of count taken last p j a (inl e) = inl (e.value, e.exit)
    last_of count taken last p j a (inr e) = inr e.short

    -- an exit that is paid for isn't where the budget is used up
    not_both : (count taken : ℕ) (last : State ℕ) (p q : Outcome) (j k : ℕ) (a b : List Edit) → Exits caps lay code budget before count taken last p j a → IsSpent caps lay code budget before taken last q k b → ⊥
    not_both count taken last p q j k a b e f =
        omega (arith, e.paid, f.short, exit_weighs code last e.value e.exit)

    same_answer : (count taken : ℕ) (last : State ℕ) (p q : Outcome) (j k : ℕ) (a b : List Edit) → EndsBy count taken last p j a → EndsBy count taken last q k b → (p ≡ q) × (j ≡ k) × (a ≡ b)
    same_answer count taken last p q j k a b (inl e) (inl f) =
        let same : e.value ≡ f.value = same_Some e.value f.value (sym e.exit ∙ f.exit) in (
          e.outcome_is ∙ ap (λ v. outcome_of before v last) same ∙ sym f.outcome_is,
          e.counted ∙ sym f.counted,
          e.list_is ∙ ap (λ v. list_of v last) same ∙ sym f.list_is,
        )
    same_answer count taken last p q j k a b (inr e) (inr f) =
        (e.outcome_is ∙ sym f.outcome_is, e.counted ∙ sym f.counted, e.list_is ∙ sym f.list_is)
    same_answer count taken last p q j k a b (inl e) (inr f) = absurd (not_both count taken last p q j k a b e f)
    same_answer count taken last p q j k a b (inr e) (inl f) = absurd (not_both count taken last q p k j b a f e)

pub ends_are_one : EndsAreOne
ends_are_one caps lay code budget before s p q j k a b x y =
    let same = same_end caps lay code x.count y.count budget x.taken y.taken s x.last y.last x.chain (last_of caps lay code budget before x.count x.taken x.last p j a x.ends) x.within y.chain (last_of caps lay code budget before y.count y.taken y.last q k b y.ends) y.within in
    let counted = subst (λ n. EndsBy caps lay code budget before n x.taken x.last p j a) same.0 x.ends in
    let paid = subst (λ t. EndsBy caps lay code budget before y.count t x.last p j a) same.1 counted in
    same_answer caps lay code budget before y.count y.taken y.last p q j k a b
    (subst (λ l. EndsBy caps lay code budget before y.count y.taken l p j a) same.2 paid) y.ends

pub runs_by_budget_are_one : RunsByBudgetAreOne
runs_by_budget_are_one limits m in_fits out_fits budget object caller input p q j k a b x y =
    let lay = first_layout (caps_of m) in
    let ok = has_layout (caps_of m) in_fits out_fits in
    ends_are_one (caps_of m) lay _ budget object _ p q j k a b (x lay ok) (y lay ok)

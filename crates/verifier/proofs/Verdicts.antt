-- What a verdict says of the slots and methods below it.
use Rattle.std.proofs.Common.{◌≡◌, ℕ, zero, suc, ◌+◌, List, [], ◌∷◌, Option, Some, None, refl, ap, ◌∙◌, sym, subst, arith, inl, inr, ◌⊎◌, ⊎_elim}
use Rattle.std.specs.Prelude.{slice_get}
use Rattle.std.proofs.lemmas.Option.{none-some, same_Some}
use Rattle.bpf_decode.specs.declared.insn.Insn.{Insn}
use Rattle.bpf_decode.specs.Instruction.{slots}
use Rattle.bpf_decode.specs.Class.{ClassMethod, Class}
use Rattle.bpf_decode.specs.declared.rule_set.RuleSet.{RuleSet}
use Rattle.bpf_machine.specs.declared.caps.Caps.{Caps}
use Rattle.bpf_machine.specs.Typed.{fetch}
use Rattle.bpf_machine.specs.Safe.{caps_of}
use Rattle.verifier.specs.declared.rule.Rule.{Rule}
use Rattle.verifier.specs.declared.refusal.Refusal.{Refusal}
use Rattle.verifier.specs.Rules.{rule_at}
use Rattle.verifier.specs.Verdict.{Table, frame_at, whole_table, or_else, first_refused, code_verdict, method_verdict, or_later, verdict_from, class_verdict, Refuses, IsDeserved}
use Rattle.verifier.proofs.Passed.{rule_is_broken}

none_left : (p : ℕ) (r : Option Rule) (later : Option (ℕ × Rule)) → or_else p r later ≡ None → (r ≡ None) × (later ≡ None)
none_left p None later h = (refl, h)
none_left p (Some rule) later h = absurd (none-some _ (sym h))

came : (p : ℕ) (r : Option Rule) (later : Option (ℕ × Rule)) (at : ℕ × Rule) → or_else p r later ≡ Some at → ((r ≡ Some at.1) × (p ≡ at.0)) ⊎ (later ≡ Some at)
came p None later at h = inr h
came p (Some rule) later at h =
    let same = same_Some (p, rule) at h in
    inl (ap (λ (x : ℕ × Rule). Some x.1) same, ap (λ (x : ℕ × Rule). x.0) same)

module _ (rules : RuleSet) (caps : Caps) (code : List (Option Insn)) (table : Table) where
  -- no slot is refused
  passes_from : (rest : List (Option Insn)) (p k : ℕ) (i : Insn) → first_refused rules caps code table p rest ≡ None → fetch rest k ≡ Some i → rule_at rules caps code (p + k) i (frame_at table (p + k)) ≡ None
  passes_from [] p k i h at = absurd (none-some i at)
  passes_from (None ∷ rest) p zero i h at = absurd (none-some i at)
  passes_from (Some j ∷ rest) p zero i h at =
      let l = none_left p (rule_at rules caps code p j (frame_at table p)) (first_refused rules caps code table (p + 1) rest) h in
      let same = same_Some j i at in
      let here : p ≡ p + zero = omega arith in
      subst (λ n. rule_at rules caps code n i (frame_at table n) ≡ None) here (subst (λ i. rule_at rules caps code p i (frame_at table p) ≡ None) same l.0)
  passes_from (None ∷ rest) p (suc k) i h at =
      let next : p + 1 + k ≡ p + suc k = omega arith in
      subst (λ n. rule_at rules caps code n i (frame_at table n) ≡ None) next (passes_from rest (p + 1) k i h at)
  passes_from (Some j ∷ rest) p (suc k) i h at =
      let l = none_left p (rule_at rules caps code p j (frame_at table p)) (first_refused rules caps code table (p + 1) rest) h in
      let next : p + 1 + k ≡ p + suc k = omega arith in
      subst (λ n. rule_at rules caps code n i (frame_at table n) ≡ None) next (passes_from rest (p + 1) k i l.1 at)

  -- the slot that is refused, and its rule
  record Slot (rest : List (Option Insn)) (p : ℕ) (at : ℕ × Rule) : Type 0 where
    past : ℕ
    is : at.0 ≡ p + past
    insn : Insn
    there : fetch rest past ≡ Some insn
    rule : rule_at rules caps code at.0 insn (frame_at table at.0) ≡ Some at.1

  refused_from : (rest : List (Option Insn)) (p : ℕ) (at : ℕ × Rule) → first_refused rules caps code table p rest ≡ Some at → Slot rest p at
  refused_from [] p at h = absurd (none-some at h)
  refused_from (None ∷ rest) p at h =
      let r = refused_from rest (p + 1) at h in
      record { past = suc r.past; is = omega (arith, r.is); insn = r.insn; there = r.there; rule = r.rule }
  refused_from (Some i ∷ rest) p at h =
      let c = came p (rule_at rules caps code p i (frame_at table p)) (first_refused rules caps code table (p + 1) rest) at h in
      ⊎_elim
      (λ here. record { past = zero; is = omega (arith, here.1); insn = i; there = refl; rule = subst (λ n. rule_at rules caps code n i (frame_at table n) ≡ Some at.1) here.1 here.0 })
      (λ later.
      let r = refused_from rest (p + 1) at later in
      record { past = suc r.past; is = omega (arith, r.is); insn = r.insn; there = r.there; rule = r.rule }) c

-- no rule refuses what begins at a slot
pub passes : (rules : RuleSet) (caps : Caps) (code : List (Option Insn)) (p : ℕ) (i : Insn) → code_verdict rules caps code ≡ None → fetch code p ≡ Some i → rule_at rules caps code p i (frame_at (whole_table rules caps code) p) ≡ None
passes rules caps code p i h at =
    let same : 0 + p ≡ p = omega arith in
    subst (λ n. rule_at rules caps code n i (frame_at (whole_table rules caps code) n) ≡ None) same (passes_from rules caps code (whole_table rules caps code) code 0 p i h at)

-- an instruction begins at the slot that is refused
pub begins_there : (rules : RuleSet) (caps : Caps) (code : List (Option Insn)) (at : ℕ × Rule) → code_verdict rules caps code ≡ Some at → (i : Insn) × (fetch code at.0 ≡ Some i)
begins_there rules caps code at h =
    let r = refused_from rules caps code (whole_table rules caps code) code 0 at h in
    let same : r.past ≡ at.0 = omega (arith, r.is) in
    (r.insn, ap (fetch code) (sym same) ∙ r.there)

-- a rule refuses the slot that is refused
method_refuses : (rules : RuleSet) (m : ClassMethod) (at : ℕ × Rule) → method_verdict rules m ≡ Some at → Refuses rules m at.0 at.1
method_refuses rules m at h =
    let caps = caps_of m in
    let code = slots m.instructions in
    let r = refused_from rules caps code (whole_table rules caps code) code 0 at h in
    let same : r.past ≡ at.0 = omega (arith, r.is) in
    record { insn = r.insn; there = ap (fetch code) (sym same) ∙ r.there; refused = rule_is_broken rules caps code at.0 r.insn at.1 (frame_at (whole_table rules caps code) at.0) r.rule }

-- the method that is refused
record Found (rules : RuleSet) (ms : List ClassMethod) (k : ℕ) (r : Refusal) : Type 0 where
  past : ℕ
  is : r.method ≡ k + past
  method : ClassMethod
  there : slice_get ms past ≡ Some method
  refuses : Refuses rules method r.slot r.rule

in_method : (rules : RuleSet) (m : ClassMethod) (ms : List ClassMethod) (k : ℕ) (r : Refusal) (o : Option (ℕ × Rule)) → method_verdict rules m ≡ o → (verdict_from rules (k + 1) ms ≡ Some r → Found rules ms (k + 1) r) → or_later k o (verdict_from rules (k + 1) ms) ≡ Some r → Found rules (m ∷ ms) k r
in_method rules m ms k r None e later h =
    let f = later h in record { past = suc f.past; is = omega (arith, f.is); method = f.method; there = f.there; refuses = f.refuses }
in_method rules m ms k r (Some at) e later h =
    let same = same_Some (record { method = k; slot = at.0; rule = at.1 }) r h in
    record { past = 0; is = omega (arith, ap (λ (r : Refusal). r.method) same); method = m; there = refl; refuses = subst (λ (r : Refusal). Refuses rules m r.slot r.rule) same (method_refuses rules m at e) }

found_from : (rules : RuleSet) (ms : List ClassMethod) (k : ℕ) (r : Refusal) → verdict_from rules k ms ≡ Some r → Found rules ms k r
found_from rules [] k r h = absurd (none-some r h)
found_from rules (m ∷ ms) k r h = in_method rules m ms k r (method_verdict rules m) refl (found_from rules ms (k + 1) r) h

-- the rule of a refusal refuses the instruction at its slot of its method
pub deserved : (c : Class) (r : Refusal) → class_verdict c ≡ Some r → IsDeserved c r
deserved c r h =
    let f = found_from c.rules c.methods 0 r h in
    let same : f.past ≡ r.method = omega (arith, f.is) in
    record { method = f.method; there = ap (slice_get c.methods) (sym same) ∙ f.there; refuses = f.refuses }

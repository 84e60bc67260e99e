-- A typed run by a budget that isn't stuck: a chain of steps to an exit that is paid for, or to where the budget is used
-- up. In every layout the flat machine makes the same steps, and takes the same of the budget.
use Rattle.std.proofs.Common.{◌≡◌, ℕ, zero, suc, ◌+◌, ◌-◌, ◌^◌, ◌<◌, ◌≤◌, ◌⊎◌, inl, inr, List, [], Option, Some, None, Bool, true, false, refl, ap, ◌∙◌, sym, subst, arith}
use Rattle.std.specs.Prelude.{◌≢◌, nat_lt, nat_le, if◌then◌else◌, unwrap_or, take, slice_set}
use Rattle.std.proofs.lemmas.Bool.{leb-true, leb-false}
use Rattle.std.proofs.lemmas.Option.{none-some, same_Some}
use Rattle.bpf_decode.specs.declared.operation.OpWidth.TheVariants.{Bits64}
use Rattle.bpf_decode.specs.declared.operation.Arithmetic.TheVariants.{Sub}
use Rattle.bpf_decode.specs.declared.insn.Operand.TheVariants.{Register}
use Rattle.bpf_decode.specs.declared.insn.Insn.{Insn}
use Rattle.bpf_decode.specs.declared.insn.Insn.TheVariants.{Alu, Branch}
use Rattle.bpf_decode.specs.Instruction.{spelling, slots, AllFit}
use Rattle.bpf_decode.specs.declared.value.Value.{Value}
use Rattle.bpf_decode.specs.declared.value.Value.TheVariants.{Num}
use Rattle.bpf_decode.specs.declared.region.Region.{Region}
use Rattle.bpf_decode.specs.Arithmetic.{alu_value, is_taken}
use Rattle.bpf_decode.specs.Jump.{branch_to}
use Rattle.object_store.specs.declared.limits.Limits.{Limits}
use Rattle.object_store.specs.Object.{PlainObject}
use Rattle.txn.specs.Edits.{Edit}
use Rattle.bpf_machine.specs.declared.caps.Caps.{Caps}
use Rattle.bpf_machine.specs.State.{◌>>=◌, only, State, set_reg, go, after, Outcome}
use Rattle.bpf_machine.specs.Flat.{Layout, IsLayout, step, exit_code, IsStuck}
use Rattle.bpf_machine.specs.Typed.{Typed, extended, fetch, typed_act, typed_exit_of, typed_outcome, image}
use Rattle.bpf_machine.specs.Lists.{list_of}
use Rattle.bpf_machine.proofs.Sim.{Any, same, sim_eq}
use Rattle.bpf_machine.proofs.Rows.{exit_sim}
use Rattle.bpf_machine.proofs.Fetch.{bytes_are_instructions}
use Rattle.bpf_machine.proofs.Counting.{exit_stops}
use Rattle.bpf_machine.proofs.Listed.{IsPath, Keeps, act_keeps}
use Rattle.loop_machine.specs.Runs.{weight_at, Spends}
use Rattle.loop_machine.specs.Typed.{places_at, are_comparable, pair_act, or_else, loop_act, weight_of, weight_if, LoopEnding, Spent, Stuck, one_later, goes, ends_at, pays, loop_run}
use Rattle.loop_machine.proofs.Pairs.{loop_sim}
use Rattle.loop_machine.proofs.Weights.{weighs, instructions_weigh}

module _ (caps : Caps) (code : List (Option Insn)) where
  -- that many typed steps lead from one state to another, and take so much
  abbrev pub Leads : ℕ → ℕ → Typed → Typed → Type 0
  Leads zero taken a b = (taken ≡ 0) × (a ≡ b)
  Leads (suc n) taken a b =
      (i : Insn) × (c : Typed) × (later : ℕ) × (fetch code a.slot ≡ Some i) × (loop_act caps i a ≡ Some c) ×
      (taken ≡ weight_of i + later) × Leads n later c b

  -- at an exit that is paid for
  pub record Leaves (left taken : ℕ) (last : Typed) : Type 0 where
    pub insn : Insn
    pub at : fetch code last.slot ≡ Some insn
    pub value : ℕ
    pub exit : typed_exit_of insn last ≡ Some value
    pub paid : taken + weight_of insn ≤ left

  -- where what is due weighs more than is left
  pub record RunsOut (left taken : ℕ) (last : Typed) : Type 0 where
    pub short : left < taken + weight_if (fetch code last.slot)

  pub record Walk (left : ℕ) (s : Typed) : Type 0 where
    pub count : ℕ
    pub taken : ℕ
    pub last : Typed
    pub way : Leads count taken s last
    pub within : taken ≤ left
    pub ends : Leaves left taken last ⊎ RunsOut left taken last

  -- a step more before a walk
  longer : (left : ℕ) (s t : Typed) (i : Insn) → fetch code s.slot ≡ Some i → loop_act caps i s ≡ Some t → weight_of i ≤ left → Walk (left - weight_of i) t → Walk left s
  longer left s t i at acts pays w =
      let inside = w.within in
      record {
        count = suc w.count;
        taken = weight_of i + w.taken;
        last = w.last;
        way = (i, t, w.taken, at, acts, refl, w.way);
        within = omega arith;
        ends = by w.ends;
      }
    where
      by : Leaves (left - weight_of i) w.taken w.last ⊎ RunsOut (left - weight_of i) w.taken w.last → Leaves left (weight_of i + w.taken) w.last ⊎ RunsOut left (weight_of i + w.taken) w.last
      by (inl e) = inl (record { insn = e.insn; at = e.at; value = e.value; exit = e.exit; paid = omega (arith, e.paid) })
      by (inr e) = inr (record { short = omega (arith, e.short) })

  module _ (before : PlainObject) where
    not_later : (e : LoopEnding) → one_later e ≢ Stuck → e ≢ Stuck
    not_later e h is = h (ap one_later is)

    -- the rest of a run, by what its first step took
    abbrev Rest : ℕ → Type 0
    Rest n = (left : ℕ) (t : Typed) → left < n → loop_run caps code before n left t ≢ Stuck → Walk left t

    abbrev more : ℕ → ℕ → Option Insn → Typed → LoopEnding
    more n left i = loop_run caps code before n (left - weight_if i)

    -- with more steps than the budget has, a run that isn't stuck comes to its end
    pub walk : (n left : ℕ) (s : Typed) → left < n → loop_run caps code before n left s ≢ Stuck → Walk left s
    walk zero left s h never = absurd (omega arith)
    walk (suc n) left s h never = at (fetch code s.slot) refl (λ left t h. walk n left t h) never
      where
        stops : (i : Option Insn) → fetch code s.slot ≡ i → left < weight_if i → Walk left s
        stops i e short = record {
          count = 0;
          taken = 0;
          last = s;
          way = (refl, refl);
          within = omega arith;
          ends = inr (record { short = let due = ap weight_if e in omega arith });
        }

        by_step : (i : Insn) → fetch code s.slot ≡ Some i → weight_of i ≤ left → (o : Option Typed) → loop_act caps i s ≡ o → Rest n → goes o (more n left (Some i)) ≢ Stuck → Walk left s
        by_step i e paid None acts rest never = absurd (never refl)
        by_step i e paid (Some t) acts rest never =
            let heavy = instructions_weigh i in
            longer left s t i e acts paid (rest (left - weight_of i) t (omega arith) (not_later _ never))

        by_exit : (i : Insn) → fetch code s.slot ≡ Some i → weight_of i ≤ left → (o : Option ℕ) → typed_exit_of i s ≡ o → Rest n → ends_at before s o (goes (loop_act caps i s) (more n left (Some i))) ≢ Stuck → Walk left s
        by_exit i e paid (Some v) exit rest never = record {
          count = 0;
          taken = 0;
          last = s;
          way = (refl, refl);
          within = omega arith;
          ends = inl (record { insn = i; at = e; value = v; exit = exit; paid = omega arith });
        }
        by_exit i e paid None exit rest never = by_step i e paid (loop_act caps i s) refl rest never

        by_weight : (i : Insn) → fetch code s.slot ≡ Some i → (b : Bool) → nat_le (weight_of i) left ≡ b → Rest n → (if b then ends_at before s (typed_exit_of i s) (goes (loop_act caps i s) (more n left (Some i))) else Spent) ≢ Stuck → Walk left s
        by_weight i e true w rest never = by_exit i e (leb-true _ _ w) (typed_exit_of i s) refl rest never
        by_weight i e false w rest never = stops (Some i) e (leb-false _ _ w)

        nothing : fetch code s.slot ≡ None → (b : Bool) → nat_le 1 left ≡ b → (if b then Stuck else Spent) ≢ Stuck → Walk left s
        nothing e true w never = absurd (never refl)
        nothing e false w never = stops None e (leb-false _ _ w)

        at : (i : Option Insn) → fetch code s.slot ≡ i → Rest n → pays (weight_if i) left (ends_at before s (i >>= λ i. typed_exit_of i s) (goes (i >>= λ i. loop_act caps i s) (more n left i))) ≢ Stuck → Walk left s
        at None e rest never = nothing e (nat_le 1 left) refl never
        at (Some i) e rest never = by_weight i e (nat_le (weight_of i) left) refl rest never

-- ---- in a layout
module _ (caps : Caps) (lay : Layout) (ok : IsLayout caps lay) (is : List Insn) (fit : AllFit is) where
  step_of : (s t : Typed) (i : Insn) → fetch (slots is) s.slot ≡ Some i → loop_act caps i s ≡ Some t → step caps lay (spelling is) (image lay s) ≡ Some (image lay t)
  step_of s t i e acts =
      let b = bytes_are_instructions caps lay is fit (image lay s) i e in
      ((sim_eq Any (image lay) _ _ _ b.acts (loop_sim caps lay ok i s)).by t acts).1

  pub exit_at : (s : Typed) (i : Insn) (v : ℕ) → fetch (slots is) s.slot ≡ Some i → typed_exit_of i s ≡ Some v → exit_code (spelling is) (image lay s) ≡ Some v
  exit_at s i v e exit =
      let b = bytes_are_instructions caps lay is fit (image lay s) i e in
      ((sim_eq Any same _ _ _ b.exits (exit_sim caps lay i s)).by v exit).1

  -- the flat machine makes the same steps, and takes the same
  pub way_of : (n taken : ℕ) (a b : Typed) → Leads caps (slots is) n taken a b → Spends caps lay (spelling is) n taken (image lay a) (image lay b)
  way_of zero taken a b h = (h.0, ap (image lay) h.1)
  way_of (suc n) taken a b (i, c, later, e, acts, sum, more) = (
    image lay c,
    later,
    step_of a c i e acts,
    sum ∙ ap (λ w. w + later) (sym (weighs is fit a.slot i e)),
    way_of n later c b more,
  )

-- ---- no state of a run that ends is stuck
module _ (caps : Caps) (lay : Layout) (code : List ℕ) where
  -- at a state from which the run goes no further: it is an exit, or what is due isn't paid for
  abbrev pub IsLast : ℕ → ℕ → State ℕ → Type 0
  IsLast budget taken last = ((v : ℕ) × (exit_code code last ≡ Some v)) ⊎ (budget < taken + weight_at code last.slot)

  pub none_stuck : (k n budget taken spent : ℕ) (s last t : State ℕ) → Spends caps lay code k taken s last → IsLast budget taken last → Spends caps lay code n spent s t → spent + weight_at code t.slot ≤ budget → IsStuck caps lay code t → ⊥
  none_stuck zero zero budget taken spent s last t a (inl e) b paid stuck =
      let here : exit_code code t ≡ Some e.0 = subst (λ x. exit_code code x ≡ Some e.0) (sym a.1 ∙ b.1) e.1 in
      none-some e.0 (sym stuck.no_exit ∙ here)
  none_stuck zero zero budget taken spent s last t a (inr short) b paid stuck =
      let same : last ≡ t = sym a.1 ∙ b.1 in
      let here : budget < taken + weight_at code t.slot = subst (λ x. budget < taken + weight_at code x.slot) same short in
      let x = a.0 in
      let y = b.0 in
      omega arith
  none_stuck zero (suc n) budget taken spent s last t a (inl e) b paid stuck =
      let here : exit_code code s ≡ Some e.0 = subst (λ x. exit_code code x ≡ Some e.0) (sym a.1) e.1 in
      none-some b.0 (sym (exit_stops caps lay code s e.0 here) ∙ b.2)
  none_stuck zero (suc n) budget taken spent s last t a (inr short) b paid stuck =
      let here : budget < taken + weight_at code s.slot = subst (λ x. budget < taken + weight_at code x.slot) (sym a.1) short in
      let x = a.0 in
      let y = b.3 in
      omega arith
  none_stuck (suc k) zero budget taken spent s last t a ends b paid stuck =
      let goes : step caps lay code t ≡ Some a.0 = subst (λ x. step caps lay code x ≡ Some a.0) b.1 a.2 in
      none-some a.0 (sym stuck.no_step ∙ goes)
  none_stuck (suc k) (suc n) budget taken spent s last t a ends b paid stuck =
      let one : a.0 ≡ b.0 = same_Some a.0 b.0 (sym a.2 ∙ b.2) in
      let x = a.3 in
      let y = b.3 in
      none_stuck k n (budget - weight_at code s.slot) a.1 b.1 b.0 last t (subst (λ c. Spends caps lay code k a.1 c last) one a.4) (rest ends) b.4 (omega arith) stuck
    where
      rest : IsLast budget taken last → IsLast (budget - weight_at code s.slot) a.1 last
      rest (inl e) = inl e
      rest (inr short) = inr (let x = a.3 in omega arith)

-- ---- the list
module _ (limits : Limits) (before : PlainObject) (Makes : List Edit → PlainObject → Type 0) (path : IsPath limits before Makes) (caps : Caps) where
  abbrev Kept : Typed → Type 0
  Kept s = Keeps limits Makes s

  -- a register and the slot alone are changed
  after_set : (s t : Typed) (d : ℕ) (v : Value) → after s (set_reg s d v) ≡ Some t → Kept s → Kept t
  after_set s t d v e k = by (nat_lt d 10) e
    where
      by : (b : Bool) → ((if b then Some (record s { regs = slice_set s.regs d (Some v) }) else None) >>= λ t. Some (go (s.slot + 1) t)) ≡ Some t → Kept t
      by true e = subst Kept (same_Some _ t e) (record { limits = k.limits; list = k.list; kept = k.kept; leads = k.leads })
      by false e = absurd (none-some t e)

  after_go : (s t : Typed) (b : Bool) (slot : ℕ) → only b (Some (go slot s)) ≡ Some t → Kept s → Kept t
  after_go s t true slot e k = subst Kept (same_Some _ t e) (record { limits = k.limits; list = k.list; kept = k.kept; leads = k.leads })
  after_go s t false slot e k = absurd (none-some t e)

  sub_keeps : (s t : Typed) (dst : ℕ) (o : Option (Region × ℕ × ℕ)) → (o >>= λ p. after s (set_reg s dst (Num (alu_value Bits64 Sub p.1 p.2)))) ≡ Some t → Kept s → Kept t
  sub_keeps s t dst None e k = absurd (none-some t e)
  sub_keeps s t dst (Some p) e k = after_set s t dst (Num (alu_value Bits64 Sub p.1 p.2)) e k

  compare_keeps : (c : _) (s t : Typed) (offset : _) (o : Option (Region × ℕ × ℕ)) → (o >>= λ p. only (are_comparable caps c p) (Some (go (branch_to (is_taken Bits64 c p.1 p.2) s.slot (extended offset)) s))) ≡ Some t → Kept s → Kept t
  compare_keeps c s t offset None e k = absurd (none-some t e)
  compare_keeps c s t offset (Some p) e k = after_go s t (are_comparable caps c p) _ e k

  pair_keeps : (i : Insn) (s t : Typed) → pair_act caps i s ≡ Some t → Kept s → Kept t
  pair_keeps (Alu Bits64 Sub dst (Register src)) s t e k = sub_keeps s t dst (places_at s dst src) e k
  pair_keeps (Branch Bits64 c dst (Register src) offset) s t e k = compare_keeps c s t offset (places_at s dst src) e k
  pair_keeps i s t e k = absurd (none-some t e)

  loop_keeps : (i : Insn) (s t : Typed) → loop_act caps i s ≡ Some t → Kept s → Kept t
  loop_keeps i s t e k = by (typed_act caps i s) refl e
    where
      by : (o : Option Typed) → typed_act caps i s ≡ o → or_else o (pair_act caps i s) ≡ Some t → Kept t
      by None acts e = pair_keeps i s t e k
      by (Some u) acts e = act_keeps limits before Makes path caps i s t (acts ∙ e) k

  pub way_keeps : (code : List (Option Insn)) (n taken : ℕ) (a b : Typed) → Leads caps code n taken a b → Kept a → Kept b
  way_keeps code zero taken a b h k = subst Kept h.1 k
  way_keeps code (suc n) taken a b (i, c, later, e, acts, sum, more) k = way_keeps code n later c b more (loop_keeps i a c acts k)

  -- at an exit the list makes of the object before the object of the outcome
  pub list_makes : (s : Typed) (v : ℕ) → Kept s → Makes (list_of v s) (typed_outcome before v s).object
  list_makes s v k = by (nat_lt v (2 ^ 63))
    where
      outcome : Bool → Outcome
      outcome b = if b then record { code = v; output = take s.out_len s.memory.output; object = s.object } else record { code = v; output = []; object = before }

      by : (b : Bool) → Makes (if b then unwrap_or s.edits [] else []) (outcome b).object
      by true = subst (λ e. Makes (unwrap_or e []) s.object) (sym k.kept) k.leads
      by false = path.begins

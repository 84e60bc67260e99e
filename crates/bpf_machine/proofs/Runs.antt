-- A typed run that ends has its image in every layout.
use Rattle.std.proofs.Common.{◌≡◌, ℕ, zero, suc, ◌+◌, ◌%◌, ◌^◌, ◌<◌, ◌≤◌, List, Option, Some, None, refl, ap, ◌∙◌, sym, arith, length}
use Rattle.std.proofs.Math.Nat.{mod-eq_of_lt}
use Rattle.std.proofs.lemmas.Option.{none-some}
use Rattle.bpf_decode.specs.declared.insn.Insn.{Insn}
use Rattle.bpf_decode.specs.Instruction.{spelling, slots, AllFit}
use Rattle.bpf_decode.specs.declared.region.Region.TheVariants.{Input, Output, Stack}
use Rattle.bpf_decode.specs.declared.region.Region.{Region}
use Rattle.bpf_machine.specs.declared.caps.Caps.{Caps}
use Rattle.bpf_machine.specs.declared.limits.TheConstants.{STACK_SIZE}
use Rattle.object_store.specs.Limits.{profile}
use Rattle.object_store.specs.Object.{PlainObject}
use Rattle.bpf_machine.specs.State.{◌>>=◌, size, Memory, State, entry_regs, opening, Outcome, Ending, Ended, one_more, goes_on, ends}
use Rattle.bpf_machine.specs.Flat.{Layout, IsLayout, base, step, exit_code, run, entry, host_entry}
use Rattle.bpf_machine.specs.Typed.{Typed, fetch, typed_act, typed_step, typed_exit_of, typed_exit, typed_ends, typed_run, typed_entry, typed_host_entry, image}
use Rattle.bpf_machine.specs.Safe.{Simulates, EndsAlwaysIsSafe, SimulatesWithin, EndsWithinIsSafe, caps_of, first_layout, outcome_or_none, HasLayout, OutcomesAreOne}
use Rattle.bpf_machine.proofs.Sim.{Sim, Any, same, sim_eq}
use Rattle.bpf_machine.proofs.Parts.{plain_memory_image}
use Rattle.bpf_machine.proofs.Rows.{act_sim, exit_sim}
use Rattle.bpf_machine.proofs.Fetch.{bytes_are_instructions}
use Rattle.bpf_machine.proofs.Counting.{one_less, exit_stops, runs_are_chains}

-- a run takes no more steps than are counted
module _ (caps : Caps) (code : List (Option Insn)) (before : PlainObject) where
  steps_at : (n : ℕ) (s : Typed) (o : Outcome) (k : ℕ) → ((t : Typed) (j : ℕ) → typed_run caps code before n t ≡ Ended o j → j ≤ n) → (x : Option ℕ) (y : Option Typed) → typed_ends before s x (goes_on y (typed_run caps code before n)) ≡ Ended o k → k ≤ suc n
  steps_at n s o k more (Some c) y h = let one : 1 ≡ k = cc in omega arith
  steps_at n s o k more None None h = cc
  steps_at n s o k more None (Some t) h =
      let l = one_less (typed_run caps code before n t) o k h in
      omega (arith, more t l.0 l.1, l.2)

  steps_within : (n : ℕ) (s : Typed) (o : Outcome) (k : ℕ) → typed_run caps code before n s ≡ Ended o k → k ≤ n
  steps_within zero s o k h = cc
  steps_within (suc n) s o k h = steps_at n s o k (λ t j e. steps_within n t o j e) (typed_exit code s) (typed_step caps code s) h

module _ (caps : Caps) (lay : Layout) (ok : IsLayout caps lay) (before : PlainObject) where
  -- the rest of a typed run, and of its image
  abbrev Rest : (Typed → Ending) → (State ℕ → Ending) → Type 0
  Rest more more' = (t : Typed) (o : Outcome) (k : ℕ) → more t ≡ Ended o k → more' (image lay t) ≡ Ended o k

  goes : (a : Option Typed) (b : Option (State ℕ)) (more : Typed → Ending) (more' : State ℕ → Ending) (o : Outcome) (k : ℕ) → Sim Any (image lay) a b → Rest more more' → goes_on a more ≡ Ended o k → goes_on b more' ≡ Ended o k
  goes None b more more' o k s r h = cc
  goes (Some t) b more more' o k s r h =
      let l = one_less (more t) o k h in
      ap (λ x. goes_on x more') (s.by t refl).1 ∙ ap one_more (r t o l.0 l.1) ∙ ap (Ended o) l.2

  module _ (is : List Insn) (fit : AllFit is) where
    -- an exit of the typed machine is one of the flat machine; elsewhere the typed one makes a
    -- step, so the flat one does, and is at no exit
    here : (s : Typed) (more : Typed → Ending) (more' : State ℕ → Ending) (o : Outcome) (k : ℕ) (a : Option ℕ) (b : Option ℕ) (c : Option Typed) (d : Option (State ℕ)) → exit_code (spelling is) (image lay s) ≡ b → step caps lay (spelling is) (image lay s) ≡ d → Sim Any same a b → Sim Any (image lay) c d → Rest more more' → typed_ends before s a (goes_on c more) ≡ Ended o k → ends before (image lay s) b (goes_on d more') ≡ Ended o k
    here s more more' o k (Some v) b c d x y p q r h = ap (λ v. ends before (image lay s) v (goes_on d more')) (p.by v refl).1 ∙ h
    here s more more' o k None None c d x y p q r h = goes c d more more' o k q r h
    here s more more' o k None (Some v) None d x y p q r h = cc
    here s more more' o k None (Some v) (Some t) d x y p q r h =
        absurd (none-some (image lay t) (sym (exit_stops caps lay (spelling is) (image lay s) v x) ∙ y ∙ (q.by t refl).1))

    at : (s : Typed) (i : Option Insn) → fetch (slots is) s.slot ≡ i → (more : Typed → Ending) (more' : State ℕ → Ending) (o : Outcome) (k : ℕ) → Rest more more' → typed_ends before s (i >>= λ i. typed_exit_of i s) (goes_on (i >>= λ i. typed_act caps i s) more) ≡ Ended o k → ends before (image lay s) (exit_code (spelling is) (image lay s)) (goes_on (step caps lay (spelling is) (image lay s)) more') ≡ Ended o k
    at s None e more more' o k r h = cc
    at s (Some i) e more more' o k r h =
        let b = bytes_are_instructions caps lay is fit (image lay s) i e in
        here s more more' o k (typed_exit_of i s) _ (typed_act caps i s) _ refl refl
        (sim_eq Any same _ _ _ b.exits (exit_sim caps lay i s))
        (sim_eq Any (image lay) _ _ _ b.acts (act_sim caps lay ok i s))
        r h

    runs : (n : ℕ) → Rest (typed_run caps (slots is) before n) (run caps lay (spelling is) before n)
    runs zero t o k h = cc
    runs (suc n) t o k h = at t (fetch (slots is) t.slot) refl _ _ o k (runs n) h

whole_plus : (b o : ℕ) → b + o < 2 ^ 64 → (b + o) % 2 ^ 64 ≡ b + o
whole_plus b o h = mod-eq_of_lt h

abbrev entry_at : Memory → PlainObject → ℕ → List ℕ → ℕ → ℕ → ℕ → State ℕ
entry_at m object caller input x y z = record { slot = 0; regs = entry_regs x (length input) y z; memory = m; object = object; out_len = 0; caller = caller; limits = profile; edits = None }

pub entry_image : (caps : Caps) (lay : Layout) → IsLayout caps lay → (object : PlainObject) (caller : ℕ) (input : List ℕ) → image lay (typed_entry caps object caller input) ≡ entry caps lay object caller input
entry_image caps lay ok object caller input =
    let a : (lay.input + 0) % 2 ^ 64 ≡ lay.input = whole_plus lay.input 0 (omega (arith, ok.fits Input)) ∙ omega arith in
    let b : (lay.output + 0) % 2 ^ 64 ≡ lay.output = whole_plus lay.output 0 (omega (arith, ok.fits Output)) ∙ omega arith in
    let c : (lay.stack + STACK_SIZE) % 2 ^ 64 ≡ lay.stack + STACK_SIZE = whole_plus lay.stack STACK_SIZE (omega (arith, ok.fits Stack)) in
    let m = opening caps input in
    ap (λ n. entry_at n object caller input ((lay.input + 0) % 2 ^ 64) ((lay.output + 0) % 2 ^ 64) ((lay.stack + STACK_SIZE) % 2 ^ 64)) (plain_memory_image lay m)
    ∙ ap (λ x. entry_at m object caller input x ((lay.output + 0) % 2 ^ 64) ((lay.stack + STACK_SIZE) % 2 ^ 64)) a
    ∙ ap (λ x. entry_at m object caller input lay.input x ((lay.stack + STACK_SIZE) % 2 ^ 64)) b
    ∙ ap (λ x. entry_at m object caller input lay.input lay.output x) c

pub simulates : Simulates
simulates m fit object caller input short outcome steps h =
    let n = length m.instructions in
    let start = typed_entry (caps_of m) object caller input in (
      steps_within (caps_of m) (slots m.instructions) object n start outcome steps h,
      λ lay ok.
          let r = runs (caps_of m) lay ok object m.instructions fit n start outcome steps h in
          let e = ap (run (caps_of m) lay (spelling m.instructions) object n) (sym (entry_image (caps_of m) lay ok object caller input)) ∙ r in
          ((runs_are_chains (caps_of m) lay (spelling m.instructions) object n (entry (caps_of m) lay object caller input) outcome steps).0 e).1,
    )

pub ends_always_is_safe : EndsAlwaysIsSafe
ends_always_is_safe m fit always object caller input call =
    let r = always object caller input call in
    let s = simulates m fit object caller input call.short r.0 r.1 r.2 in
    (r.0, r.1, s.0, s.1)

pub simulates_within : SimulatesWithin
simulates_within m fit limits object caller input outcome steps h =
    let n = length m.instructions in
    let start = typed_host_entry limits (caps_of m) object caller input in (
      steps_within (caps_of m) (slots m.instructions) object n start outcome steps h,
      λ lay ok.
          let image_is = ap (λ (s : State ℕ). record s { limits = limits }) (entry_image (caps_of m) lay ok object caller input) in
          let e = ap (run (caps_of m) lay (spelling m.instructions) object n) (sym image_is) ∙ runs (caps_of m) lay ok object m.instructions fit n start outcome steps h in
          ((runs_are_chains (caps_of m) lay (spelling m.instructions) object n (host_entry limits (caps_of m) lay object caller input) outcome steps).0 e).1,
    )

pub ends_within_is_safe : EndsWithinIsSafe
ends_within_is_safe m fit always limits object caller input call =
    let r = always limits object caller input call in
    let s = simulates_within m fit limits object caller input r.0 r.1 r.2 in
    (r.0, r.1, s.0, s.1)

pub has_layout : HasLayout
has_layout caps a b = record {
  fits = λ r. fits caps a b r;
  input_output = λ at i o. omega (arith, i.1, o.0);
  input_stack = λ at i o. omega (arith, i.1, o.0);
  output_stack = λ at i o. omega (arith, i.1, o.0);
}
  where
    fits : (caps : Caps) → caps.in_cap < 2 ^ 16 → caps.out_cap < 2 ^ 16 → (r : Region) → base (first_layout caps) r + size caps r < 2 ^ 64
    fits caps a b Input = omega arith
    fits caps a b Output = omega arith
    fits caps a b Stack = omega arith

pub outcomes_are_one : OutcomesAreOne
outcomes_are_one m a b object caller input outcome steps within h =
    let lay = first_layout (caps_of m) in
    let e = h lay (has_layout (caps_of m) a b) in
    let start = entry (caps_of m) lay object caller input in
    let r = (runs_are_chains (caps_of m) lay (spelling m.instructions) object (length m.instructions) start outcome steps).1 (within, e) in
    ap (outcome_or_none object) r

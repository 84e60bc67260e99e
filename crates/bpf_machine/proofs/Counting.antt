-- A run by counting is a chain of steps, and no state in it is stuck.
use Rattle.std.proofs.Common.{◌≡◌, ℕ, zero, suc, ◌<◌, ◌≤◌, List, Option, Some, None, Bool, true, false, refl, ap, ◌∙◌, sym, subst, arith, drop}
use Rattle.std.specs.Prelude.{◌==◌, ◌&&◌}
use Rattle.std.proofs.lemmas.Option.{none-some, same_Some}
use Rattle.std.proofs.lemmas.Bool.{and_parts, eqb-true}
use Rattle.bpf_decode.specs.Fields.{Fields, fields_of}
use Rattle.bpf_machine.specs.declared.caps.Caps.{Caps}
use Rattle.object_store.specs.Object.{PlainObject}
use Rattle.bpf_machine.specs.State.{◌>>=◌, only, State, reg, Outcome, outcome_of, Ending, Ended, Stuck, Unfinished, one_more, goes_on, ends}
use Rattle.bpf_machine.specs.Flat.{Layout, at_slot, act, step, exit_code, IsStuck, Chain, EndsAtExit, run}
use Rattle.bpf_machine.specs.Safe.{RunsAreChains, StuckRunsAreChains, UnfinishedRunsAreChains}

pub one_less : (e : Ending) (o : Outcome) (k : ℕ) → one_more e ≡ Ended o k → (j : ℕ) × (e ≡ Ended o j) × (suc j ≡ k)
one_less (Ended p j) o k h =
    let a : p ≡ o = cc in
    let b : suc j ≡ k = cc in
    (j, ap (λ x. Ended x j) a, b)
one_less Stuck o k h = cc
one_less Unfinished o k h = cc

allowed : {A : Type 0} (t : Bool) (o : Option A) (v : A) → only t o ≡ Some v → t ≡ true
allowed true o v h = refl
allowed false o v h = absurd (none-some v h)

module _ (caps : Caps) (lay : Layout) where
  exit_row : (f : Fields) (next : Option Fields) (s : State ℕ) → f.opcode ≡ 0x95 → act caps lay f next s ≡ None
  exit_row f next s e = ap (λ o. act caps lay (record f { opcode = o }) next s) e

  is_exit : (f : Fields) (r : Option ℕ) (v : ℕ) → only ((f.opcode == 0x95) && (f.dst == 0) && (f.src == 0) && (f.offset == 0) && (f.imm == 0)) r ≡ Some v → f.opcode ≡ 0x95
  is_exit f r v h =
      let four = and_parts _ _ (allowed _ r v h) in
      let three = and_parts _ _ four.0 in
      let two = and_parts _ _ three.0 in
      let one = and_parts _ _ two.0 in
      eqb-true _ _ one.0

  stops : (o next : Option Fields) (s : State ℕ) (v : ℕ) → (o >>= λ f. only ((f.opcode == 0x95) && (f.dst == 0) && (f.src == 0) && (f.offset == 0) && (f.imm == 0)) (reg s 0)) ≡ Some v → (o >>= λ f. act caps lay f next s) ≡ None
  stops None next s v h = refl
  stops (Some f) next s v h = exit_row f next s (is_exit f (reg s 0) v h)

  -- an exit has no step
  pub exit_stops : (code : List ℕ) (s : State ℕ) (v : ℕ) → exit_code code s ≡ Some v → step caps lay code s ≡ None
  exit_stops code s v h = stops (fields_of (at_slot code s.slot)) (fields_of (drop 8 (at_slot code s.slot))) s v h

  module _ (code : List ℕ) where
    -- a state with a step is at no exit
    goes_from : (s t : State ℕ) → step caps lay code s ≡ Some t → exit_code code s ≡ None
    goes_from s t st = by_exit (exit_code code s) refl
      where
        by_exit : (x : Option ℕ) → exit_code code s ≡ x → exit_code code s ≡ None
        by_exit None e = e
        by_exit (Some v) e = absurd (none-some t (sym (exit_stops code s v e) ∙ st))

    -- on the way to an exit no state is stuck
    pub never : (k n : ℕ) (s last t : State ℕ) (v : ℕ) → Chain caps lay code k s last → exit_code code last ≡ Some v → Chain caps lay code n s t → IsStuck caps lay code t → ⊥
    never zero zero s last t v at_end is here stuck =
        let e : exit_code code t ≡ Some v = subst (λ x. exit_code code x ≡ Some v) (sym at_end ∙ here) is in
        none-some v (sym stuck.no_exit ∙ e)
    never zero (suc n) s last t v at_end is more stuck =
        let e : exit_code code s ≡ Some v = subst (λ x. exit_code code x ≡ Some v) (sym at_end) is in
        none-some more.0 (sym (exit_stops code s v e) ∙ more.1)
    never (suc k) zero s last t v more is here stuck =
        let e : step caps lay code t ≡ Some more.0 = subst (λ x. step caps lay code x ≡ Some more.0) here more.1 in
        none-some more.0 (sym stuck.no_step ∙ e)
    never (suc k) (suc n) s last t v more is way stuck =
        let same = same_Some more.0 way.0 (sym more.1 ∙ way.1) in
        never k n way.0 last t v (subst (λ x. Chain caps lay code k x last) same more.2) is way.2 stuck

    module _ (before : PlainObject) where
      abbrev Claim : ℕ → State ℕ → Outcome → ℕ → Type 0
      Claim n s o k = (k ≤ n) × EndsAtExit caps lay code before s o k

      unfoldable pub ends_here : (s : State ℕ) (o : Outcome) (k : ℕ) (v : ℕ) → exit_code code s ≡ Some v → o ≡ outcome_of before v s → 1 ≡ k → EndsAtExit caps lay code before s o k
      ends_here s o k v is e one = record {
        before_exit = 0;
        counted = one;
        last = s;
        chain = refl;
        value = v;
        exit = is;
        outcome_is = e;
        never_stuck = λ n t way stuck. never 0 n s s t v refl is way stuck;
      }

      unfoldable pub ends_later : (s t : State ℕ) (o : Outcome) (j k : ℕ) → step caps lay code s ≡ Some t → suc j ≡ k → EndsAtExit caps lay code before t o j → EndsAtExit caps lay code before s o k
      ends_later s t o j k st counts e = record {
        before_exit = suc e.before_exit;
        counted = ap suc e.counted ∙ counts;
        last = e.last;
        chain = (t, st, e.chain);
        value = e.value;
        exit = e.exit;
        outcome_is = e.outcome_is;
        never_stuck = λ n u way stuck. never (suc e.before_exit) n s e.last u e.value (t, st, e.chain) e.exit way stuck;
      }

      -- at a state, by whether it is an exit and whether a step is made
      at : (n : ℕ) (s : State ℕ) (o : Outcome) (k : ℕ) → ((t : State ℕ) (j : ℕ) → run caps lay code before n t ≡ Ended o j → Claim n t o j) → (x : Option ℕ) → exit_code code s ≡ x → (y : Option (State ℕ)) → step caps lay code s ≡ y → ends before s x (goes_on y (run caps lay code before n)) ≡ Ended o k → Claim (suc n) s o k
      at n s o k more (Some c) is y st h =
          let one : 1 ≡ k = cc in
          let same : outcome_of before c s ≡ o = cc in
          (omega arith, ends_here s o k c is (sym same) one)
      at n s o k more None is None st h = cc
      at n s o k more None is (Some t) st h =
          let l = one_less (run caps lay code before n t) o k h in
          let m = more t l.0 l.1 in
          (omega (arith, m.0, l.2), ends_later s t o l.0 k st l.2 m.1)

      counted_chain : (n : ℕ) (s : State ℕ) (o : Outcome) (k : ℕ) → run caps lay code before n s ≡ Ended o k → Claim n s o k
      counted_chain zero s o k h = cc
      counted_chain (suc n) s o k h = at n s o k (λ t j e. counted_chain n t o j e) (exit_code code s) refl (step caps lay code s) refl h

      -- the other way round
      pub chain_counts : (n k : ℕ) (s last : State ℕ) (v : ℕ) → k < n → Chain caps lay code k s last → exit_code code last ≡ Some v → run caps lay code before n s ≡ Ended (outcome_of before v last) (suc k)
      chain_counts zero k s last v h way is = absurd (omega arith)
      chain_counts (suc n) zero s last v h here is =
          ap (λ x. ends before x (exit_code code x) (goes_on (step caps lay code x) (run caps lay code before n))) here
          ∙ ap (λ x. ends before last x (goes_on (step caps lay code last) (run caps lay code before n))) is
      chain_counts (suc n) (suc k) s last v h way is =
          ap (λ x. ends before s x (goes_on (step caps lay code s) (run caps lay code before n))) (goes_from s way.0 way.1)
          ∙ ap (λ x. goes_on x (run caps lay code before n)) way.1
          ∙ ap one_more (chain_counts n k way.0 last v (omega arith) way.2 is)

      pub runs_to_exit : (n : ℕ) (s : State ℕ) (o : Outcome) (k : ℕ) → (k ≤ n) × EndsAtExit caps lay code before s o k → run caps lay code before n s ≡ Ended o k
      runs_to_exit n s o k h =
          let e = h.1 in
          let c = e.counted in
          let b = h.0 in
          chain_counts n e.before_exit s e.last e.value (omega arith) e.chain e.exit ∙ ap (λ x. Ended x (suc e.before_exit)) (sym e.outcome_is) ∙ ap (Ended o) c

-- the same of a run that is stuck, and of one that wants more steps
one_less_stuck : (e : Ending) → one_more e ≡ Stuck → e ≡ Stuck
one_less_stuck (Ended p j) h = cc
one_less_stuck Stuck h = refl
one_less_stuck Unfinished h = cc

one_less_unfinished : (e : Ending) → one_more e ≡ Unfinished → e ≡ Unfinished
one_less_unfinished (Ended p j) h = cc
one_less_unfinished Stuck h = cc
one_less_unfinished Unfinished h = refl

module _ (caps : Caps) (lay : Layout) (code : List ℕ) (before : PlainObject) where
  abbrev GetsStuck : ℕ → State ℕ → Type 0
  GetsStuck n s = (k : ℕ) × (t : State ℕ) × (k < n) × Chain caps lay code k s t × IsStuck caps lay code t

  stuck_at : (n : ℕ) (s : State ℕ) → ((t : State ℕ) → run caps lay code before n t ≡ Stuck → GetsStuck n t) → (x : Option ℕ) → exit_code code s ≡ x → (y : Option (State ℕ)) → step caps lay code s ≡ y → ends before s x (goes_on y (run caps lay code before n)) ≡ Stuck → GetsStuck (suc n) s
  stuck_at n s more (Some v) is y st h = cc
  stuck_at n s more None is None st h = (0, s, omega arith, refl, record { no_exit = is; no_step = st })
  stuck_at n s more None is (Some t) st h =
      let g = more t (one_less_stuck (run caps lay code before n t) h) in
      (suc g.0, g.1, omega (arith, g.2), (t, st, g.3), g.4)

  stuck_chain : (n : ℕ) (s : State ℕ) → run caps lay code before n s ≡ Stuck → GetsStuck n s
  stuck_chain zero s h = cc
  stuck_chain (suc n) s h = stuck_at n s (stuck_chain n) (exit_code code s) refl (step caps lay code s) refl h

  -- a run of one step and more goes on as the rest of it
  goes_one : (n : ℕ) (s t : State ℕ) → step caps lay code s ≡ Some t → run caps lay code before (suc n) s ≡ one_more (run caps lay code before n t)
  goes_one n s t st =
      ap (λ x. ends before s x (goes_on (step caps lay code s) (run caps lay code before n))) (goes_from caps lay code s t st)
      ∙ ap (λ x. goes_on x (run caps lay code before n)) st

  stuck_counts : (n k : ℕ) (s t : State ℕ) → k < n → Chain caps lay code k s t → IsStuck caps lay code t → run caps lay code before n s ≡ Stuck
  stuck_counts zero k s t h way is = absurd (omega arith)
  stuck_counts (suc n) zero s t h here is =
      ap (λ x. run caps lay code before (suc n) x) here
      ∙ ap (λ x. ends before t x (goes_on (step caps lay code t) (run caps lay code before n))) is.no_exit
      ∙ ap (λ x. goes_on x (run caps lay code before n)) is.no_step
  stuck_counts (suc n) (suc k) s t h way is =
      goes_one n s way.0 way.1 ∙ ap one_more (stuck_counts n k way.0 t (omega arith) way.2 is)

  abbrev GoesOn : ℕ → State ℕ → Type 0
  GoesOn n s = (t : State ℕ) × Chain caps lay code n s t

  goes_at : (n : ℕ) (s : State ℕ) → ((t : State ℕ) → run caps lay code before n t ≡ Unfinished → GoesOn n t) → (x : Option ℕ) (y : Option (State ℕ)) → step caps lay code s ≡ y → ends before s x (goes_on y (run caps lay code before n)) ≡ Unfinished → GoesOn (suc n) s
  goes_at n s more (Some v) y st h = cc
  goes_at n s more None None st h = cc
  goes_at n s more None (Some t) st h =
      let g = more t (one_less_unfinished (run caps lay code before n t) h) in
      (g.0, (t, st, g.1))

  unfinished_chain : (n : ℕ) (s : State ℕ) → run caps lay code before n s ≡ Unfinished → GoesOn n s
  unfinished_chain zero s h = (s, refl)
  unfinished_chain (suc n) s h = goes_at n s (unfinished_chain n) (exit_code code s) (step caps lay code s) refl h

  unfinished_counts : (n : ℕ) (s t : State ℕ) → Chain caps lay code n s t → run caps lay code before n s ≡ Unfinished
  unfinished_counts zero s t way = refl
  unfinished_counts (suc n) s t way = goes_one n s way.0 way.1 ∙ ap one_more (unfinished_counts n way.0 t way.2)

pub runs_are_chains : RunsAreChains
runs_are_chains caps lay code before n s o k =
    (counted_chain caps lay code before n s o k, runs_to_exit caps lay code before n s o k)

pub stuck_runs_are_chains : StuckRunsAreChains
stuck_runs_are_chains caps lay code before n s =
    (stuck_chain caps lay code before n s, λ h. stuck_counts caps lay code before n h.0 s h.1 h.2 h.3 h.4)

pub unfinished_runs_are_chains : UnfinishedRunsAreChains
unfinished_runs_are_chains caps lay code before n s =
    (unfinished_chain caps lay code before n s, λ h. unfinished_counts caps lay code before n s h.0 h.1)

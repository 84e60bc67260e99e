-- A run is decided by what its helpers answer, and by whether there is an object.
use Rattle.std.proofs.Common.{◌≡◌, ◌∙◌, ℕ, zero, suc, ◌+◌, ◌^◌, ◌<◌, ◌≤◌, Bool, true, false, List, [], ◌∷◌, ◌++◌, Option, Some, None, refl, ap, sym, subst, arith, length, is_some}
use Rattle.std.specs.Prelude.{if◌then◌else◌, nat_lt, ◌==◌, unwrap_or, take}
use Rattle.std.proofs.lemmas.Option.{none-some, same_Some}
use Rattle.std.specs.Option.{option_map}
use Rattle.bpf_decode.specs.declared.insn.Insn.{Insn}
use Rattle.bpf_decode.specs.declared.insn.Insn.TheVariants.{Alu, Neg, Mov, MovSigned, End, LoadWide, Load, LoadSigned, Store, Jump, JumpLong, Branch, Call, CallLocal, Exit}
use Rattle.bpf_decode.specs.Instruction.{AllFit, spelling, slots}
use Rattle.object_store.specs.Object.{Content, PlainObject}
use Rattle.txn.specs.Edits as edit
use Rattle.txn.specs.Edits.{Edit, created}
use Rattle.helpers.specs.declared.helper.Helper.{Helper}
use Rattle.helpers.specs.declared.helper.Helper.TheVariants.{Stat, Read, Write, Truncate, Remove, GetXattr, SetXattr, RmXattr, MapGet, MapSet, MapRm, MapNext, OutLen, Create, Caller, Compare, Copy, XattrNext}
use Rattle.helpers.specs.Effect as table
use Rattle.helpers.specs.Effect.{Effect, number, text}
use Rattle.helpers.specs.Table.{row, helper_of, effect_of, effect}
use Rattle.helpers.specs.Edits.{if_done, edits_row, edits_of, edits}
use Rattle.bpf_machine.specs.declared.caps.Caps.{Caps}
use Rattle.bpf_machine.specs.State.{◌>>=◌, State, Outcome, outcome_of, go, with_edits}
use Rattle.bpf_machine.specs.Helper.{Given, asked, answered, write_room}
use Rattle.bpf_machine.specs.Flat.{IsStuck, Layout, flat_after, step, exit_code, Chain, EndsAtExit}
use Rattle.bpf_machine.specs.Lists.{ListsAtExit, listed_entry, list_of}
use Rattle.bpf_machine.specs.Typed.{fetch}
use Rattle.bpf_machine.specs.Decoded.{insn_act, insn_exit_of}
use Rattle.bpf_machine.specs.Blind.{NoCall, elsewhere, StepsAreBlind}
use Rattle.bpf_machine.specs.Safe.{caps_of, BytesAreInstructions, ElsewhereIsStuck}
use Rattle.footprint.specs.Calls.{given_in}
use Rattle.footprint.specs.Answers.{Answered, answer_to, then_answers, answers_at, answers, AnswersDecideRuns, AreAlike, AnswersDecideLists}
use Rattle.footprint.proofs.Calls.{false_true}
use Rattle.footprint.proofs.Moves.{given_elsewhere, helped, plain_leaves, help_is, Stepped, stepped}

-- ---- what an effect leaves, by what there was
-- whether an object that was there is there after a helper
abbrev stays : Helper → Bool
stays Remove = false
stays h = true

stays_is : (h : Helper) (c : Content) (g : table.Given) → is_some ((row h).effect (Some c) g).object ≡ stays h
stays_is Stat c g = refl
stays_is Read c g = refl
stays_is Write c g = grind arith
stays_is Truncate c g = grind arith
stays_is Remove c g = refl
stays_is GetXattr c g = refl
stays_is SetXattr c g = grind arith
stays_is RmXattr c g = grind arith
stays_is MapGet c g = refl
stays_is MapSet c g = grind arith
stays_is MapRm c g = grind arith
stays_is MapNext c g = refl
stays_is OutLen c g = refl
stays_is Create c g = grind arith
stays_is Caller c g = refl
stays_is Compare c g = refl
stays_is Copy c g = refl
stays_is XattrNext c g = refl

-- the output length that a helper sets
abbrev sets : Helper → table.Given → Option ℕ
sets OutLen g = Some (number g 0)
sets h g = None

sets_is : (h : Helper) (o : PlainObject) (g : table.Given) → ((row h).effect o g).out_len ≡ sets h g
sets_is Stat o g = refl
sets_is Read o g = refl
sets_is Write o g = grind arith
sets_is Truncate None g = grind arith
sets_is Truncate (Some c) g = grind arith
sets_is Remove None g = refl
sets_is Remove (Some c) g = refl
sets_is GetXattr o g = refl
sets_is SetXattr o g = grind arith
sets_is RmXattr None g = grind arith
sets_is RmXattr (Some c) g = grind arith
sets_is MapGet o g = refl
sets_is MapSet o g = grind arith
sets_is MapRm None g = grind arith
sets_is MapRm (Some c) g = grind arith
sets_is MapNext o g = refl
sets_is OutLen o g = refl
sets_is Create None g = refl
sets_is Create (Some c) g = grind arith
sets_is Caller o g = refl
sets_is Compare o g = refl
sets_is Copy o g = refl
sets_is XattrNext o g = refl

-- ---- two objects, both absent or both there
there_same : (h : Helper) (x y : PlainObject) (g : table.Given) → is_some x ≡ is_some y → is_some ((row h).effect x g).object ≡ is_some ((row h).effect y g).object
there_same h None None g e = refl
there_same h None (Some d) g e = false_true e
there_same h (Some c) None g e = false_true (sym e)
there_same h (Some c) (Some d) g e = stays_is h c g ∙ sym (stays_is h d g)

created_same : (x y : PlainObject) → is_some x ≡ is_some y → created x ≡ created y
created_same None None e = refl
created_same None (Some d) e = false_true e
created_same (Some c) None e = false_true (sym e)
created_same (Some c) (Some d) e = refl

row_same : (h : Helper) (x y : PlainObject) (g : table.Given) → is_some x ≡ is_some y → edits_row h x g ≡ edits_row h y g
row_same Stat x y g e = refl
row_same Read x y g e = refl
row_same Write x y g e =
    ap (λ (c : List Edit). if length (text g 0) == 0 then c else c ++ edit.Write (number g 0) (text g 0) ∷ []) (created_same x y e)
row_same Truncate x y g e = refl
row_same Remove x y g e = refl
row_same GetXattr x y g e = refl
row_same SetXattr x y g e = ap (λ (c : List Edit). c ++ edit.SetXattr (text g 0) (text g 1) ∷ []) (created_same x y e)
row_same RmXattr x y g e = refl
row_same MapGet x y g e = refl
row_same MapSet x y g e = ap (λ (c : List Edit). c ++ edit.SetKey (text g 0) (text g 1) ∷ []) (created_same x y e)
row_same MapRm x y g e = refl
row_same MapNext x y g e = refl
row_same OutLen x y g e = refl
row_same Create x y g e = created_same x y e
row_same Caller x y g e = refl
row_same Compare x y g e = refl
row_same Copy x y g e = refl
row_same XattrNext x y g e = refl

-- What the same answer says of the rest of an effect.
record SameRest (id : ℕ) (x y : PlainObject) (g : table.Given) : Type 0 where
  out_len : (effect id x g).out_len ≡ (effect id y g).out_len
  there : is_some (effect id x g).object ≡ is_some (effect id y g).object
  edits : (effect id x g).answer ≡ (effect id y g).answer → edits id x g ≡ edits id y g

same_rest : (id : ℕ) (x y : PlainObject) (g : table.Given) → is_some x ≡ is_some y → SameRest id x y g
same_rest id x y g e = record {
  out_len = by_out (helper_of id);
  there = by_there (helper_of id);
  edits = by_edits (helper_of id);
}
  where
    by_out : (h : Option Helper) → (effect_of h x g).out_len ≡ (effect_of h y g).out_len
    by_out None = refl
    by_out (Some h) = sets_is h x g ∙ sym (sets_is h y g)

    by_there : (h : Option Helper) → is_some (effect_of h x g).object ≡ is_some (effect_of h y g).object
    by_there None = e
    by_there (Some h) = there_same h x y g e

    by_edits : (h : Option Helper) → (effect_of h x g).answer ≡ (effect_of h y g).answer → edits_of h x g ≡ edits_of h y g
    by_edits None a = refl
    by_edits (Some h) a =
        ap (λ (n : ℕ). if_done n (edits_row h x g)) a ∙ ap (if_done ((row h).effect y g).answer) (row_same h x y g e)

-- ---- two states alike in all but the object
abbrev pub put : PlainObject → State ℕ → State ℕ
put x s = record s { object = x }

-- the answers of two calls, with what comes after them
record SameAnswer (e f : Effect) (xs ys : List Answered) : Type 0 where
  number : e.answer ≡ f.answer
  bytes : e.bytes ≡ f.bytes
  rest : xs ≡ ys

same_answer : (e f : Effect) (xs ys : List Answered) → ◌≡◌ {A = List Answered} (record { number = e.answer; bytes = e.bytes } ∷ xs) (record { number = f.answer; bytes = f.bytes } ∷ ys) → SameAnswer e f xs ys
same_answer e f xs ys h =
    let a : Answered = record { number = e.answer; bytes = e.bytes } in
    let b : Answered = record { number = f.answer; bytes = f.bytes } in
    let first : a ≡ b = cc in
    record { number = ap (λ (x : Answered). x.number) first; bytes = ap (λ (x : Answered). x.bytes) first; rest = cc }

module _ (blind : StepsAreBlind) (begins : BytesAreInstructions) (outside : ElsewhereIsStuck) (caps : Caps) (lay : Layout) (is : List Insn) (fit : AllFit is) where
  -- an instruction that is no call has no answer
  no_answer : (i : Insn) (s : State ℕ) → NoCall i → answers_at caps lay (Some i) s ≡ []
  no_answer (Alu bits operation dst source) s other = refl
  no_answer (Neg bits dst) s other = refl
  no_answer (Mov bits dst source) s other = refl
  no_answer (MovSigned extension dst src) s other = refl
  no_answer (End order width dst) s other = refl
  no_answer (LoadWide dst value) s other = refl
  no_answer (Load width dst base offset) s other = refl
  no_answer (LoadSigned width dst base offset) s other = refl
  no_answer (Store width base offset source) s other = refl
  no_answer (Jump offset) s other = refl
  no_answer (JumpLong distance) s other = refl
  no_answer (Branch bits comparison dst source offset) s other = refl
  no_answer (Call id) s other = absurd other
  no_answer (CallLocal distance) s other = refl
  no_answer Exit s other = refl

  -- the steps of both, where the first is made
  record StepsAlike (s t : State ℕ) (x : PlainObject) (xs ys : List Answered) : Type 0 where
    after : PlainObject
    there : is_some t.object ≡ is_some after
    steps : step caps lay (spelling is) (put x s) ≡ Some (put after t)
    rest : xs ≡ ys

  step_alike : (s t : State ℕ) (x : PlainObject) (xs ys : List Answered) → is_some s.object ≡ is_some x → Stepped caps lay is s t →
      answers_at caps lay (fetch (slots is) s.slot) s ++ xs ≡ answers_at caps lay (fetch (slots is) s.slot) (put x s) ++ ys → StepsAlike s t x xs ys
  step_alike s t x xs ys same (Stepped.plain i other at e) h =
      let leaves = plain_leaves blind caps lay i s t other e in
      let gone : (u : State ℕ) → answers_at caps lay (fetch (slots is) s.slot) u ≡ [] = λ u. ap (λ (f : Option Insn). answers_at caps lay f u) at ∙ no_answer i u other in
      record {
        after = x;
        there = ap (λ (u : State ℕ). is_some u.object) leaves ∙ same;
        steps = (begins caps lay is fit (put x s) i at).acts
            ∙ sym (blind.acts caps lay s.limits x s.edits i s other)
            ∙ ap (option_map (elsewhere s.limits x s.edits)) e
            ∙ ap (λ (u : State ℕ). Some (elsewhere u.limits x u.edits t)) (sym leaves);
        rest = sym (ap (λ (l : List Answered). l ++ xs) (gone s)) ∙ h ∙ ap (λ (l : List Answered). l ++ ys) (gone (put x s));
      }
  step_alike s t x xs ys same (Stepped.called id g at is_given left) h =
      let e = effect id s.object (asked g) in
      let f = effect id x (asked g) in
      let given : given_in caps lay id (put x s) ≡ Some g = given_elsewhere blind caps lay x s.edits id s ∙ is_given in
      let one : answers_at caps lay (fetch (slots is) s.slot) s ≡ record { number = e.answer; bytes = e.bytes } ∷ [] =
      ap (λ (i : Option Insn). answers_at caps lay i s) at ∙ ap (answer_to id s.object) is_given in
      let two : answers_at caps lay (fetch (slots is) s.slot) (put x s) ≡ record { number = f.answer; bytes = f.bytes } ∷ [] =
      ap (λ (i : Option Insn). answers_at caps lay i (put x s)) at ∙ ap (answer_to id x) given in
      let a = same_answer e f xs ys (sym (ap (λ (l : List Answered). l ++ xs) one) ∙ h ∙ ap (λ (l : List Answered). l ++ ys) two) in
      let r = same_rest id s.object x (asked g) same in
      let helps : helped id (put x s) g ≡ put f.object (helped id s g) = λ i. record {
        slot = s.slot;
        regs = answered s.regs (sym a.number i);
        memory = write_room s.memory g.target (sym a.bytes i);
        object = f.object;
        out_len = unwrap_or (sym r.out_len i) s.out_len;
        caller = s.caller;
        limits = s.limits;
        edits = with_edits (sym (r.edits a.number) i) s.edits;
      } in
      record {
        after = f.object;
        there = ap (λ (u : State ℕ). is_some u.object) (sym left) ∙ r.there;
        steps = (begins caps lay is fit (put x s) (Call id) at).acts
            ∙ ap (flat_after caps lay (put x s)) (help_is caps lay id (put x s) ∙ ap (λ (o : Option Given). o >>= λ g. Some (helped id (put x s) g)) given)
            ∙ ap (λ (u : State ℕ). Some (go (s.slot + 1) u)) helps
            ∙ ap (λ (u : State ℕ). Some (put f.object u)) left;
        rest = a.rest;
      }

  -- ---- an exit
  -- no other instruction is one, and it has no step
  is_exit : (i : Insn) (s : State ℕ) (v : ℕ) → insn_exit_of caps lay i s ≡ Some v → insn_act caps lay i s ≡ None
  is_exit (Alu bits operation dst source) s v e = absurd (none-some v e)
  is_exit (Neg bits dst) s v e = absurd (none-some v e)
  is_exit (Mov bits dst source) s v e = absurd (none-some v e)
  is_exit (MovSigned extension dst src) s v e = absurd (none-some v e)
  is_exit (End order width dst) s v e = absurd (none-some v e)
  is_exit (LoadWide dst value) s v e = absurd (none-some v e)
  is_exit (Load width dst base offset) s v e = absurd (none-some v e)
  is_exit (LoadSigned width dst base offset) s v e = absurd (none-some v e)
  is_exit (Store width base offset source) s v e = absurd (none-some v e)
  is_exit (Jump offset) s v e = absurd (none-some v e)
  is_exit (JumpLong distance) s v e = absurd (none-some v e)
  is_exit (Branch bits comparison dst source offset) s v e = absurd (none-some v e)
  is_exit (Call id) s v e = absurd (none-some v e)
  is_exit (CallLocal distance) s v e = absurd (none-some v e)
  is_exit Exit s v e = refl

  exit_stops : (s : State ℕ) (v : ℕ) → exit_code (spelling is) s ≡ Some v → step caps lay (spelling is) s ≡ None
  exit_stops s v e = by (fetch (slots is) s.slot) refl
    where
      by : (f : Option Insn) → fetch (slots is) s.slot ≡ f → step caps lay (spelling is) s ≡ None
      by None f = (outside caps lay is s f).no_step
      by (Some i) f =
          let a = begins caps lay is fit s i f in
          a.acts ∙ is_exit i s v (sym a.exits ∙ e)

  -- on the way to one no state is stuck
  never : (k n : ℕ) (s last t : State ℕ) (v : ℕ) → Chain caps lay (spelling is) k s last → exit_code (spelling is) last ≡ Some v → Chain caps lay (spelling is) n s t → IsStuck caps lay (spelling is) t → ⊥
  never zero zero s last t v c e d stuck =
      none-some v (sym stuck.no_exit ∙ ap (exit_code (spelling is)) (sym d ∙ c) ∙ e)
  never zero (suc n) s last t v c e d stuck =
      none-some d.0 (sym (exit_stops s v (ap (exit_code (spelling is)) c ∙ e)) ∙ d.1)
  never (suc k) zero s last t v c e d stuck =
      none-some c.0 (sym stuck.no_step ∙ ap (step caps lay (spelling is)) (sym d) ∙ c.1)
  never (suc k) (suc n) s last t v c e d stuck =
      let same : c.0 ≡ d.0 = same_Some c.0 d.0 (sym c.1 ∙ d.1) in
      never k n d.0 last t v (subst (λ (u : State ℕ). Chain caps lay (spelling is) k u last) same c.2) e d.2 stuck

  -- ---- whole runs
  -- what two runs come to, where the first goes on to an exit
  record RunsAlike (n : ℕ) (s l : State ℕ) (x : PlainObject) : Type 0 where
    after : PlainObject
    there : is_some l.object ≡ is_some after
    chain : Chain caps lay (spelling is) n (put x s) (put after l)

  chain_alike : (n k : ℕ) (s l : State ℕ) (x : PlainObject) → n < k → is_some s.object ≡ is_some x → Chain caps lay (spelling is) n s l → answers caps lay is k s ≡ answers caps lay is k (put x s) → RunsAlike n s l x
  chain_alike zero k s l x h same c a = record {
    after = x;
    there = ap (λ (u : State ℕ). is_some u.object) (sym c) ∙ same;
    chain = ap (put x) c;
  }
  chain_alike (suc n) zero s l x h same c a = absurd (omega arith)
  chain_alike (suc n) (suc k) s l x h same c a =
      let first = step_alike s c.0 x
      (then_answers (step caps lay (spelling is) s) (answers caps lay is k))
      (then_answers (step caps lay (spelling is) (put x s)) (answers caps lay is k)) same
      (stepped caps lay is fit begins outside s c.0 c.1) a in
      let left : answers caps lay is k c.0 ≡ answers caps lay is k (put first.after c.0) =
      sym (ap (λ (o : Option (State ℕ)). then_answers o (answers caps lay is k)) c.1)
      ∙ first.rest
      ∙ ap (λ (o : Option (State ℕ)). then_answers o (answers caps lay is k)) first.steps in
      let rest = chain_alike n k c.0 l first.after (omega arith) first.there c.2 left in
      record { after = rest.after; there = rest.there; chain = (put first.after c.0, first.steps, rest.chain) }

  exit_alike : (s : State ℕ) (x : PlainObject) (v : ℕ) → exit_code (spelling is) s ≡ Some v → exit_code (spelling is) (put x s) ≡ Some v
  exit_alike s x v e = by (fetch (slots is) s.slot) refl
    where
      by : (f : Option Insn) → fetch (slots is) s.slot ≡ f → exit_code (spelling is) (put x s) ≡ Some v
      by None f = absurd (none-some v (sym (outside caps lay is s f).no_exit ∙ e))
      by (Some i) f =
          (begins caps lay is fit (put x s) i f).exits
          ∙ sym (blind.exits caps lay s.limits x s.edits i s)
          ∙ sym (begins caps lay is fit s i f).exits
          ∙ e

  -- the outcomes, by whether the code is negative
  record OutcomesAlike (o p : Outcome) : Type 0 where
    same : record o { object = p.object } ≡ p
    there : is_some o.object ≡ is_some p.object

  abbrev ending : Bool → ℕ → State ℕ → PlainObject → Outcome
  ending b v l before = if b then record { code = v; output = take l.out_len l.memory.output; object = l.object } else record { code = v; output = []; object = before }

  outcomes_alike : (one other after : PlainObject) (v : ℕ) (l : State ℕ) → is_some one ≡ is_some other → is_some l.object ≡ is_some after → OutcomesAlike (outcome_of one v l) (outcome_of other v (put after l))
  outcomes_alike one other after v l before here = by (nat_lt v (2 ^ 63))
    where
      by : (b : Bool) → OutcomesAlike (ending b v l one) (ending b v (put after l) other)
      by true = record { same = refl; there = here }
      by false = record { same = refl; there = before }

  -- how the other run ends
  record Ends (one other : PlainObject) (s : State ℕ) (x : PlainObject) (outcome : Outcome) (steps : ℕ) (list : List Edit) : Type 0 where
    after : PlainObject
    there : is_some outcome.object ≡ is_some after
    lists : ListsAtExit caps lay (spelling is) other (put x s) (record outcome { object = after }) steps list

  ends_alike : (one other : PlainObject) (s : State ℕ) (x : PlainObject) (outcome : Outcome) (steps k : ℕ) (list : List Edit) → steps ≤ k → is_some one ≡ is_some other → is_some s.object ≡ is_some x →
      ListsAtExit caps lay (spelling is) one s outcome steps list → answers caps lay is k s ≡ answers caps lay is k (put x s) → Ends one other s x outcome steps list
  ends_alike one other s x outcome steps k list within before same l a =
      let e = l.ends in
      let counted = e.counted in
      let c = chain_alike e.before_exit k s e.last x (omega arith) same e.chain a in
      let exit = exit_alike e.last c.after e.value e.exit in
      let o = outcomes_alike one other c.after e.value e.last before c.there in
      let p = outcome_of other e.value (put c.after e.last) in
      record {
        after = p.object;
        there = ap (λ (q : Outcome). is_some q.object) e.outcome_is ∙ o.there;
        lists = record {
          ends = record {
            before_exit = e.before_exit;
            counted = e.counted;
            last = put c.after e.last;
            chain = c.chain;
            value = e.value;
            exit = exit;
            outcome_is = ap (λ (q : Outcome). record q { object = p.object }) e.outcome_is ∙ o.same;
            never_stuck = λ n t way stuck. never e.before_exit n (put x s) (put c.after e.last) t e.value c.chain exit way stuck;
          };
          list_is = l.list_is;
        };
      }

  -- ---- a run ends once
  chain_stops : (n k : ℕ) (s l : State ℕ) (v : ℕ) → n < k → Chain caps lay (spelling is) n s l → exit_code (spelling is) l ≡ Some v → answers caps lay is k s ≡ answers caps lay is (suc n) s
  chain_stops n zero s l v h c e = absurd (omega arith)
  chain_stops zero (suc k) s l v h c e =
      let stop : step caps lay (spelling is) s ≡ None = exit_stops s v (subst (λ (u : State ℕ). exit_code (spelling is) u ≡ Some v) (sym c) e) in
      ap (λ (o : Option (State ℕ)). answers_at caps lay (fetch (slots is) s.slot) s ++ then_answers o (answers caps lay is k)) stop
      ∙ sym (ap (λ (o : Option (State ℕ)). answers_at caps lay (fetch (slots is) s.slot) s ++ then_answers o (answers caps lay is zero)) stop)
  chain_stops (suc n) (suc k) s l v h c e =
      ap (λ (o : Option (State ℕ)). answers_at caps lay (fetch (slots is) s.slot) s ++ then_answers o (answers caps lay is k)) c.1
      ∙ ap (λ (r : List Answered). answers_at caps lay (fetch (slots is) s.slot) s ++ r) (chain_stops n k c.0 l v (omega arith) c.2 e)
      ∙ sym (ap (λ (o : Option (State ℕ)). answers_at caps lay (fetch (slots is) s.slot) s ++ then_answers o (answers caps lay is (suc n))) c.1)

  ends_stop : (before : PlainObject) (s : State ℕ) (outcome : Outcome) (steps k : ℕ) → steps ≤ k → EndsAtExit caps lay (spelling is) before s outcome steps → answers caps lay is k s ≡ answers caps lay is steps s
  ends_stop before s outcome steps k h e =
      let counted = e.counted in
      chain_stops e.before_exit k s e.last e.value (omega arith) e.chain e.exit ∙ ap (λ (n : ℕ). answers caps lay is n s) counted

  -- two ends of one run
  record Once (j k : ℕ) (v w : ℕ) (l r : State ℕ) : Type 0 where
    steps : j ≡ k
    values : v ≡ w
    last : l ≡ r

  once : (j k : ℕ) (s l r : State ℕ) (v w : ℕ) → Chain caps lay (spelling is) j s l → exit_code (spelling is) l ≡ Some v → Chain caps lay (spelling is) k s r → exit_code (spelling is) r ≡ Some w → Once j k v w l r
  once zero zero s l r v w c e d f =
      let same : l ≡ r = sym c ∙ d in
      record { steps = refl; values = same_Some v w (sym e ∙ ap (exit_code (spelling is)) same ∙ f); last = same }
  once zero (suc k) s l r v w c e d f =
      absurd (none-some d.0 (sym (exit_stops s v (ap (exit_code (spelling is)) c ∙ e)) ∙ d.1))
  once (suc j) zero s l r v w c e d f =
      absurd (none-some c.0 (sym (exit_stops s w (ap (exit_code (spelling is)) d ∙ f)) ∙ c.1))
  once (suc j) (suc k) s l r v w c e d f =
      let same : c.0 ≡ d.0 = same_Some c.0 d.0 (sym c.1 ∙ d.1) in
      let rest = once j k d.0 l r v w (subst (λ (u : State ℕ). Chain caps lay (spelling is) j u l) same c.2) e d.2 f in
      record { steps = ap suc rest.steps; values = rest.values; last = rest.last }

  -- so it has one outcome, one number of steps and one list
  record OneEnd (p q : Outcome) (j k : ℕ) (a b : List Edit) : Type 0 where
    outcome : p ≡ q
    steps : j ≡ k
    list : a ≡ b

  one_end : (before : PlainObject) (s : State ℕ) (p q : Outcome) (j k : ℕ) (a b : List Edit) → ListsAtExit caps lay (spelling is) before s p j a → ListsAtExit caps lay (spelling is) before s q k b → OneEnd p q j k a b
  one_end before s p q j k a b l r =
      let o = once l.ends.before_exit r.ends.before_exit s l.ends.last r.ends.last l.ends.value r.ends.value l.ends.chain l.ends.exit r.ends.chain r.ends.exit in
      record {
        outcome = l.ends.outcome_is
            ∙ ap (λ (v : ℕ). outcome_of before v l.ends.last) o.values
            ∙ ap (outcome_of before r.ends.value) o.last
            ∙ sym r.ends.outcome_is;
        steps = sym l.ends.counted ∙ ap suc o.steps ∙ r.ends.counted;
        list = l.list_is ∙ ap (λ (v : ℕ). list_of v l.ends.last) o.values ∙ ap (list_of r.ends.value) o.last ∙ sym r.list_is;
      }

  alike : (one other : PlainObject) (s : State ℕ) (x : PlainObject) (p q : Outcome) (j k : ℕ) (a b : List Edit) → is_some one ≡ is_some other → is_some s.object ≡ is_some x →
      ListsAtExit caps lay (spelling is) one s p j a → ListsAtExit caps lay (spelling is) other (put x s) q k b → answers caps lay is j s ≡ answers caps lay is k (put x s) → AreAlike p q j k a b
  alike one other s x p q j k a b before same l r h =
      let long : answers caps lay is (j + k) s ≡ answers caps lay is (j + k) (put x s) =
      ends_stop one s p j (j + k) (omega arith) l.ends ∙ h ∙ sym (ends_stop other (put x s) q k (j + k) (omega arith) r.ends) in
      let e = ends_alike one other s x p j (j + k) a (omega arith) before same l long in
      let o = one_end other (put x s) (record p { object = e.after }) q j k a b e.lists r in
      record {
        code = ap (λ (u : Outcome). u.code) o.outcome;
        output = ap (λ (u : Outcome). u.output) o.outcome;
        there = e.there ∙ ap (λ (u : Outcome). is_some u.object) o.outcome;
        steps = o.steps;
        list = o.list;
      }

-- ---- the laws
pub answers_decide_runs : StepsAreBlind → BytesAreInstructions → ElsewhereIsStuck → AnswersDecideRuns
answers_decide_runs blind begins outside m is_method lay one other same caller input outcome steps list l a =
    let e = ends_alike blind begins outside (caps_of m) lay m.instructions is_method.fit one other (listed_entry (caps_of m) lay one caller input) other outcome steps steps list (omega arith) same same l a in
    record { after = e.after; there = e.there; lists = e.lists }

pub answers_decide_lists : StepsAreBlind → BytesAreInstructions → ElsewhereIsStuck → AnswersDecideLists
answers_decide_lists blind begins outside m is_method one other same caller input p q j k a b l r lay ok h =
    alike blind begins outside (caps_of m) lay m.instructions is_method.fit one other (listed_entry (caps_of m) lay one caller input) other p q j k a b same same (l lay ok) (r lay ok) h

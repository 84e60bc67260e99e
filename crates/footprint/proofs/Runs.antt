-- A run on the reduced object is one on the whole object.
use Rattle.std.proofs.Common.{◌≡◌, ◌∙◌, ℕ, zero, suc, ◌^◌, ◌≤◌, Bool, true, false, List, [], Option, Some, None, Ok, refl, ap, sym, subst, arith}
use Rattle.std.specs.Prelude.{if◌then◌else◌, nat_lt, take, unwrap_or}
use Rattle.std.proofs.lemmas.Option.{none-some}
use Rattle.std.specs.FinMap as fin
use Rattle.bpf_decode.specs.declared.insn.Insn.{Insn}
use Rattle.bpf_decode.specs.Class.{ClassMethod, IsMethod}
use Rattle.bpf_decode.specs.Instruction.{AllFit, spelling, slots}
use Rattle.object_store.specs.Object.{PlainObject}
use Rattle.bpf_machine.specs.declared.caps.Caps.{Caps}
use Rattle.bpf_machine.specs.State.{State, Outcome, outcome_of, Ending, Ended, Stuck, Unfinished, one_more, goes_on, ends}
use Rattle.txn.specs.Edits.{Edit, all_edited}
use Rattle.helpers.specs.Edits.{EditsLead}
use Rattle.bpf_machine.specs.Flat.{Layout, IsLayout, Chain, EndsAtExit, step, exit_code, run, entry}
use Rattle.bpf_machine.specs.Lists.{Lists, ListsAtExit, listed_entry}
use Rattle.bpf_machine.specs.Typed.{fetch}
use Rattle.bpf_machine.specs.Decoded.{insn_act, insn_exit_of}
use Rattle.bpf_machine.specs.Blind.{StepsAreBlind}
use Rattle.bpf_machine.specs.Safe.{caps_of, RunsTo, RunsAreChains, BytesAreInstructions, ElsewhereIsStuck, HasLayout, first_layout}
use Rattle.footprint.specs.declared.parts.Parts.{Parts}
use Rattle.footprint.specs.declared.scan.Touch.TheVariants.{Creation}
use Rattle.footprint.specs.Parts.{reduced, restored, Covers}
use Rattle.footprint.specs.Needed.{calls, renews, needed}
use Rattle.footprint.specs.Frame.{whole_outcome, Frames, ListFrames}
use Rattle.footprint.proofs.Helpers.{IsReduced}
use Rattle.footprint.proofs.Steps.{MayDo, LeadsSoFar, IsGood, Lifts, lift, acts, exits}
use Rattle.footprint.proofs.Calls.{false_true, may_do}

-- ---- a reduced object, and what is restored of it
twice : {A : Type 0} (b : Bool) (x e : A) → (if b then (if b then x else e) else e) ≡ (if b then x else e)
twice true x e = refl
twice false x e = refl

again : {A : Type 0} (b : Bool) (x e : A) → (if b then (if b then x else e) else x) ≡ x
again true x e = refl
again false x e = refl

pub restored_reduced : (kept : Parts) (o : PlainObject) → restored kept o (reduced kept o) ≡ o
restored_reduced kept None = refl
restored_reduced kept (Some c) =
    λ i. Some (record { bytes = again kept.bytes c.bytes [] i; xattrs = again kept.xattrs c.xattrs fin.empty i; omap = again kept.keys c.omap fin.empty i })

is_reduced : (kept : Parts) (creates : Bool) (o : PlainObject) → IsReduced kept o creates (reduced kept o)
is_reduced kept creates None = λ e. refl
is_reduced kept creates (Some c) = record { bytes = twice kept.bytes c.bytes []; xattrs = twice kept.xattrs c.xattrs fin.empty; omap = twice kept.keys c.omap fin.empty }

reduced_is : (kept : Parts) (whole : PlainObject) (creates : Bool) (o : PlainObject) → IsReduced kept whole creates o → reduced kept o ≡ o
reduced_is kept whole creates None g = refl
reduced_is kept whole creates (Some c) g = λ i. Some (record { bytes = g.bytes i; xattrs = g.xattrs i; omap = g.omap i })

-- ---- endings
stuck_not : {A : Type 0} (o : Outcome) (k : ℕ) → Stuck ≡ Ended o k → A
stuck_not o k e = cc

unfinished_not : {A : Type 0} (o : Outcome) (k : ℕ) → Unfinished ≡ Ended o k → A
unfinished_not o k e = cc

pub record OneLess (e : Ending) (o : Outcome) (k : ℕ) : Type 0 where
  pub left : ℕ
  pub ended : e ≡ Ended o left
  pub counted : suc left ≡ k

ended_same : (o p : Outcome) (j k : ℕ) → Ended o j ≡ Ended p k → (o ≡ p) × (j ≡ k)
ended_same o p j k e = (cc, cc)

one_less : (e : Ending) (o : Outcome) (k : ℕ) → one_more e ≡ Ended o k → OneLess e o k
one_less (Ended p j) o k e =
    let s = ended_same p o (suc j) k e in
    record { left = j; ended = ap (λ (q : Outcome). Ended q j) s.0; counted = s.1 }
one_less Stuck o k e = stuck_not o k e
one_less Unfinished o k e = unfinished_not o k e

module _ (blind : StepsAreBlind) (law : EditsLead) (caps : Caps) (lay : Layout) (is : List Insn) (fit : AllFit is) (begins : BytesAreInstructions) (elsewhere : ElsewhereIsStuck) (kept : Parts) (whole : PlainObject) (creates listing : Bool) (may : (k : ℕ) (i : Insn) → fetch (slots is) k ≡ Some i → MayDo kept creates i) where
  abbrev Good : State ℕ → Type 0
  Good s = IsGood kept whole creates listing s

  abbrev up : State ℕ → State ℕ
  up s = lift kept whole creates listing s

  -- how both runs end
  pub record BothEnd (e : Ending) (o : Outcome) (k : ℕ) : Type 0 where
    pub ended : e ≡ Ended (whole_outcome kept whole o) k
    pub empty : reduced kept o.object ≡ o.object

  -- the rest of both runs
  abbrev Rest : (State ℕ → Ending) → (State ℕ → Ending) → Type 0
  Rest more more' = (t : State ℕ) → Good t → (o : Outcome) (k : ℕ) → more t ≡ Ended o k → BothEnd (more' (up t)) o k

  -- the outcome at an exit, by whether the code is negative
  abbrev ending : Bool → ℕ → State ℕ → PlainObject → Outcome
  ending b code t before = if b then record { code = code; output = take t.out_len t.memory.output; object = t.object } else record { code = code; output = []; object = before }

  both_outcomes : (s : State ℕ) (code : ℕ) → Good s → BothEnd (Ended (outcome_of whole code (up s)) 1) (outcome_of (reduced kept whole) code s) 1
  both_outcomes s code g = by (nat_lt code (2 ^ 63))
    where
      by : (b : Bool) → BothEnd (Ended (ending b code (up s) whole) 1) (ending b code s (reduced kept whole)) 1
      by true = record { ended = refl; empty = reduced_is kept whole creates s.object g.0 }
      by false = record {
        ended = ap (λ (w : PlainObject). Ended (record { code = code; output = []; object = w }) 1) (sym (restored_reduced kept whole));
        empty = reduced_is kept whole creates (reduced kept whole) (is_reduced kept creates whole);
      }

  goes : (a b : Option (State ℕ)) (more more' : State ℕ → Ending) → Lifts kept whole creates listing a b → Rest more more' → (o : Outcome) (k : ℕ) → goes_on a more ≡ Ended o k → BothEnd (goes_on b more') o k
  goes None b more more' l r o k e = stuck_not o k e
  goes (Some t) b more more' l r o k e =
      let m = l.by t refl in
      let less = one_less (more t) o k e in
      let both = r t m.0 o less.left less.ended in
      record {
        ended = ap (λ (x : Option (State ℕ)). goes_on x more') m.1 ∙ ap one_more both.ended ∙ ap (Ended (whole_outcome kept whole o)) less.counted;
        empty = both.empty;
      }

  -- at an exit, or elsewhere
  here : (s : State ℕ) (x : Option ℕ) (a b : Option (State ℕ)) (more more' : State ℕ → Ending) → Good s → Lifts kept whole creates listing a b → Rest more more' → (o : Outcome) (k : ℕ) → ends (reduced kept whole) s x (goes_on a more) ≡ Ended o k → BothEnd (ends whole (up s) x (goes_on b more')) o k
  here s None a b more more' g l r o k e = goes a b more more' l r o k e
  here s (Some code) a b more more' g l r o k e =
      let same = ended_same (outcome_of (reduced kept whole) code s) o 1 k e in
      let P : Outcome → ℕ → Type 0 = λ p n. BothEnd (Ended (outcome_of whole code (up s)) 1) p n in
      subst (λ (n : ℕ). P o n) same.1 (subst (λ (p : Outcome). P p 1) same.0 (both_outcomes s code g))

  -- by what begins at the slot
  at : (s : State ℕ) (f : Option Insn) → fetch (slots is) s.slot ≡ f → (more more' : State ℕ → Ending) → Good s → Rest more more' → (o : Outcome) (k : ℕ) →
      ends (reduced kept whole) s (exit_code (spelling is) s) (goes_on (step caps lay (spelling is) s) more) ≡ Ended o k →
      BothEnd (ends whole (up s) (exit_code (spelling is) (up s)) (goes_on (step caps lay (spelling is) (up s)) more')) o k
  at s None f more more' g r o k e =
      let stuck = elsewhere caps lay is s f in
      stuck_not o k
      (sym (ap (λ (x : Option ℕ). ends (reduced kept whole) s x (goes_on (step caps lay (spelling is) s) more)) stuck.no_exit
      ∙ ap (λ (a : Option (State ℕ)). goes_on a more) stuck.no_step)
      ∙ e)
  at s (Some i) f more more' g r o k e =
      let a = begins caps lay is fit s i f in
      let b = begins caps lay is fit (up s) i f in
      let from : ends (reduced kept whole) s (insn_exit_of caps lay i s) (goes_on (insn_act caps lay i s) more) ≡ Ended o k =
      sym (ap (λ (x : Option ℕ). ends (reduced kept whole) s x (goes_on (step caps lay (spelling is) s) more)) a.exits
      ∙ ap (λ (y : Option (State ℕ)). ends (reduced kept whole) s (insn_exit_of caps lay i s) (goes_on y more)) a.acts)
      ∙ e in
      let both = here s (insn_exit_of caps lay i s) (insn_act caps lay i s) (insn_act caps lay i (up s)) more more' g (acts blind law caps lay kept whole creates listing i s (may s.slot i f) g) r o k from in
      record {
        ended = ap (λ (x : Option ℕ). ends whole (up s) x (goes_on (step caps lay (spelling is) (up s)) more')) (b.exits ∙ exits blind law caps lay kept whole creates listing i s)
            ∙ ap (λ (y : Option (State ℕ)). ends whole (up s) (insn_exit_of caps lay i s) (goes_on y more')) b.acts
            ∙ both.ended;
        empty = both.empty;
      }

  pub runs : (n : ℕ) → Rest (run caps lay (spelling is) (reduced kept whole) n) (run caps lay (spelling is) whole n)
  runs zero t g o k e = unfinished_not o k e
  runs (suc n) t g o k e = at t (fetch (slots is) t.slot) refl _ _ g (runs n) o k e

  -- ---- a chain of steps, and its list
  step_lifts : (s t : State ℕ) → Good s → step caps lay (spelling is) s ≡ Some t → Good t × (step caps lay (spelling is) (up s) ≡ Some (up t))
  step_lifts s t g e = by (fetch (slots is) s.slot) refl
    where
      by : (f : Option Insn) → fetch (slots is) s.slot ≡ f → Good t × (step caps lay (spelling is) (up s) ≡ Some (up t))
      by None f = absurd (none-some t (sym (elsewhere caps lay is s f).no_step ∙ e))
      by (Some i) f =
          let a = begins caps lay is fit s i f in
          let b = begins caps lay is fit (up s) i f in
          let l = (acts blind law caps lay kept whole creates listing i s (may s.slot i f) g).by t (sym a.acts ∙ e) in
          (l.0, b.acts ∙ l.1)

  chain_lifts : (n : ℕ) (s l : State ℕ) → Good s → Chain caps lay (spelling is) n s l → Good l × Chain caps lay (spelling is) n (up s) (up l)
  chain_lifts zero s l g e = (subst Good e g, ap up e)
  chain_lifts (suc n) s l g c =
      let first = step_lifts s c.0 g c.1 in
      let rest = chain_lifts n c.0 l first.0 c.2 in
      (rest.0, (up c.0, first.1, rest.1))

  exit_lifts : (s : State ℕ) (v : ℕ) → exit_code (spelling is) s ≡ Some v → exit_code (spelling is) (up s) ≡ Some v
  exit_lifts s v e = by (fetch (slots is) s.slot) refl
    where
      by : (f : Option Insn) → fetch (slots is) s.slot ≡ f → exit_code (spelling is) (up s) ≡ Some v
      by None f = absurd (none-some v (sym (elsewhere caps lay is s f).no_exit ∙ e))
      by (Some i) f =
          (begins caps lay is fit (up s) i f).exits
          ∙ exits blind law caps lay kept whole creates listing i s
          ∙ sym (begins caps lay is fit s i f).exits
          ∙ e

  outcome_same : (o p : Outcome) → Ended o 1 ≡ Ended p 1 → o ≡ p
  outcome_same o p e = (ended_same o p 1 1 e).0

  -- the list on the whole object is that on the reduced one, and leads from the whole one
  pub record BothList (s : State ℕ) (o : Outcome) (k : ℕ) (list : List Edit) : Type 0 where
    pub lists : ListsAtExit caps lay (spelling is) whole (up s) (whole_outcome kept whole o) k list
    pub leads : all_edited list whole ≡ Ok (restored kept whole o.object)

  pub both_list : (s : State ℕ) (o : Outcome) (k : ℕ) (list : List Edit) → listing ≡ true → Good s → ListsAtExit caps lay (spelling is) (reduced kept whole) s o k list → EndsAtExit caps lay (spelling is) whole (up s) (whole_outcome kept whole o) k → BothList s o k list
  both_list s o k list listed g l ends =
      let e = l.ends in
      let c = chain_lifts e.before_exit s e.last g e.chain in
      let same = both_outcomes e.last e.value c.0 in
      record {
        lists = record {
          ends = record {
            before_exit = e.before_exit;
            counted = e.counted;
            last = up e.last;
            chain = c.1;
            value = e.value;
            exit = exit_lifts e.last e.value e.exit;
            outcome_is = ap (whole_outcome kept whole) e.outcome_is ∙ sym (outcome_same _ _ same.ended);
            never_stuck = ends.never_stuck;
          };
          list_is = l.list_is;
        };
        leads = ap (λ (es : List Edit). all_edited es whole) l.list_is
            ∙ by (nat_lt e.value (2 ^ 63)) e.last.edits c.0.1
            ∙ ap (λ (p : Outcome). Ok (restored kept whole p.object)) (sym e.outcome_is);
      }
    where
      by : (b : Bool) (es : Option (List Edit)) → LeadsSoFar kept whole creates listing es l.ends.last.object → all_edited (if b then unwrap_or es [] else []) whole ≡ Ok (restored kept whole (ending b l.ends.value l.ends.last (reduced kept whole)).object)
      by true None leads = absurd (false_true (sym leads ∙ listed))
      by true (Some es) leads = leads
      by false es leads = ap Ok (sym (restored_reduced kept whole))

-- ---- the law
-- code that needs all parts leaves out none
all_kept : (kept : Parts) → kept.bytes ≡ true → kept.xattrs ≡ true → kept.keys ≡ true → kept ≡ record { bytes = true; xattrs = true; keys = true }
all_kept kept b x k = λ i. record { bytes = b i; xattrs = x i; keys = k i }

abbrev All : Parts
All = record { bytes = true; xattrs = true; keys = true }

reduced_all : (o : PlainObject) → reduced All o ≡ o
reduced_all None = refl
reduced_all (Some c) = refl

restored_all : (whole o : PlainObject) → restored All whole o ≡ o
restored_all whole None = refl
restored_all whole (Some c) = refl

if_true : (b c : Bool) → b ≡ true → (if b then true else c) ≡ true
if_true true c e = refl
if_true false c e = false_true e

frames_all : (m : ClassMethod) (whole : PlainObject) (caller : ℕ) (input : List ℕ) (outcome : Outcome) (steps : ℕ) → RunsTo m (reduced All whole) caller input outcome steps → Frames m All whole caller input outcome steps
frames_all m whole caller input outcome steps runs = record {
  runs = subst (λ (x : PlainObject). RunsTo m whole caller input (record { code = outcome.code; output = outcome.output; object = x }) steps) (sym (restored_all whole outcome.object))
      (subst (λ (x : PlainObject). RunsTo m x caller input outcome steps) (reduced_all whole) runs);
  empty = reduced_all outcome.object;
}

module _ (blind : StepsAreBlind) (law : EditsLead) (chains : RunsAreChains) (begins : BytesAreInstructions) (elsewhere : ElsewhereIsStuck) (layouts : HasLayout) (m : ClassMethod) (is_method : IsMethod m) (kept : Parts) (covers : Covers kept (needed m.instructions)) (whole : PlainObject) (caller : ℕ) (input : List ℕ) (outcome : Outcome) (steps : ℕ) (reduced_runs : RunsTo m (reduced kept whole) caller input outcome steps) where
  abbrev caps : Caps
  caps = caps_of m

  abbrev code : List ℕ
  code = spelling m.instructions

  module _ (once : renews m.instructions ≡ false) where
    at_layout : (lay : Layout) → IsLayout caps lay → (steps ≤ steps) × EndsAtExit caps lay code whole (entry caps lay whole caller input) (whole_outcome kept whole outcome) steps × (reduced kept outcome.object ≡ outcome.object)
    at_layout lay ok =
        let creates = calls Creation m.instructions in
        let first = entry caps lay (reduced kept whole) caller input in
        let ends = (chains caps lay code (reduced kept whole) steps first outcome steps).1 (omega arith, reduced_runs lay ok) in
        let both = runs blind law caps lay m.instructions is_method.fit begins elsewhere kept whole creates false (may_do m.instructions kept covers once) steps first (is_reduced kept creates whole, refl, refl) outcome steps ends in
        let same : run caps lay code whole steps (entry caps lay whole caller input) ≡ Ended (whole_outcome kept whole outcome) steps =
        ap (λ (w : PlainObject). run caps lay code whole steps (entry caps lay w caller input)) (sym (restored_reduced kept whole)) ∙ both.ended in
        let back = (chains caps lay code whole steps (entry caps lay whole caller input) (whole_outcome kept whole outcome) steps).0 same in
        (back.0, back.1, both.empty)

    frames_once : Frames m kept whole caller input outcome steps
    frames_once = record {
      runs = λ lay ok. (at_layout lay ok).1;
      empty = (at_layout (first_layout caps) (layouts caps (omega (arith, is_method.in_cap)) (omega (arith, is_method.out_cap)))).2;
    }

  frames_by : (b : Bool) → renews m.instructions ≡ b → Frames m kept whole caller input outcome steps
  frames_by false e = frames_once e
  frames_by true e =
      let all = all_kept kept
      (covers.bytes (if_true (renews m.instructions) _ e))
      (covers.xattrs (if_true (renews m.instructions) _ e))
      (covers.keys (if_true (renews m.instructions) _ e)) in
      subst (λ (k : Parts). Frames m k whole caller input outcome steps) (sym all)
      (frames_all m whole caller input outcome steps (subst (λ (k : Parts). RunsTo m (reduced k whole) caller input outcome steps) all reduced_runs))

  pub frames : Frames m kept whole caller input outcome steps
  frames = frames_by (renews m.instructions) refl

-- ---- the law of lists
list_frames_all : (m : ClassMethod) (whole : PlainObject) (caller : ℕ) (input : List ℕ) (outcome : Outcome) (steps : ℕ) (list : List Edit) → Lists m (reduced All whole) caller input outcome steps list → all_edited list (reduced All whole) ≡ Ok outcome.object → ListFrames m All whole caller input outcome steps list
list_frames_all m whole caller input outcome steps list lists leads = record {
  lists = subst (λ (x : PlainObject). Lists m whole caller input (record { code = outcome.code; output = outcome.output; object = x }) steps list) (sym (restored_all whole outcome.object))
      (subst (λ (x : PlainObject). Lists m x caller input outcome steps list) (reduced_all whole) lists);
  leads = subst (λ (x : PlainObject). all_edited list whole ≡ Ok x) (sym (restored_all whole outcome.object))
      (subst (λ (x : PlainObject). all_edited list x ≡ Ok outcome.object) (reduced_all whole) leads);
}

module _ (blind : StepsAreBlind) (law : EditsLead) (chains : RunsAreChains) (begins : BytesAreInstructions) (elsewhere : ElsewhereIsStuck) (layouts : HasLayout) (m : ClassMethod) (is_method : IsMethod m) (kept : Parts) (covers : Covers kept (needed m.instructions)) (whole : PlainObject) (caller : ℕ) (input : List ℕ) (outcome : Outcome) (steps : ℕ) (list : List Edit) (reduced_lists : Lists m (reduced kept whole) caller input outcome steps list) (reduced_leads : all_edited list (reduced kept whole) ≡ Ok outcome.object) where
  abbrev listed_caps : Caps
  listed_caps = caps_of m

  abbrev listed_code : List ℕ
  listed_code = spelling m.instructions

  module _ (once : renews m.instructions ≡ false) where
    list_at : (lay : Layout) → IsLayout listed_caps lay → ListsAtExit listed_caps lay listed_code whole (listed_entry listed_caps lay whole caller input) (whole_outcome kept whole outcome) steps list × (all_edited list whole ≡ Ok (restored kept whole outcome.object))
    list_at lay ok =
        let creates = calls Creation m.instructions in
        let may = may_do m.instructions kept covers once in
        let first = listed_entry listed_caps lay (reduced kept whole) caller input in
        let good : IsGood kept whole creates true first = (is_reduced kept creates whole, ap Ok (sym (restored_reduced kept whole)), refl) in
        let l = reduced_lists lay ok in
        let ends = (chains listed_caps lay listed_code (reduced kept whole) steps first outcome steps).1 (omega arith, l.ends) in
        let both = runs blind law listed_caps lay m.instructions is_method.fit begins elsewhere kept whole creates true may steps first good outcome steps ends in
        let back = (chains listed_caps lay listed_code whole steps (lift kept whole creates true first) (whole_outcome kept whole outcome) steps).0 both.ended in
        let b = both_list blind law listed_caps lay m.instructions is_method.fit begins elsewhere kept whole creates true may first outcome steps list refl good l back.1 in (
          subst (λ (w : PlainObject). ListsAtExit listed_caps lay listed_code whole (listed_entry listed_caps lay w caller input) (whole_outcome kept whole outcome) steps list) (restored_reduced kept whole) b.lists,
          b.leads,
        )

    list_frames_once : ListFrames m kept whole caller input outcome steps list
    list_frames_once = record {
      lists = λ lay ok. (list_at lay ok).0;
      leads = (list_at (first_layout listed_caps) (layouts listed_caps (omega (arith, is_method.in_cap)) (omega (arith, is_method.out_cap)))).1;
    }

  list_frames_by : (b : Bool) → renews m.instructions ≡ b → ListFrames m kept whole caller input outcome steps list
  list_frames_by false e = list_frames_once e
  list_frames_by true e =
      let all = all_kept kept
      (covers.bytes (if_true (renews m.instructions) _ e))
      (covers.xattrs (if_true (renews m.instructions) _ e))
      (covers.keys (if_true (renews m.instructions) _ e)) in
      subst (λ (k : Parts). ListFrames m k whole caller input outcome steps list) (sym all)
      (list_frames_all m whole caller input outcome steps list
      (subst (λ (k : Parts). Lists m (reduced k whole) caller input outcome steps list) all reduced_lists)
      (subst (λ (k : Parts). all_edited list (reduced k whole) ≡ Ok outcome.object) all reduced_leads))

  pub list_frames : ListFrames m kept whole caller input outcome steps list
  list_frames = list_frames_by (renews m.instructions) refl

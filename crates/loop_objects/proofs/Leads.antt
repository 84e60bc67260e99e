-- The edits of a run by a budget lead from the object before it to the one after, by the limits of all objects.
use Rattle.std.proofs.Common.{◌≡◌, ◌∙◌, ℕ, zero, suc, ◌+◌, ◌^◌, Bool, true, false, List, [], ◌∷◌, ◌++◌, Option, Some, None, Result, Ok, Err, refl, ap, sym, subst, arith, inl, inr}
use Rattle.std.specs.Prelude.{◌⊎◌, if◌then◌else◌, ◌||◌, not, nat_lt, take, unwrap_or}
use Rattle.std.specs.Option.{option_map}
use Rattle.std.proofs.lemmas.Option.{none-some, same_Some}
use Rattle.bpf_decode.specs.Class.{ClassMethod, IsMethod}
use Rattle.bpf_decode.specs.Instruction.{AllFit, spelling, slots}
use Rattle.bpf_decode.specs.declared.insn.Insn.{Insn}
use Rattle.bpf_decode.specs.declared.insn.Insn.TheVariants.{Alu, Neg, Mov, MovSigned, End, LoadWide, Load, LoadSigned, Store, Jump, JumpLong, Branch, Call, CallLocal, Exit}
use Rattle.object_store.specs.Limits.{profile}
use Rattle.object_store.specs.Object.{PlainObject}
use Rattle.object_store.specs.declared.store_error.StoreError.{StoreError}
use Rattle.txn.specs.Edits.{Edit, and_then, edited, all_edited}
use Rattle.helpers.specs.declared.argument.Argument.{Argument}
use Rattle.helpers.specs.Edits.{edits, EditsLead}
use Rattle.helpers.specs.Effect.{Takes}
use Rattle.helpers.specs.Table.{effect, signature_of}
use Rattle.bpf_machine.specs.declared.caps.Caps.{Caps}
use Rattle.bpf_machine.specs.Blind.{NoCall, elsewhere, StepsAreBlind}
use Rattle.bpf_machine.specs.Decoded.{insn_act}
use Rattle.bpf_machine.specs.Flat.{Layout, arguments, help, step}
use Rattle.bpf_machine.specs.Helper.{Given, asked, answered, write_room}
use Rattle.bpf_machine.specs.Lists.{list_of, listed_host_entry}
use Rattle.bpf_machine.specs.Safe.{caps_of, first_layout, BytesAreInstructions, ElsewhereIsStuck, HasLayout}
use Rattle.bpf_machine.specs.State.{◌>>=◌, only, State, Outcome, outcome_of, with_edits, go}
use Rattle.bpf_machine.specs.Typed.{fetch}
use Rattle.loop_machine.specs.Runs.{Spends, Exits, IsSpent, RunsByBudget}

-- edits, and then more
both_edited : (es more : List Edit) (before mid : PlainObject) → all_edited es before ≡ Ok mid → all_edited (es ++ more) before ≡ all_edited more mid
both_edited [] more before mid e = let same : before ≡ mid = cc in ap (all_edited more) same
both_edited (x ∷ es) more before mid e = by (edited x before) (λ o. both_edited es more o mid) e
  where
    by : (r : Result PlainObject StoreError) → ((o : PlainObject) → all_edited es o ≡ Ok mid → all_edited (es ++ more) o ≡ all_edited more mid) → and_then r (λ o. all_edited es o) ≡ Ok mid → and_then r (λ o. all_edited (es ++ more) o) ≡ all_edited more mid
    by (Ok o) h e = h o e
    by (Err w) h e = absurd cc

-- a state by the limits of all objects, whose list leads to its object
pub record Keeps (before : PlainObject) (s : State ℕ) : Type 0 where
  pub limits : s.limits ≡ profile
  pub list : List Edit
  pub kept : s.edits ≡ Some list
  pub leads : all_edited list before ≡ Ok s.object

module _ (caps : Caps) (lay : Layout) (blind : StepsAreBlind) (law : EditsLead) (before : PlainObject) where
  plain_keeps : (i : Insn) (s t : State ℕ) → NoCall i → insn_act caps lay i s ≡ Some t → Keeps before s → Keeps before t
  plain_keeps i s t other e k =
      let f : State ℕ → State ℕ = elsewhere s.limits s.object s.edits in
      let same : f t ≡ t = same_Some (f t) t (sym (ap (option_map f) e) ∙ blind.acts caps lay s.limits s.object s.edits i s other ∙ e) in
      record {
        limits = sym (ap (λ (u : State ℕ). u.limits) same) ∙ k.limits;
        list = k.list;
        kept = sym (ap (λ (u : State ℕ). u.edits) same) ∙ k.kept;
        leads = k.leads ∙ ap (λ (u : State ℕ). Ok u.object) same;
      }

  has_limits : (s : State ℕ) (args : List Argument) (k : ℕ) (g : Given) → arguments caps lay s args k ≡ Some g → g.limits ≡ s.limits
  has_limits s args k g e =
      let f : Given → Given = λ x. record x { limits = s.limits } in
      ap (λ (x : Given). x.limits) (same_Some g (f g) (sym e ∙ blind.arguments caps lay s.limits s.object s.edits s args k ∙ ap (option_map f) e))

  -- what a helper leaves of a state
  abbrev after_help : ℕ → State ℕ → Given → State ℕ
  after_help id s g =
      let e = effect id s.object (asked g) in
      record { slot = s.slot; regs = answered s.regs e.answer; memory = write_room s.memory g.target e.bytes; object = e.object; out_len = unwrap_or e.out_len s.out_len; caller = s.caller; limits = s.limits; edits = with_edits (edits id s.object (asked g)) s.edits }

  helped_keeps : (id : ℕ) (s : State ℕ) (g : Given) → g.limits ≡ s.limits → Keeps before s → Keeps before (after_help id s g)
  helped_keeps id s g l k = record {
    limits = k.limits;
    list = k.list ++ edits id s.object (asked g);
    kept = ap (with_edits (edits id s.object (asked g))) k.kept;
    leads = both_edited k.list (edits id s.object (asked g)) before s.object k.leads ∙ law id s.object (asked g) (l ∙ k.limits);
  }

  help_keeps : (id : ℕ) (s t : State ℕ) → help caps lay id s ≡ Some t → Keeps before s → Keeps before t
  help_keeps id s t e k = by_signature (signature_of id) e
    where
      given : (o : Option Given) → ((g : Given) → o ≡ Some g → g.limits ≡ s.limits) → (o >>= λ g. Some (after_help id s g)) ≡ Some t → Keeps before t
      given None w h = absurd (none-some t h)
      given (Some g) w h = subst (Keeps before) (same_Some (after_help id s g) t h) (helped_keeps id s g (w g refl) k)

      by_leave : (b : Bool) (o : Option Given) → ((g : Given) → o ≡ Some g → g.limits ≡ s.limits) → only b (o >>= λ g. Some (after_help id s g)) ≡ Some t → Keeps before t
      by_leave true o w h = given o w h
      by_leave false o w h = absurd (none-some t h)

      by_signature : (o : Option Takes) → (o >>= λ takes. only (not takes.writes || caps.writes) (arguments caps lay s takes.arguments 1 >>= λ g. Some (after_help id s g))) ≡ Some t → Keeps before t
      by_signature None h = absurd (none-some t h)
      by_signature (Some takes) h = by_leave (not takes.writes || caps.writes) (arguments caps lay s takes.arguments 1) (has_limits s takes.arguments 1) h

  call_keeps : (id : ℕ) (s t : State ℕ) → insn_act caps lay (Call id) s ≡ Some t → Keeps before s → Keeps before t
  call_keeps id s t e k = by (help caps lay id s) refl e
    where
      by : (o : Option (State ℕ)) → help caps lay id s ≡ o → (o >>= λ u. Some (go (s.slot + 1) u)) ≡ Some t → Keeps before t
      by None is h = absurd (none-some t h)
      by (Some u) is h =
          let kept = help_keeps id s u is k in
          subst (Keeps before) (same_Some (go (s.slot + 1) u) t h) (record { limits = kept.limits; list = kept.list; kept = kept.kept; leads = kept.leads })

  act_keeps : (i : Insn) (s t : State ℕ) → insn_act caps lay i s ≡ Some t → Keeps before s → Keeps before t
  act_keeps (Alu bits operation dst source) s t e k = plain_keeps (Alu bits operation dst source) s t tt e k
  act_keeps (Neg bits dst) s t e k = plain_keeps (Neg bits dst) s t tt e k
  act_keeps (Mov bits dst source) s t e k = plain_keeps (Mov bits dst source) s t tt e k
  act_keeps (MovSigned extension dst src) s t e k = plain_keeps (MovSigned extension dst src) s t tt e k
  act_keeps (End order width dst) s t e k = plain_keeps (End order width dst) s t tt e k
  act_keeps (LoadWide dst value) s t e k = plain_keeps (LoadWide dst value) s t tt e k
  act_keeps (Load width dst base offset) s t e k = plain_keeps (Load width dst base offset) s t tt e k
  act_keeps (LoadSigned width dst base offset) s t e k = plain_keeps (LoadSigned width dst base offset) s t tt e k
  act_keeps (Store width base offset source) s t e k = plain_keeps (Store width base offset source) s t tt e k
  act_keeps (Jump offset) s t e k = plain_keeps (Jump offset) s t tt e k
  act_keeps (JumpLong distance) s t e k = plain_keeps (JumpLong distance) s t tt e k
  act_keeps (Branch bits comparison dst source offset) s t e k = plain_keeps (Branch bits comparison dst source offset) s t tt e k
  act_keeps (Call id) s t e k = call_keeps id s t e k
  act_keeps (CallLocal distance) s t e k = plain_keeps (CallLocal distance) s t tt e k
  act_keeps Exit s t e k = plain_keeps Exit s t tt e k

  module _ (is : List Insn) (fit : AllFit is) (decoded : BytesAreInstructions) (stuck : ElsewhereIsStuck) where
    step_keeps : (s t : State ℕ) → step caps lay (spelling is) s ≡ Some t → Keeps before s → Keeps before t
    step_keeps s t e k = by (fetch (slots is) s.slot) refl
      where
        by : (f : Option Insn) → fetch (slots is) s.slot ≡ f → Keeps before t
        by None at = absurd (none-some t (sym (stuck caps lay is s at).no_step ∙ e))
        by (Some i) at = act_keeps i s t (sym (decoded caps lay is fit s i at).acts ∙ e) k

    chain_keeps : (n taken : ℕ) (s t : State ℕ) → Spends caps lay (spelling is) n taken s t → Keeps before s → Keeps before t
    chain_keeps zero taken s t e k = subst (Keeps before) e.1 k
    chain_keeps (suc n) taken s t c k = chain_keeps n c.1 c.0 t c.4 (step_keeps s c.0 c.2 k)

-- ---- the end of a run
-- the outcome of a code that isn't negative, and of one that is
abbrev ended : PlainObject → ℕ → State ℕ → Bool → Outcome
ended before code s b = if b then record { code = code; output = take s.out_len s.memory.output; object = s.object } else record { code = code; output = []; object = before }

-- at an exit the list is the state's, or empty where the code is negative
exit_leads : (before : PlainObject) (code : ℕ) (s : State ℕ) → Keeps before s → all_edited (list_of code s) before ≡ Ok (outcome_of before code s).object
exit_leads before code s k = by (nat_lt code (2 ^ 63))
  where
    kept : all_edited (unwrap_or s.edits []) before ≡ Ok s.object
    kept = ap (λ (o : Option (List Edit)). all_edited (unwrap_or o []) before) k.kept ∙ k.leads

    by : (b : Bool) → all_edited (if b then unwrap_or s.edits [] else []) before ≡ Ok (ended before code s b).object
    by true = kept
    by false = refl

ends_lead : (caps : Caps) (lay : Layout) (code : List ℕ) (budget : ℕ) (before : PlainObject) (count taken : ℕ) (s : State ℕ) (outcome : Outcome) (steps : ℕ) (list : List Edit) → Keeps before s →
    Exits caps lay code budget before count taken s outcome steps list ⊎ IsSpent caps lay code budget before taken s outcome steps list → all_edited list before ≡ Ok outcome.object
ends_lead caps lay code budget before count taken s outcome steps list k (inl e) =
    ap (λ (es : List Edit). all_edited es before) e.list_is ∙ exit_leads before e.value s k ∙ ap (λ (o : Outcome). Ok o.object) (sym e.outcome_is)
ends_lead caps lay code budget before count taken s outcome steps list k (inr e) =
    ap (λ (es : List Edit). all_edited es before) e.list_is ∙ ap (λ (o : Outcome). Ok o.object) (sym e.outcome_is)

-- The list of a run by these limits.
pub runs_lead : StepsAreBlind → EditsLead → BytesAreInstructions → ElsewhereIsStuck → HasLayout → (m : ClassMethod) → IsMethod m → (budget : ℕ) (o : PlainObject) (caller : ℕ) (input : List ℕ) (outcome : Outcome) (steps : ℕ) (list : List Edit) →
    RunsByBudget profile m budget o caller input outcome steps list → all_edited list o ≡ Ok outcome.object
runs_lead blind law decoded stuck layout m ok budget o caller input outcome steps list runs =
    let caps = caps_of m in
    let lay = first_layout caps in
    let in_cap = ok.in_cap in
    let out_cap = ok.out_cap in
    let r = runs lay (layout caps (omega (arith, in_cap)) (omega (arith, out_cap))) in
    let begun : Keeps o (listed_host_entry profile caps lay o caller input) = record { limits = refl; list = []; kept = refl; leads = refl } in
    let last = chain_keeps caps lay blind law o m.instructions ok.fit decoded stuck r.count r.taken _ r.last r.chain begun in
    ends_lead caps lay (spelling m.instructions) budget o r.count r.taken r.last outcome steps list last r.ends

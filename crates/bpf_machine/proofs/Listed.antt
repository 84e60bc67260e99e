-- A typed run that ends has a list, which is one for all layouts and makes of the object before the
-- object after.
use Rattle.std.proofs.Common.{◌≡◌, ℕ, zero, suc, ◌+◌, ◌^◌, List, [], ◌∷◌, ◌++◌, Option, Some, None, Result, Ok, Err, Bool, true, false, refl, ap, ◌∙◌, sym, subst, length}
use Rattle.std.specs.Prelude.{nat_lt, if◌then◌else◌, unwrap_or, ◌||◌, not, take}
use Rattle.std.specs.Option.{option_map}
use Rattle.std.proofs.lemmas.Option.{none-some, same_Some}
use Rattle.bpf_decode.specs.declared.insn.Insn.{Insn}
use Rattle.bpf_decode.specs.declared.insn.Insn.TheVariants.{Alu, Neg, Mov, MovSigned, End, LoadWide, Load, LoadSigned, Store, Jump, JumpLong, Branch, Call, CallLocal, Exit}
use Rattle.bpf_decode.specs.Instruction.{spelling, slots, AllFit}
use Rattle.bpf_decode.specs.declared.value.Value.TheVariants.{Num}
use Rattle.bpf_machine.specs.declared.caps.Caps.{Caps}
use Rattle.object_store.specs.declared.limits.Limits.{Limits}
use Rattle.object_store.specs.Limits.{profile, IsLimits}
use Rattle.object_store.specs.Object.{PlainObject}
use Rattle.helpers.specs.declared.argument.Argument.{Argument}
use Rattle.helpers.specs.declared.argument.Argument.TheVariants.{Number, OutputLength, Readable, Writable}
use Rattle.object_store.specs.declared.store_error.StoreError.{StoreError}
use Rattle.txn.specs.Edits.{Edit, edited, and_then, all_edited}
use Rattle.txn.specs.Made.{made, all_made}
use Rattle.helpers.specs.Effect as table
use Rattle.helpers.specs.Table.{signature_of, effect}
use Rattle.helpers.specs.Edits.{edits, EditsLead, EditsMake}
use Rattle.bpf_machine.specs.State.{◌>>=◌, only, State, reg, Outcome, Ended, goes_on, go, with_edits}
use Rattle.helpers.specs.Effect.{Takes}
use Rattle.bpf_machine.specs.Helper.{Given, asked, answered}
use Rattle.bpf_machine.specs.Flat.{Layout, IsLayout, step, exit_code, Chain}
use Rattle.bpf_machine.specs.Typed.{Typed, fetch, number, typed_range, typed_text, typed_room, typed_outcome, typed_arguments, typed_help, typed_act, typed_exit_of, typed_ends, typed_run, typed_entry, typed_host_entry, image}
use Rattle.bpf_machine.specs.Safe.{caps_of, first_layout}
use Rattle.bpf_machine.specs.Lists.{list_of, ListsAtExit, listed_entry, EndsHaveLists, EndsHaveListsWithin, ListsAreOne}
use Rattle.bpf_machine.proofs.Kept.{Where, where_some, where_bind, where_only}
use Rattle.bpf_machine.proofs.Sim.{Any, same, sim_eq}
use Rattle.bpf_machine.proofs.Rows.{act_sim, exit_sim}
use Rattle.bpf_machine.proofs.Fetch.{bytes_are_instructions}
use Rattle.bpf_machine.proofs.Counting.{one_less, exit_stops, ends_here, ends_later}
use Rattle.bpf_machine.proofs.Runs.{entry_image, has_layout}
use Rattle.bpf_machine.proofs.Unlisted.{NoCall, unlisted, leaves_both, act_unlisted, exit_both}

-- a list after another
pub both_edited : (es more : List Edit) (before mid : PlainObject) → all_edited es before ≡ Ok mid → all_edited (es ++ more) before ≡ all_edited more mid
both_edited [] more before mid e = let same : before ≡ mid = cc in ap (all_edited more) same
both_edited (x ∷ es) more before mid e = by (edited x before) (λ o. both_edited es more o mid) e
  where
    by : (r : Result PlainObject StoreError) → ((o : PlainObject) → all_edited es o ≡ Ok mid → all_edited (es ++ more) o ≡ all_edited more mid) → and_then r (λ o. all_edited es o) ≡ Ok mid → and_then r (λ o. all_edited (es ++ more) o) ≡ all_edited more mid
    by (Ok o) rest h = rest o h
    by (Err x) rest h = absurd (cc)

pub both_made : (es more : List Edit) (before : PlainObject) → all_made (es ++ more) before ≡ all_made more (all_made es before)
both_made [] more before = refl
both_made (x ∷ es) more before = both_made es more (made x before)

-- A sense in which lists lead to objects: the empty one to the object before the run, and one that
-- leads to an object, with the edits of a helper there, to the object that the helper leaves.
pub record IsPath (limits : Limits) (before : PlainObject) (Leads : List Edit → PlainObject → Type 0) : Type 0 where
  pub begins : Leads [] before
  pub goes_on : (es : List Edit) (object : PlainObject) (id : ℕ) (g : table.Given) → g.limits ≡ limits → Leads es object → Leads (es ++ edits id object g) (effect id object g).object

-- the list so far makes of the object before the object as it is
pub record Keeps (l : Limits) (Leads : List Edit → PlainObject → Type 0) (s : Typed) : Type 0 where
  pub limits : s.limits ≡ l
  pub list : List Edit
  pub kept : s.edits ≡ Some list
  pub leads : Leads list s.object

-- a helper of a state is given the state's limits
abbrev HasLimits : Typed → Given → Type 0
HasLimits s g = g.limits ≡ s.limits

given_limits : (caps : Caps) (s : Typed) (args : List Argument) (k : ℕ) → Where (HasLimits s) (typed_arguments caps s args k)
given_limits caps s [] k = where_some (HasLimits s) _ refl
given_limits caps s (Number ∷ more) k =
    where_bind (HasLimits s) (reg s k) _ (λ v _. where_bind (HasLimits s) (number v) _ (λ n _.
    where_bind (HasLimits s) (typed_arguments caps s more (k + 1)) _ (λ g e. where_some (HasLimits s) _ ((given_limits caps s more (k + 1)).by g e))))
given_limits caps s (OutputLength ∷ more) k =
    where_bind (HasLimits s) (reg s k) _ (λ v _. where_bind (HasLimits s) (number v) _ (λ n _. where_only (HasLimits s) _ _
    (where_bind (HasLimits s) (typed_arguments caps s more (k + 1)) _ (λ g e. where_some (HasLimits s) _ ((given_limits caps s more (k + 1)).by g e)))))
given_limits caps s (Readable ∷ more) k =
    where_bind (HasLimits s) (reg s k) _ (λ at _. where_bind (HasLimits s) (reg s (k + 1)) _ (λ v _. where_bind (HasLimits s) (number v) _ (λ n _.
    where_bind (HasLimits s) (typed_range caps false at n) _ (λ p _. where_bind (HasLimits s) (typed_text s.memory p n) _ (λ text _.
    where_bind (HasLimits s) (typed_arguments caps s more (k + 2)) _ (λ g e. where_some (HasLimits s) _ ((given_limits caps s more (k + 2)).by g e)))))))
given_limits caps s (Writable ∷ more) k =
    where_bind (HasLimits s) (reg s k) _ (λ at _. where_bind (HasLimits s) (reg s (k + 1)) _ (λ v _. where_bind (HasLimits s) (number v) _ (λ n _.
    where_bind (HasLimits s) (typed_range caps true at n) _ (λ p _.
    where_bind (HasLimits s) (typed_arguments caps s more (k + 2)) _ (λ g e. where_some (HasLimits s) _ ((given_limits caps s more (k + 2)).by g e))))))

module _ (limits : Limits) (before : PlainObject) (Leads : List Edit → PlainObject → Type 0) (path : IsPath limits before Leads) (caps : Caps) where
  plain_keeps : (i : Insn) (s t : Typed) → NoCall i → typed_act caps i s ≡ Some t → Keeps limits Leads s → Keeps limits Leads t
  plain_keeps i s t other e k =
      let same = leaves_both caps i s t other e in
      record { limits = ap (λ t. t.limits) same ∙ k.limits; list = k.list; kept = ap (λ t. t.edits) same ∙ k.kept; leads = subst (Leads k.list) (sym (ap (λ t. t.object) same)) k.leads }

  -- what a helper leaves of a state
  abbrev after_help : Caps → ℕ → Typed → Given → Typed
  after_help caps id s g =
      let e = effect id s.object (asked g) in
      record { slot = s.slot; regs = answered s.regs (Num e.answer); memory = typed_room s.memory g.target e.bytes; object = e.object; out_len = unwrap_or e.out_len s.out_len; caller = s.caller; limits = s.limits; edits = with_edits (edits id s.object (asked g)) s.edits }

  abbrev helped_by : Caps → ℕ → Typed → Given → Option Typed
  helped_by caps id s g = Some (after_help caps id s g)

  help_keeps : (id : ℕ) (s t : Typed) → typed_help caps id s ≡ Some t → Keeps limits Leads s → Keeps limits Leads t
  help_keeps id s t e k = by_signature (signature_of id) e
    where
      given : (o : Option Given) → Where (HasLimits s) o → (o >>= λ g. helped_by caps id s g) ≡ Some t → Keeps limits Leads t
      given None w h = absurd (none-some t h)
      given (Some g) w h =
          let after : Typed = after_help caps id s g in
          let same : after ≡ t = same_Some after t h in
          subst (Keeps limits Leads) same (record {
            list = k.list ++ edits id s.object (asked g);
            kept = ap (with_edits (edits id s.object (asked g))) k.kept;
            leads = path.goes_on k.list s.object id (asked g) (w.by g refl ∙ k.limits) k.leads;
            limits = k.limits;
          })

      by_leave : (b : Bool) (o : Option Given) → Where (HasLimits s) o → only b (o >>= λ g. helped_by caps id s g) ≡ Some t → Keeps limits Leads t
      by_leave true o w h = given o w h
      by_leave false o w h = absurd (none-some t h)

      by_signature : (o : Option Takes) → (o >>= λ takes. only (not takes.writes || caps.writes) (typed_arguments caps s takes.arguments 1 >>= λ g. helped_by caps id s g)) ≡ Some t → Keeps limits Leads t
      by_signature None h = absurd (none-some t h)
      by_signature (Some takes) h = by_leave (not takes.writes || caps.writes) (typed_arguments caps s takes.arguments 1) (given_limits caps s takes.arguments 1) h

  call_keeps : (id : ℕ) (s t : Typed) → typed_act caps (Call id) s ≡ Some t → Keeps limits Leads s → Keeps limits Leads t
  call_keeps id s t e k = by (typed_help caps id s) refl e
    where
      by : (o : Option Typed) → typed_help caps id s ≡ o → (o >>= λ u. Some (go (s.slot + 1) u)) ≡ Some t → Keeps limits Leads t
      by None is h = absurd (none-some t h)
      by (Some u) is h =
          let kept = help_keeps id s u is k in
          let same : go (s.slot + 1) u ≡ t = same_Some (go (s.slot + 1) u) t h in
          subst (Keeps limits Leads) same (record { limits = kept.limits; list = kept.list; kept = kept.kept; leads = kept.leads })

  pub act_keeps : (i : Insn) (s t : Typed) → typed_act caps i s ≡ Some t → Keeps limits Leads s → Keeps limits Leads t
  act_keeps (Alu bits operation dst source) s t e k = plain_keeps (Alu bits operation dst source) s t tt e k
  act_keeps (Neg bits dst) s t e k = plain_keeps (Neg bits dst) s t tt e k
  act_keeps (Mov bits dst source) s t e k = plain_keeps (Mov bits dst source) s t tt e k
  act_keeps (MovSigned extension dst src) s t e k = plain_keeps (MovSigned extension dst src) s t tt e k
  act_keeps (End order width dst) s t e k = plain_keeps (End order width dst) s t tt e k
  act_keeps (LoadWide dst value) s t e k = plain_keeps (LoadWide dst value) s t tt e k
  act_keeps (Load width dst base offset) s t e k = plain_keeps (Load width dst base offset) s t tt e k
  act_keeps (LoadSigned width dst base offset) s t e k = plain_keeps (LoadSigned width dst base offset) s t tt e k
  act_keeps (Store width base offset source) s t e k = plain_keeps (Store width base offset source) s t tt e k
  act_keeps (Jump offset) s t e k = plain_keeps (Jump offset) s t tt e k
  act_keeps (JumpLong distance) s t e k = plain_keeps (JumpLong distance) s t tt e k
  act_keeps (Branch bits comparison dst source offset) s t e k = plain_keeps (Branch bits comparison dst source offset) s t tt e k
  act_keeps (Call id) s t e k = call_keeps id s t e k
  act_keeps (CallLocal distance) s t e k = plain_keeps (CallLocal distance) s t tt e k
  act_keeps Exit s t e k = plain_keeps Exit s t tt e k

  module _ (is : List Insn) (fit : AllFit is) where
    -- from here on the run has a list, in every layout
    pub record HasList (s : Typed) (o : Outcome) (k : ℕ) : Type 0 where
      pub list : List Edit
      pub leads : Leads list o.object
      pub lists : (lay : Layout) → IsLayout caps lay → ListsAtExit caps lay (spelling is) before (image lay s) o k list

    at_exit : (s : Typed) (i : Insn) (v : ℕ) (o : Outcome) (k : ℕ) → fetch (slots is) s.slot ≡ Some i → typed_exit_of i s ≡ Some v → Keeps limits Leads s → Ended (typed_outcome before v s) 1 ≡ Ended o k → HasList s o k
    unfolding ends_here
    at_exit s i v o k at exit kept h =
        let is_o : typed_outcome before v s ≡ o = cc in
        let one : 1 ≡ k = cc in
        record {
          list = list_of v s;
          leads = subst (λ o. Leads (list_of v s) o.object) is_o (by (nat_lt v (2 ^ 63)));
          lists = λ lay ok.
              let b = bytes_are_instructions caps lay is fit (image lay s) i at in
              let here : exit_code (spelling is) (image lay s) ≡ Some v = ((sim_eq Any same _ _ _ b.exits (exit_sim caps lay i s)).by v exit).1 in
              record { ends = ends_here caps lay (spelling is) before (image lay s) o k v here (sym is_o) one; list_is = refl };
        }
      where
        outcome : Bool → Outcome
        outcome b = if b then record { code = v; output = take s.out_len s.memory.output; object = s.object } else record { code = v; output = []; object = before }

        by : (b : Bool) → Leads (if b then unwrap_or s.edits [] else []) (outcome b).object
        by true = subst (λ e. Leads (unwrap_or e []) s.object) (sym kept.kept) kept.leads
        by false = path.begins

    at_step : (s t : Typed) (i : Insn) (o : Outcome) (j k : ℕ) → fetch (slots is) s.slot ≡ Some i → typed_act caps i s ≡ Some t → suc j ≡ k → HasList t o j → HasList s o k
    unfolding ends_later
    at_step s t i o j k at acts counts rest = record {
      list = rest.list;
      leads = rest.leads;
      lists = λ lay ok.
          let b = bytes_are_instructions caps lay is fit (image lay s) i at in
          let goes : step caps lay (spelling is) (image lay s) ≡ Some (image lay t) = ((sim_eq Any (image lay) _ _ _ b.acts (act_sim caps lay ok i s)).by t acts).1 in
          let e = rest.lists lay ok in
          record { ends = ends_later caps lay (spelling is) before (image lay s) (image lay t) o j k goes counts e.ends; list_is = e.list_is };
    }

    abbrev Rest : ℕ → Outcome → Type 0
    Rest n o = (t : Typed) (j : ℕ) → Keeps limits Leads t → typed_run caps (slots is) before n (unlisted t) ≡ Ended o j → HasList t o j

    walk : (n : ℕ) (s : Typed) (o : Outcome) (k : ℕ) → Keeps limits Leads s → typed_run caps (slots is) before n (unlisted s) ≡ Ended o k → HasList s o k
    walk zero s o k kept h = cc
    walk (suc n) s o k kept h = at (fetch (slots is) s.slot) refl (λ t j. walk n t o j) h
      where
        by_step : (i : Insn) → fetch (slots is) s.slot ≡ Some i → (y : Option Typed) → typed_act caps i s ≡ y → Rest n o → goes_on (option_map unlisted y) (typed_run caps (slots is) before n) ≡ Ended o k → HasList s o k
        by_step i at None acts more h = cc
        by_step i at (Some t) acts more h =
            let l = one_less (typed_run caps (slots is) before n (unlisted t)) o k h in
            at_step s t i o l.0 k at acts l.2 (more t l.0 (act_keeps i s t acts kept) l.1)

        by_exit : (i : Insn) → fetch (slots is) s.slot ≡ Some i → (x : Option ℕ) → typed_exit_of i s ≡ x → Rest n o → typed_ends before (unlisted s) x (goes_on (typed_act caps i (unlisted s)) (typed_run caps (slots is) before n)) ≡ Ended o k → HasList s o k
        by_exit i at (Some v) exit more h = at_exit s i v o k at exit kept h
        by_exit i at None exit more h =
            by_step i at (typed_act caps i s) refl more (ap (λ a. goes_on a (typed_run caps (slots is) before n)) (act_unlisted caps i s) ∙ h)

        at : (f : Option Insn) → fetch (slots is) s.slot ≡ f → Rest n o → typed_ends before (unlisted s) (f >>= λ i. typed_exit_of i (unlisted s)) (goes_on (f >>= λ i. typed_act caps i (unlisted s)) (typed_run caps (slots is) before n)) ≡ Ended o k → HasList s o k
        at None e more h = cc
        at (Some i) e more h =
            by_exit i e (typed_exit_of i s) refl more (ap (λ x. typed_ends before (unlisted s) x (goes_on (typed_act caps i (unlisted s)) (typed_run caps (slots is) before n))) (exit_both caps s.limits s.object None i s) ∙ h)

pub ends_have_lists : EditsLead → EndsHaveLists
ends_have_lists law m fit object caller input outcome steps h =
    let Leads : List Edit → PlainObject → Type 0 = λ es o. all_edited es object ≡ Ok o in
    let path : IsPath profile object Leads = record { begins = refl; goes_on = λ es mid id g l e. both_edited es (edits id mid g) object mid e ∙ law id mid g l } in
    let start : Typed = record (typed_entry (caps_of m) object caller input) { edits = Some [] } in
    let w = walk profile object Leads path (caps_of m) m.instructions fit (length m.instructions) start outcome steps (record { limits = refl; list = []; kept = refl; leads = refl }) h in (
      w.list,
      λ lay ok.
          let P : State ℕ → Type 0 = λ s. ListsAtExit (caps_of m) lay (spelling m.instructions) object s outcome steps w.list in
          subst P (ap (λ (s : State ℕ). record s { edits = Some [] }) (entry_image (caps_of m) lay ok object caller input)) (w.lists lay ok),
      w.leads,
    )

pub ends_have_lists_within : EditsMake → EndsHaveListsWithin
ends_have_lists_within law m fit limits allowed object caller input outcome steps h =
    let Leads : List Edit → PlainObject → Type 0 = λ es o. all_made es object ≡ o in
    let path : IsPath limits object Leads = record {
      begins = refl;
      goes_on = λ es mid id g l e.
          both_made es (edits id mid g) object
          ∙ ap (all_made (edits id mid g)) e
          ∙ law id mid g (subst IsLimits (sym l) allowed);
    } in
    let start : Typed = record (typed_host_entry limits (caps_of m) object caller input) { edits = Some [] } in
    let w = walk limits object Leads path (caps_of m) m.instructions fit (length m.instructions) start outcome steps (record { limits = refl; list = []; kept = refl; leads = refl }) h in (
      w.list,
      λ lay ok.
          let P : State ℕ → Type 0 = λ s. ListsAtExit (caps_of m) lay (spelling m.instructions) object s outcome steps w.list in
          subst P (ap (λ (s : State ℕ). record s { limits = limits; edits = Some [] }) (entry_image (caps_of m) lay ok object caller input)) (w.lists lay ok),
      w.leads,
    )

-- two ways to an exit are one
module _ (caps : Caps) (lay : Layout) (code : List ℕ) where
  stays : (s t : State ℕ) (v : ℕ) → exit_code code s ≡ Some v → step caps lay code s ≡ Some t → ⊥
  stays s t v exit goes = none-some t (sym (exit_stops caps lay code s v exit) ∙ goes)

  same_last : (s : State ℕ) (v w : ℕ) → exit_code code s ≡ Some v → exit_code code s ≡ Some w → list_of v s ≡ list_of w s
  same_last s v w a b = let same : v ≡ w = same_Some v w (sym a ∙ b) in ap (λ n. list_of n s) same

  one_list : (j k : ℕ) (s l m : State ℕ) (v w : ℕ) → Chain caps lay code j s l → exit_code code l ≡ Some v → Chain caps lay code k s m → exit_code code m ≡ Some w → list_of v l ≡ list_of w m
  one_list zero zero s l m v w a x b y =
      let A : State ℕ → Type 0 = λ l. exit_code code l ≡ Some v in
      let B : State ℕ → Type 0 = λ m. exit_code code m ≡ Some w in
      ap (list_of v) (sym a) ∙ same_last s v w (subst A (sym a) x) (subst B (sym b) y) ∙ ap (list_of w) b
  one_list zero (suc k) s l m v w a x b y =
      let A : State ℕ → Type 0 = λ l. exit_code code l ≡ Some v in
      absurd (stays s b.0 v (subst A (sym a) x) b.1)
  one_list (suc j) zero s l m v w a x b y =
      let B : State ℕ → Type 0 = λ m. exit_code code m ≡ Some w in
      absurd (stays s a.0 w (subst B (sym b) y) a.1)
  one_list (suc j) (suc k) s l m v w a x b y =
      let C : State ℕ → Type 0 = λ t. Chain caps lay code k t m in
      one_list j k a.0 l m v w a.2 x (subst C (same_Some b.0 a.0 (sym b.1 ∙ a.1)) b.2) y

pub lists_are_one : ListsAreOne
lists_are_one m in_fits out_fits object caller input p q j k a b x y =
    let lay = first_layout (caps_of m) in
    let ok = has_layout (caps_of m) in_fits out_fits in
    let l = x lay ok in
    let r = y lay ok in
    l.list_is
    ∙ one_list (caps_of m) lay (spelling m.instructions) l.ends.before_exit r.ends.before_exit (listed_entry (caps_of m) lay object caller input) l.ends.last r.ends.last l.ends.value r.ends.value l.ends.chain l.ends.exit r.ends.chain r.ends.exit
    ∙ sym r.list_is

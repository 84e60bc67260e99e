-- A step on the reduced object is one on the whole object.
use Rattle.std.proofs.Common.{◌≡◌, ◌∙◌, ℕ, ◌+◌, Bool, true, false, List, [], ◌∷◌, ◌++◌, Option, Some, None, Result, Ok, Err, refl, ap, sym, subst}
use Rattle.std.specs.Prelude.{not, ◌||◌, unwrap_or}
use Rattle.std.specs.Option.{option_map}
use Rattle.std.proofs.lemmas.Option.{none-some, same_Some}
use Rattle.bpf_decode.specs.declared.insn.Insn.{Insn}
use Rattle.bpf_decode.specs.declared.insn.Insn.TheVariants.{Call}
use Rattle.object_store.specs.Object.{PlainObject}
use Rattle.helpers.specs.declared.helper.Helper.{Helper}
use Rattle.object_store.specs.declared.store_error.StoreError.{StoreError}
use Rattle.txn.specs.Edits.{Edit, edited, and_then, all_edited}
use Rattle.helpers.specs.Edits.{if_done, edits_row, helper_edits, edits_of, EditsLead}
use Rattle.helpers.specs.declared.helper.Helper.TheVariants.{Stat, Read, Write, Truncate, Remove, GetXattr, SetXattr, RmXattr, MapGet, MapSet, MapRm, MapNext, OutLen, Create, Caller, Compare, Copy, XattrNext}
use Rattle.helpers.specs.Effect as table
use Rattle.helpers.specs.Table.{row, helper_of, effect_of}
use Rattle.bpf_machine.specs.declared.caps.Caps.{Caps}
use Rattle.bpf_machine.specs.State.{◌>>=◌, only, State, go, with_edits}
use Rattle.bpf_machine.specs.Helper.{Given, asked, answered, write_room}
use Rattle.bpf_machine.specs.Flat.{Layout, arguments, help, flat_after}
use Rattle.bpf_machine.specs.Blind.{NoCall, elsewhere, StepsAreBlind}
use Rattle.bpf_machine.specs.Decoded.{insn_act, insn_exit_of}
use Rattle.footprint.specs.declared.parts.Parts.{Parts}
use Rattle.footprint.specs.Parts.{restored}
use Rattle.object_store.specs.Limits.{profile}
use Rattle.footprint.proofs.Moves.{each_insn, given_limits, arguments_elsewhere, plain_leaves}
use Rattle.footprint.proofs.Helpers.{IsReduced, Matches, MayCall, matches}

-- what code may call: each helper whose id an instruction has
abbrev pub MayDo : Parts → Bool → Insn → Type 0
MayDo kept creates (Call id) = (h : Helper) → helper_of id ≡ Some h → MayCall kept creates h
MayDo kept creates i = Unit {0}

-- a list after another
both_edited : (es more : List Edit) (before mid : PlainObject) → all_edited es before ≡ Ok mid → all_edited (es ++ more) before ≡ all_edited more mid
both_edited [] more before mid e = let same : before ≡ mid = cc in ap (all_edited more) same
both_edited (x ∷ es) more before mid e = by (edited x before) (λ o. both_edited es more o mid) e
  where
    by : (r : Result PlainObject StoreError) → ((o : PlainObject) → all_edited es o ≡ Ok mid → all_edited (es ++ more) o ≡ all_edited more mid) → and_then r (λ o. all_edited es o) ≡ Ok mid → and_then r (λ o. all_edited (es ++ more) o) ≡ all_edited more mid
    by (Ok o) rest h = rest o h
    by (Err x) rest h = absurd (cc)

-- a helper's edits rest on whether there is an object, and on nothing that is left out
row_same : (kept : Parts) (whole : PlainObject) (h : Helper) (x : PlainObject) (g : table.Given) → edits_row h (restored kept whole x) g ≡ edits_row h x g
row_same kept whole Stat x g = refl
row_same kept whole Read x g = refl
row_same kept whole Write None g = refl
row_same kept whole Write (Some c) g = refl
row_same kept whole Truncate x g = refl
row_same kept whole Remove x g = refl
row_same kept whole GetXattr x g = refl
row_same kept whole SetXattr None g = refl
row_same kept whole SetXattr (Some c) g = refl
row_same kept whole RmXattr x g = refl
row_same kept whole MapGet x g = refl
row_same kept whole MapSet None g = refl
row_same kept whole MapSet (Some c) g = refl
row_same kept whole MapRm x g = refl
row_same kept whole MapNext x g = refl
row_same kept whole OutLen x g = refl
row_same kept whole Create None g = refl
row_same kept whole Create (Some c) g = refl
row_same kept whole Caller x g = refl
row_same kept whole Compare x g = refl
row_same kept whole Copy x g = refl
row_same kept whole XattrNext x g = refl

module _ (kept : Parts) (whole : PlainObject) (creates listing : Bool) where
  -- the state with the whole object
  abbrev pub lift : State ℕ → State ℕ
  lift s = record s { object = restored kept whole s.object }

  -- the list so far makes of the whole object the restored one; it is absent where none is kept
  abbrev pub LeadsSoFar : Option (List Edit) → PlainObject → Type 0
  LeadsSoFar None o = listing ≡ false
  LeadsSoFar (Some es) o = all_edited es whole ≡ Ok (restored kept whole o)

  abbrev pub IsGood : State ℕ → Type 0
  IsGood s = IsReduced kept whole creates s.object × LeadsSoFar s.edits s.object × (s.limits ≡ profile)

  -- where one comes out, the other comes out too, with the whole object
  pub record Lifts (a b : Option (State ℕ)) : Type 0 where
    pub by : (t : State ℕ) → a ≡ Some t → IsGood t × (b ≡ Some (lift t))

  lifts_none : (b : Option (State ℕ)) → Lifts None b
  lifts_none b = record { by = λ t e. absurd (none-some t e) }

  lifts_some : (t : State ℕ) → IsGood t → Lifts (Some t) (Some (lift t))
  lifts_some t g = record {
    by = λ u e.
        let same = same_Some t u e in
        (subst IsGood same g, ap (λ (v : State ℕ). Some (lift v)) same);
  }

  lifts_only : (t : Bool) (a b : Option (State ℕ)) → Lifts a b → Lifts (only t a) (only t b)
  lifts_only true a b l = l
  lifts_only false a b l = lifts_none None

  -- the same by what there is
  lifts_by : {A : Type 0} (o : Option A) (f g : A → Option (State ℕ)) → ((x : A) → o ≡ Some x → Lifts (f x) (g x)) → Lifts (o >>= f) (o >>= g)
  lifts_by None f g h = lifts_none None
  lifts_by (Some x) f g h = h x refl

  lifts_go : (n : ℕ) (a b : Option (State ℕ)) → Lifts a b → Lifts (a >>= λ t. Some (go n t)) (b >>= λ t. Some (go n t))
  lifts_go n None b l = lifts_none _
  lifts_go n (Some t) b l =
      let r = l.by t refl in
      record {
        by = λ u e.
            let m = (lifts_some (go n t) r.0).by u e in
            (m.0, ap (λ (o : Option (State ℕ)). o >>= λ t. Some (go n t)) r.1 ∙ m.1);
      }

module _ (blind : StepsAreBlind) (law : EditsLead) (caps : Caps) (lay : Layout) (kept : Parts) (whole : PlainObject) (creates listing : Bool) where
  abbrev Good : State ℕ → Type 0
  Good s = IsGood kept whole creates listing s

  abbrev L : Option (State ℕ) → Option (State ℕ) → Type 0
  L a b = Lifts kept whole creates listing a b

  abbrev up : State ℕ → State ℕ
  up s = lift kept whole creates listing s

  after : (s : State ℕ) (a b : Option (State ℕ)) → L a b → L (flat_after caps lay s a) (flat_after caps lay (up s) b)
  after s a b l = lifts_go kept whole creates listing (s.slot + 1) a b l

  -- the state that an effect leaves
  abbrev done : State ℕ → Given → table.Effect → List Edit → State ℕ
  done s g e es =
      record { slot = s.slot; regs = answered s.regs e.answer; memory = write_room s.memory g.target e.bytes; object = e.object; out_len = unwrap_or e.out_len s.out_len; caller = s.caller; limits = s.limits; edits = with_edits es s.edits }

  done_lifts : (s : State ℕ) (g : Given) (e f : table.Effect) (es fs : List Edit) → Matches kept whole creates e f → fs ≡ es → LeadsSoFar kept whole creates listing (with_edits es s.edits) e.object → s.limits ≡ profile → L (Some (done s g e es)) (Some (done (up s) g f fs))
  done_lifts s g e f es fs m same leads limits =
      subst (λ (x : List Edit). L (Some (done s g e es)) (Some (done (up s) g f x))) (sym same)
      (subst (λ (x : table.Effect). L (Some (done s g e es)) (Some (done (up s) g x es))) (sym m.same) (lifts_some kept whole creates listing (done s g e es) (m.good, leads, limits)))

  -- the edits of a helper on the whole object
  edits_same : (h : Helper) (x : PlainObject) (g : table.Given) → Matches kept whole creates ((row h).effect x g) ((row h).effect (restored kept whole x) g) → helper_edits h (restored kept whole x) g ≡ helper_edits h x g
  edits_same h x g m =
      ap (λ (f : table.Effect). if_done f.answer (edits_row h (restored kept whole x) g)) m.same
      ∙ ap (if_done ((row h).effect x g).answer) (row_same kept whole h x g)

  -- they go on where the list so far ended
  leads_on : (h : Helper) (es : Option (List Edit)) (x : PlainObject) (g : table.Given) → all_edited (helper_edits h (restored kept whole x) g) (restored kept whole x) ≡ Ok ((row h).effect (restored kept whole x) g).object →
      Matches kept whole creates ((row h).effect x g) ((row h).effect (restored kept whole x) g) → LeadsSoFar kept whole creates listing es x → LeadsSoFar kept whole creates listing (with_edits (helper_edits h x g) es) ((row h).effect x g).object
  leads_on h None x g lead m so_far = so_far
  leads_on h (Some es) x g lead m so_far =
      both_edited es (helper_edits h x g) whole (restored kept whole x) so_far
      ∙ ap (λ (more : List Edit). all_edited more (restored kept whole x)) (sym (edits_same h x g m))
      ∙ lead
      ∙ ap (λ (f : table.Effect). Ok f.object) m.same

  -- a helper by its id
  help_by : (s : State ℕ) (o : Option Helper) → ((x : PlainObject) (g : table.Given) → g.limits ≡ profile → all_edited (edits_of o x g) x ≡ Ok (effect_of o x g).object) → ((h : Helper) → o ≡ Some h → MayCall kept creates h) → Good s →
      L (option_map (λ h. (row h).takes) o >>= λ takes. only (not takes.writes || caps.writes) (arguments caps lay s takes.arguments 1 >>= λ g. Some (done s g (effect_of o s.object (asked g)) (edits_of o s.object (asked g)))))
      (option_map (λ h. (row h).takes) o >>= λ takes. only (not takes.writes || caps.writes) (arguments caps lay (up s) takes.arguments 1 >>= λ g. Some (done (up s) g (effect_of o (restored kept whole s.object) (asked g)) (edits_of o (restored kept whole s.object) (asked g)))))
  help_by s None lead may g = lifts_none kept whole creates listing None
  help_by s (Some h) lead may good =
      let args = (row h).takes.arguments in
      lifts_only kept whole creates listing (not (row h).takes.writes || caps.writes) _ _
      (subst (λ (o : Option Given). L (arguments caps lay s args 1 >>= λ g. Some (done s g ((row h).effect s.object (asked g)) (helper_edits h s.object (asked g)))) (o >>= λ g. Some (done (up s) g ((row h).effect (restored kept whole s.object) (asked g)) (helper_edits h (restored kept whole s.object) (asked g))))) (sym (arguments_elsewhere blind caps lay (restored kept whole s.object) s.edits s args 1))
      (lifts_by kept whole creates listing (arguments caps lay s args 1) _ _ (λ g is.
      let m = matches kept whole creates h s.object (asked g) (may h refl) good.0 in
      done_lifts s g _ _ (helper_edits h s.object (asked g)) (helper_edits h (restored kept whole s.object) (asked g)) m
      (edits_same h s.object (asked g) m)
      (leads_on h s.edits s.object (asked g) (lead (restored kept whole s.object) (asked g) (given_limits blind caps lay s args 1 g is ∙ good.2)) m good.1) good.2)))

  helps : (s : State ℕ) (id : ℕ) → ((h : Helper) → helper_of id ≡ Some h → MayCall kept creates h) → Good s → L (help caps lay id s) (help caps lay id (up s))
  helps s id may g = help_by s (helper_of id) (λ x given limits. law id x given limits) may g

  -- an instruction that is no call
  plain_lifts : (i : Insn) (s : State ℕ) → NoCall i → Good s → L (insn_act caps lay i s) (insn_act caps lay i (up s))
  plain_lifts i s other g = record {
    by = λ t e.
        let leaves = sym (plain_leaves blind caps lay i s t other e) in
        let whole_there = restored kept whole s.object in (
          subst Good leaves g,
          sym (blind.acts caps lay s.limits whole_there s.edits i s other)
              ∙ ap (option_map (elsewhere s.limits whole_there s.edits)) e
              ∙ ap (λ (u : State ℕ). Some (elsewhere u.limits (restored kept whole u.object) u.edits t)) leaves,
        );
  }

  pub acts : (i : Insn) (s : State ℕ) → MayDo kept creates i → Good s → L (insn_act caps lay i s) (insn_act caps lay i (up s))
  acts i s =
      each_insn (λ (i : Insn). MayDo kept creates i → Good s → L (insn_act caps lay i s) (insn_act caps lay i (up s)))
      (λ i other may g. plain_lifts i s other g)
      (λ id may g. after s (help caps lay id s) (help caps lay id (up s)) (helps s id may g)) i

  pub exits : (i : Insn) (s : State ℕ) → insn_exit_of caps lay i (up s) ≡ insn_exit_of caps lay i s
  exits i s = sym (blind.exits caps lay s.limits (restored kept whole s.object) s.edits i s)

-- A call on an object that is like another in the parts that the method needs is answered as one on
-- that.
use Rattle.std.proofs.Common.{◌≡◌, ◌∙◌, ℕ, pos, ◌<ℤ◌, ◌^◌, ◌≤◌, Bool, true, false, List, [], Some, None, Ok, refl, ap, sym, subst, inl, inr, arith, length}
use Rattle.std.specs.Prelude.{◌⊎◌, if◌then◌else◌}
use Rattle.std.specs.FinMap as fin
use Rattle.std.specs.Int.{w64, cast_unsigned}
use Rattle.std.proofs.lemmas.Option.{same_Some}
use Rattle.bpf_decode.specs.Class.{ClassMethod}
use Rattle.object_store.specs.Object.{Content, PlainObject, nothing, content_of, AreBytes, AreWithin, IsContent, IsObject}
use Rattle.object_store.specs.declared.limits.TheConstants.{DATA_LIMIT, XATTR_LIMIT, KEY_LIMIT}
use Rattle.txn.specs.Edits.{Edit, all_edited, spelled}
use Rattle.bpf_machine.specs.State as machine
use Rattle.bpf_machine.specs.Lists.{Lists, EndsHaveLists, ListsAreOne}
use Rattle.bpf_machine.specs.Safe.{RunsTo, RunsAreChains, HasLayout, Simulates}
use Rattle.verifier.specs.Verified.{IsVerified}
use Rattle.interp.specs.Plain.{AnswersMethod, ListsMethod, method_named, outcome_of_answer}
use Rattle.interp.specs.declared.outcome.Listed.{Listed}
use Rattle.footprint.specs.declared.parts.Parts.{Parts}
use Rattle.footprint.specs.Parts.{reduced, joined, restored, Covers}
use Rattle.footprint.specs.Needed.{needed}
use Rattle.footprint.specs.Frame.{whole_outcome, Frames, FrameLaw, ListFrames, ListFrameLaw}
use Rattle.footprint.proofs.Runs.{restored_reduced}
use Rattle.object_bytes.specs.Flat.{Spells}
use Rattle.object_bytes.proofs.Again.{nothing_is}
use Rattle.class_calls.specs.Answers.{IsAnsweredBy, RefusesMethod}
use Rattle.class_calls.specs.declared.answer.Answer.{Answer}
use Rattle.class_calls.specs.declared.answer.MethodError.{MethodError}
use Rattle.class_calls.specs.declared.answer.MethodError.TheVariants as method
use Rattle.class_calls.specs.Needs.{AreAlike, IsAsked, told_outcome, AnswersOn, NeededAreEnough}
use Rattle.class_calls.proofs.One.{OneObject, one_run}

-- ---- what is restored is within the limits
by_if : {A : Type 0} (P : A → Type 0) (b : Bool) (x y : A) → P x → P y → P (if b then x else y)
by_if P true x y p q = p
by_if P false x y p q = q

joined_within : (kept : Parts) (c rest : Content) → IsContent c → IsContent rest → IsContent (joined kept c rest)
joined_within kept c rest g h = record {
  length = by_if (λ (l : List ℕ). length l ≤ DATA_LIMIT) kept.bytes c.bytes rest.bytes g.length h.length;
  bytes = by_if AreBytes kept.bytes c.bytes rest.bytes g.bytes h.bytes;
  xattrs = by_if (AreWithin XATTR_LIMIT) kept.xattrs c.xattrs rest.xattrs g.xattrs h.xattrs;
  omap = by_if (AreWithin KEY_LIMIT) kept.keys c.omap rest.omap g.omap h.omap;
}

content_within : (o : PlainObject) → IsObject o → IsContent (content_of o)
content_within None g = nothing_is
content_within (Some c) g = g

restored_within : (kept : Parts) (whole o : PlainObject) → IsObject whole → IsObject o → IsObject (restored kept whole o)
restored_within kept whole None g h = tt
restored_within kept whole (Some c) g h = joined_within kept c (content_of whole) h (content_within whole g)

reduced_within : (kept : Parts) (o : PlainObject) → IsObject o → IsObject (reduced kept o)
reduced_within kept None g = tt
reduced_within kept (Some c) g = joined_within kept c nothing g nothing_is

twice : {A : Type 0} (b : Bool) (x y e : A) → (if b then (if b then x else y) else e) ≡ (if b then x else e)
twice true x y e = refl
twice false x y e = refl

reduced_restored : (kept : Parts) (whole o : PlainObject) → reduced kept (restored kept whole o) ≡ reduced kept o
reduced_restored kept whole None = refl
reduced_restored kept whole (Some c) =
    let w = content_of whole in
    λ i. Some (record {
      bytes = twice kept.bytes c.bytes w.bytes [] i;
      xattrs = twice kept.xattrs c.xattrs w.xattrs fin.empty i;
      omap = twice kept.keys c.omap w.omap fin.empty i;
    })

-- ---- the run on the needed parts alone
-- what it comes to, with its list
pub record Below (m : ClassMethod) (low : PlainObject) (caller : ℕ) (input : List ℕ) : Type 0 where
  pub outcome : machine.Outcome
  pub steps : ℕ
  pub bounded : steps ≤ length m.instructions
  pub runs : RunsTo m low caller input outcome steps
  pub list : List Edit
  pub lists : Lists m low caller input outcome steps list
  pub leads : all_edited list low ≡ Ok outcome.object

module _ (simulates : Simulates) (have_lists : EndsHaveLists) (m : ClassMethod) (v : IsVerified m) (low : PlainObject) (within : IsObject low) (caller : ℕ) (input : List ℕ) (asked : IsAsked caller input) (short : length input ≤ m.in_cap) where
  below : Below m low caller input
  below =
      let end = v.ends low caller input (record { within_limits = within; client = asked.client; short = short; bytes = asked.bytes }) in
      let sim = simulates m v.method.fit low caller input short end.0 end.1 end.2 in
      let list = have_lists m v.method.fit low caller input end.0 end.1 end.2 in
      record { outcome = end.0; steps = end.1; bounded = sim.0; runs = sim.1; list = list.0; lists = list.1; leads = list.2 }

-- ---- what an answer on a given object says of it
module _ (chains : RunsAreChains) (layouts : HasLayout) (one_list : ListsAreOne) (frame : FrameLaw) (list_frame : ListFrameLaw) (m : ClassMethod) (v : IsVerified m) (given : PlainObject) (caller : ℕ) (input : List ℕ) (b : Below m (reduced (needed m.instructions) given) caller input) (listed : Listed) (a : AnswersMethod m given caller input listed.outcome) (l : ListsMethod m given caller input listed) where
  abbrev kept : Parts
  kept = needed m.instructions

  covers : Covers kept kept
  covers = record { bytes = λ e. e; xattrs = λ e. e; keys = λ e. e }

  framed : Frames m kept given caller input b.outcome b.steps
  framed = frame m v.method kept covers given caller input b.outcome b.steps b.runs

  list_framed : ListFrames m kept given caller input b.outcome b.steps b.list
  list_framed = list_frame m v.method kept covers given caller input b.outcome b.steps b.list b.lists b.leads

  -- the given run is that below, with what isn't needed
  same : (whole_outcome kept given b.outcome ≡ outcome_of_answer listed.outcome) × (b.steps ≡ listed.outcome.steps)
  same = one_run chains layouts m v.method given caller input (whole_outcome kept given b.outcome) (outcome_of_answer listed.outcome) b.steps listed.outcome.steps b.bounded a.bounded framed.runs a.runs

  list_same : b.list ≡ l.list
  list_same =
      let g = v.method in
      one_list m (omega (arith, g.in_cap)) (omega (arith, g.out_cap)) given caller input (whole_outcome kept given b.outcome) (outcome_of_answer listed.outcome) b.steps listed.outcome.steps b.list l.list list_framed.lists l.lists

  written : listed.edits.items ≡ spelled b.list
  written = l.written ∙ ap spelled (sym list_same)

  code_is : b.outcome.code ≡ cast_unsigned w64 listed.outcome.code
  code_is = ap (λ (x : machine.Outcome). x.code) same.0

  output_is : b.outcome.output ≡ listed.outcome.output.items
  output_is = ap (λ (x : machine.Outcome). x.output) same.0

  -- a negative code leaves the parts
  failed : listed.outcome.code <ℤ pos 0 → b.outcome.object ≡ reduced kept given
  failed negative =
      sym framed.empty
      ∙ sym (reduced_restored kept given b.outcome.object)
      ∙ ap (reduced kept) (ap (λ (x : machine.Outcome). x.object) same.0 ∙ a.failed negative)

  within_limits : IsObject b.outcome.object
  within_limits =
      subst IsObject
      (sym (ap (reduced kept) (ap (λ (x : machine.Outcome). x.object) same.0)) ∙ reduced_restored kept given b.outcome.object ∙ framed.empty)
      (reduced_within kept listed.outcome.change.after a.within)

-- ---- the answer
module _ (one_object : OneObject) (chains : RunsAreChains) (layouts : HasLayout) (simulates : Simulates) (have_lists : EndsHaveLists) (one_list : ListsAreOne) (frame : FrameLaw) (list_frame : ListFrameLaw) where
  module _ (class : List ClassMethod) (name : List ℕ) (given whole : PlainObject) (form : List ℕ) (is_given : Spells form given) (caller : ℕ) (input : List ℕ) (asked : IsAsked caller input) (answer : Answer) (a : IsAnsweredBy class name form caller input answer) where
    abbrev m : ClassMethod
    m = a.answers.method

    abbrev parts : Parts
    parts = needed m.instructions

    module _ (alike : reduced parts given ≡ reduced parts whole) where
      plain_is : a.plain ≡ given
      plain_is = one_object a.plain given a.spelled.within is_given.within (a.spelled.flat ∙ sym is_given.flat)

      run : AnswersMethod m given caller input a.listed.outcome
      run = subst (λ (o : PlainObject). AnswersMethod m o caller input a.listed.outcome) plain_is a.answers.answers

      list_is : ListsMethod m given caller input a.listed
      list_is = subst (λ (o : PlainObject). ListsMethod m o caller input a.listed) plain_is a.answers.lists

      low : Below m (reduced parts given) caller input
      low = below simulates have_lists m a.verified (reduced parts given) (reduced_within parts given is_given.within) caller input asked a.answers.short

      covered : Covers parts parts
      covered = record { bytes = λ e. e; xattrs = λ e. e; keys = λ e. e }

      -- the run below, as one on the whole object's parts
      low_runs : RunsTo m (reduced parts whole) caller input low.outcome low.steps
      low_runs = subst (λ (o : PlainObject). RunsTo m o caller input low.outcome low.steps) alike low.runs

      low_lists : Lists m (reduced parts whole) caller input low.outcome low.steps low.list
      low_lists = subst (λ (o : PlainObject). Lists m o caller input low.outcome low.steps low.list) alike low.lists

      low_leads : all_edited low.list (reduced parts whole) ≡ Ok low.outcome.object
      low_leads = subst (λ (o : PlainObject). all_edited low.list o ≡ Ok low.outcome.object) alike low.leads

      on_whole : Frames m parts whole caller input low.outcome low.steps
      on_whole = frame m a.verified.method parts covered whole caller input low.outcome low.steps low_runs

      list_on_whole : ListFrames m parts whole caller input low.outcome low.steps low.list
      list_on_whole = list_frame m a.verified.method parts covered whole caller input low.outcome low.steps low.list low_lists low_leads

      abbrev after : PlainObject
      after = restored parts whole low.outcome.object

      given_same : (whole_outcome parts given low.outcome ≡ outcome_of_answer a.listed.outcome) × (low.steps ≡ a.listed.outcome.steps)
      given_same = same chains layouts one_list frame list_frame m a.verified given caller input low a.listed run list_is

      -- the outcome that the listed answer has on the whole object
      outcome_is : whole_outcome parts whole low.outcome ≡ record { code = cast_unsigned w64 a.listed.outcome.code; output = a.listed.outcome.output.items; object = after }
      outcome_is =
          let code = code_is chains layouts one_list frame list_frame m a.verified given caller input low a.listed run list_is in
          let output = output_is chains layouts one_list frame list_frame m a.verified given caller input low a.listed run list_is in
          λ i. record { code = code i; output = output i; object = after }

      edits_are : a.listed.edits.items ≡ spelled low.list
      edits_are = written chains layouts one_list frame list_frame m a.verified given caller input low a.listed run list_is

      told_is : whole_outcome parts whole low.outcome ≡ told_outcome answer after
      told_is = outcome_is ∙ (λ i. record { code = cast_unsigned w64 (sym a.says.code i); output = sym a.says.output i; object = after })

      steps_are : low.steps ≡ answer.steps
      steps_are = given_same.1 ∙ sym a.says.steps

      any : AnswersOn class name whole caller input answer
      any = record {
        method = m;
        named = a.answers.named;
        short = a.answers.short;
        bounded = subst (λ (k : ℕ). k ≤ length m.instructions) steps_are low.bounded;
        after = after;
        runs = subst (λ (o : machine.Outcome). RunsTo m whole caller input o answer.steps) told_is
            (subst (λ (k : ℕ). RunsTo m whole caller input (whole_outcome parts whole low.outcome) k) steps_are on_whole.runs);
        list = low.list;
        lists = subst (λ (o : machine.Outcome). Lists m whole caller input o answer.steps low.list) told_is
            (subst (λ (k : ℕ). Lists m whole caller input (whole_outcome parts whole low.outcome) k low.list) steps_are list_on_whole.lists);
        written = a.says.edits ∙ edits_are;
        leads = list_on_whole.leads;
      }

      -- the same as an answer on the whole object, if that is within the limits
      abbrev lifted : Listed
      lifted = record {
        outcome = record { code = a.listed.outcome.code; output = a.listed.outcome.output; change = record { before = whole; after = after }; steps = a.listed.outcome.steps };
        edits = a.listed.edits;
      }

      answered : (whole_form : List ℕ) → Spells whole_form whole → IsAnsweredBy class name whole_form caller input answer
      answered whole_form is_whole = record {
        plain = whole;
        spelled = is_whole;
        listed = lifted;
        answers = record {
          method = m;
          named = a.answers.named;
          short = a.answers.short;
          answers = record {
            bounded = run.bounded;
            runs = subst (λ (o : machine.Outcome). RunsTo m whole caller input o a.listed.outcome.steps) outcome_is
                (subst (λ (k : ℕ). RunsTo m whole caller input (whole_outcome parts whole low.outcome) k) given_same.1 on_whole.runs);
            before = refl;
            within = restored_within parts whole low.outcome.object is_whole.within (within_limits chains layouts one_list frame list_frame m a.verified given caller input low a.listed run list_is);
            failed = λ negative.
                ap (restored parts whole) (failed chains layouts one_list frame list_frame m a.verified given caller input low a.listed run list_is negative ∙ alike)
                ∙ restored_reduced parts whole;
          };
          lists = record {
            list = low.list;
            lists = subst (λ (o : machine.Outcome). Lists m whole caller input o a.listed.outcome.steps low.list) outcome_is
                (subst (λ (k : ℕ). Lists m whole caller input (whole_outcome parts whole low.outcome) k low.list) given_same.1 list_on_whole.lists);
            written = edits_are;
            leads = list_on_whole.leads;
          };
        };
        verified = a.verified;
        client = a.client;
        says = record { code = a.says.code; steps = a.says.steps; output = a.says.output; edits = a.says.edits };
      }

  -- the parts that the method needs
  alike_by : (class : List ClassMethod) (name : List ℕ) (n : ClassMethod) → method_named class name ≡ Some n → (given whole : PlainObject) → AreAlike (needed n.instructions) given whole → (form : List ℕ) (caller : ℕ) (input : List ℕ) (answer : Answer) (a : IsAnsweredBy class name form caller input answer) → reduced (needed a.answers.method.instructions) given ≡ reduced (needed a.answers.method.instructions) whole
  alike_by class name n named given whole alike form caller input answer a =
      subst (λ (k : ClassMethod). AreAlike (needed k.instructions) given whole) (same_Some n a.answers.method (sym named ∙ a.answers.named)) alike

  refused : (class : List ClassMethod) (name : List ℕ) (given whole : PlainObject) (form whole_form : List ℕ) → Spells form given → Spells whole_form whole → (caller : ℕ) (input : List ℕ) (error : MethodError) → RefusesMethod class name form caller input error → RefusesMethod class name whole_form caller input error
  refused class name given whole form whole_form g w caller input method.NoMethod r = r
  refused class name given whole form whole_form g w caller input method.InputTooLong r = r
  refused class name given whole form whole_form g w caller input method.Malformed r = record { method = r.method; named = r.named; short = r.short; none = by r.none }
    where
      by : ((plain : PlainObject) → Spells form plain → ⊥) ⊎ (2 ^ 32 ≤ caller) → ((plain : PlainObject) → Spells whole_form plain → ⊥) ⊎ (2 ^ 32 ≤ caller)
      by (inl none) = absurd (none given g)
      by (inr long) = inr long
  refused class name given whole form whole_form g w caller input method.NoMemory r = r

  pub enough : NeededAreEnough
  enough class name n named = record {
    any = λ given whole alike form is_given caller input asked answer a.
        any class name given whole form is_given caller input asked answer a (alike_by class name n named given whole alike form caller input answer a);
    answered = λ given whole alike form whole_form is_given is_whole caller input asked answer a.
        answered class name given whole form is_given caller input asked answer a (alike_by class name n named given whole alike form caller input answer a) whole_form is_whole;
    refused = refused class name;
  }

-- Answers on parts of one object are the same, and are that on the whole object.
use Rattle.std.proofs.Common.{◌≡◌, ◌∙◌, ℕ, zero, suc, ◌≤◌, List, length, ap, sym, subst, arith}
use Rattle.std.specs.Int.{w64, cast_unsigned}
use Rattle.std.proofs.lemmas.Option.{same_Some}
use Rattle.bpf_decode.specs.Class.{ClassMethod, IsMethod}
use Rattle.bpf_decode.specs.Instruction.{spelling}
use Rattle.object_store.specs.declared.limits.Limits.{Limits}
use Rattle.object_store.specs.Limits.{profile}
use Rattle.object_store.specs.Object.{PlainObject}
use Rattle.txn.specs.Edits.{Edit, spelled}
use Rattle.bpf_machine.specs.declared.caps.Caps.{Caps}
use Rattle.bpf_machine.specs.State as machine
use Rattle.bpf_machine.specs.State.{State, Ended}
use Rattle.bpf_machine.specs.Flat.{Layout, Chain, host_entry, exit_code}
use Rattle.bpf_machine.specs.Lists.{ListsAtExit, ListsWithin, list_of, listed_host_entry}
use Rattle.bpf_machine.specs.Safe.{caps_of, first_layout, RunsWithin, RunsAreChains, HasLayout}
use Rattle.interp.specs.Plain.{AnswersMethod, ListsMethod, outcome_of_answer}
use Rattle.object_bytes.specs.Flat.{Spells}
use Rattle.part_bytes.specs.Part.{PlainPart, IsPart, part_bytes}
use Rattle.parts.specs.Agreed.{AgreesPart}
use Rattle.part_calls.specs.Parts.{AnswersOn, outcome_of_part}
use Rattle.part_calls.specs.declared.answer.PartAnswer.{PartAnswer}
use Rattle.class_calls.specs.Answers.{IsAnsweredBy}
use Rattle.class_calls.specs.Parts.{IsAnsweredByPart}
use Rattle.class_calls.specs.OnParts.{AreSameOnParts, IsPartOf, SaysAsWhole}
use Rattle.class_calls.specs.declared.answer.Answer.{Answer}
use Rattle.class_calls.proofs.One.{OneObject}

abbrev pub OnePart : Type 0
OnePart = (p q : PlainPart) → IsPart p → IsPart q → part_bytes p ≡ part_bytes q → p ≡ q

-- ---- one run, and one list
ended_same : (o p : machine.Outcome) (j k : ℕ) → Ended o j ≡ Ended p k → (o ≡ p) × (j ≡ k)
ended_same o p j k e = (cc, cc)

suc_same : (j k : ℕ) → suc j ≡ suc k → j ≡ k
suc_same j k e = omega (arith, e)

module _ (caps : Caps) (lay : Layout) (code : List ℕ) where
  one_chain : (n : ℕ) (s l m : State ℕ) → Chain caps lay code n s l → Chain caps lay code n s m → l ≡ m
  one_chain zero s l m a b = sym a ∙ b
  one_chain (suc n) s l m a b =
      let C : State ℕ → Type 0 = λ t. Chain caps lay code n t m in
      one_chain n a.0 l m a.2 (subst C (same_Some b.0 a.0 (sym b.1 ∙ a.1)) b.2)

  one_list : (before : PlainObject) (s : State ℕ) (o p : machine.Outcome) (j k : ℕ) (a b : List Edit) → j ≡ k → ListsAtExit caps lay code before s o j a → ListsAtExit caps lay code before s p k b → a ≡ b
  one_list before s o p j k a b same x y =
      let n : y.ends.before_exit ≡ x.ends.before_exit = suc_same _ _ (y.ends.counted ∙ sym same ∙ sym x.ends.counted) in
      let C : ℕ → Type 0 = λ n. Chain caps lay code n s y.ends.last in
      let last : x.ends.last ≡ y.ends.last = one_chain x.ends.before_exit s x.ends.last y.ends.last x.ends.chain (subst C n y.ends.chain) in
      let value : x.ends.value ≡ y.ends.value = same_Some x.ends.value y.ends.value (sym x.ends.exit ∙ ap (exit_code code) last ∙ y.ends.exit) in
      x.list_is ∙ ap (list_of x.ends.value) last ∙ ap (λ v. list_of v y.ends.last) value ∙ sym y.list_is

-- what a run on an object comes to
pub record Comes (limits : Limits) (m : ClassMethod) (o : PlainObject) (caller : ℕ) (input : List ℕ) (outcome : machine.Outcome) (steps : ℕ) (list : List Edit) : Type 0 where
  pub bounded : steps ≤ length m.instructions
  pub runs : RunsWithin limits m o caller input outcome steps
  pub lists : ListsWithin limits m o caller input outcome steps list

pub one_come : RunsAreChains → HasLayout → (limits : Limits) (m : ClassMethod) → IsMethod m → (object : PlainObject) (caller : ℕ) (input : List ℕ) (o p : machine.Outcome) (j k : ℕ) (a b : List Edit) →
    Comes limits m object caller input o j a → Comes limits m object caller input p k b → (o ≡ p) × (j ≡ k) × (a ≡ b)
one_come chains layouts limits m g object caller input o p j k a b x y =
    let caps = caps_of m in
    let lay = first_layout caps in
    let ok = layouts caps (omega (arith, g.in_cap)) (omega (arith, g.out_cap)) in
    let first = host_entry limits caps lay object caller input in
    let n = length m.instructions in
    let both = ended_same o p j k
    (sym ((chains caps lay (spelling m.instructions) object n first o j).1 (x.bounded, x.runs lay ok)) ∙ (chains caps lay (spelling m.instructions) object n first p k).1 (y.bounded, y.runs lay ok)) in
    (both.0, both.1, one_list caps lay (spelling m.instructions) object (listed_host_entry limits caps lay object caller input) o p j k a b both.1 (x.lists lay ok) (y.lists lay ok))

pub part_comes : (limits : Limits) (m : ClassMethod) (o : PlainObject) (caller : ℕ) (input : List ℕ) (a : PartAnswer) → (x : AnswersOn limits m o caller input a) → Comes limits m o caller input (outcome_of_part a x.object) a.steps x.list
part_comes limits m o caller input a x = record { bounded = x.bounded; runs = x.runs; lists = x.lists }

-- ---- a part that bytes spell
module _ (one_part : OnePart) (class : List ClassMethod) (name bytes : List ℕ) (caller : ℕ) (limits : Limits) (input : List ℕ) (a : PartAnswer) (x : IsAnsweredByPart class name bytes caller limits input a) (p : PlainPart) (o : PlainObject) (is : IsPartOf bytes p o) where
  pub same_part : p ≡ x.plain
  same_part = one_part p x.plain is.spelled.part x.spelled.spelled.part (is.spelled.spelled ∙ sym x.spelled.spelled.spelled)

  pub answers_it : AnswersOn limits x.method o caller input a
  answers_it = x.answers o (subst (λ (p : PlainPart). AgreesPart p o) same_part is.agrees) is.formed

pub same_on_parts : OnePart → RunsAreChains → HasLayout → (class : List ClassMethod) (name part other : List ℕ) (caller : ℕ) (limits : Limits) (input : List ℕ) (p q : PlainPart) (o : PlainObject) → IsPartOf part p o → IsPartOf other q o → (a b : PartAnswer) →
    IsAnsweredByPart class name part caller limits input a → IsAnsweredByPart class name other caller limits input b → AreSameOnParts a b
same_on_parts one_part chains layouts class name part other caller limits input p q o ip iq a b x y =
    let same : y.method ≡ x.method = same_Some y.method x.method (sym y.named ∙ x.named) in
    let l = answers_it one_part class name part caller limits input a x p o ip in
    let r = subst (λ (m : ClassMethod). AnswersOn limits m o caller input b) same (answers_it one_part class name other caller limits input b y q o iq) in
    let both = one_come chains layouts limits x.method x.verified.method o caller input (outcome_of_part a l.object) (outcome_of_part b r.object) a.steps b.steps l.list r.list
    (part_comes limits x.method o caller input a l) (part_comes limits x.method o caller input b r) in
    record {
      code = ap (λ (o : machine.Outcome). o.code) both.0;
      steps = both.1;
      output = ap (λ (o : machine.Outcome). o.output) both.0;
      edits = l.written ∙ ap spelled both.2 ∙ sym r.written;
    }

-- ---- and the whole object
pub same_as_whole : OnePart → OneObject → RunsAreChains → HasLayout → (class : List ClassMethod) (name part object : List ℕ) (caller : ℕ) (input : List ℕ) (p : PlainPart) (o : PlainObject) → IsPartOf part p o → Spells object o → (a : PartAnswer) (b : Answer) →
    IsAnsweredByPart class name part caller profile input a → IsAnsweredBy class name object caller input b → SaysAsWhole a b
same_as_whole one_part one_object chains layouts class name part object caller input p o ip whole a b x y =
    let m = x.method in
    let same : y.answers.method ≡ m = same_Some y.answers.method m (sym y.answers.named ∙ x.named) in
    let plain : y.plain ≡ o = one_object y.plain o y.spelled.within whole.within (y.spelled.flat ∙ sym whole.flat) in
    let run : AnswersMethod m o caller input y.listed.outcome =
    subst (λ (n : ClassMethod). AnswersMethod n o caller input y.listed.outcome) same (subst (λ (o : PlainObject). AnswersMethod y.answers.method o caller input y.listed.outcome) plain y.answers.answers) in
    let list : ListsMethod m o caller input y.listed =
    subst (λ (n : ClassMethod). ListsMethod n o caller input y.listed) same (subst (λ (o : PlainObject). ListsMethod y.answers.method o caller input y.listed) plain y.answers.lists) in
    let l = answers_it one_part class name part caller profile input a x p o ip in
    let comes : Comes profile m o caller input (outcome_of_answer y.listed.outcome) y.listed.outcome.steps list.list = record { bounded = run.bounded; runs = run.runs; lists = list.lists } in
    let both = one_come chains layouts profile m x.verified.method o caller input (outcome_of_part a l.object) (outcome_of_answer y.listed.outcome) a.steps y.listed.outcome.steps l.list list.list
    (part_comes profile m o caller input a l) comes in
    record {
      code = ap (λ (o : machine.Outcome). o.code) both.0 ∙ sym (ap (cast_unsigned w64) y.says.code);
      steps = both.1 ∙ sym y.says.steps;
      output = ap (λ (o : machine.Outcome). o.output) both.0 ∙ sym y.says.output;
      edits = l.written ∙ ap spelled both.2 ∙ sym list.written ∙ sym y.says.edits;
    }

-- A call has one answer, and an image one class.
use Rattle.std.proofs.Common.{◌≡◌, ◌∙◌, ℕ, ◌^◌, ◌<◌, ◌≤◌, List, Option, Some, None, Result, Ok, Err, length, refl, ap, sym, subst, inl, inr, arith}
use Rattle.std.specs.Prelude.{◌⊎◌}
use Rattle.std.specs.Int.{w64, cast_unsigned}
use Rattle.std.proofs.lemmas.Option.{none-some, same_Some}
use Rattle.bpf_decode.specs.Class.{ClassMethod, Class, IsMethod, IsImage}
use Rattle.bpf_decode.specs.ImageReading.{image_of}
use Rattle.bpf_decode.specs.Instruction.{spelling}
use Rattle.bpf_decode.specs.declared.image_error.ImageError.{ImageError}
use Rattle.verifier.specs.Verdict.{class_verdict}
use Rattle.verifier.specs.declared.refusal.Refusal.{Refusal}
use Rattle.object_store.specs.Object.{PlainObject, IsObject}
use Rattle.txn.specs.Edits.{spelled}
use Rattle.bpf_machine.specs.State as machine
use Rattle.bpf_machine.specs.State.{Ended}
use Rattle.bpf_machine.specs.Flat.{entry}
use Rattle.bpf_machine.specs.Lists.{ListsAreOne}
use Rattle.bpf_machine.specs.Safe.{caps_of, first_layout, RunsTo, RunsAreChains, HasLayout}
use Rattle.interp.specs.Plain.{AnswersMethod, ListsMethod, method_named, outcome_of_answer}
use Rattle.object_bytes.specs.Flat.{flat, Spells}
use Rattle.class_calls.specs.Answers.{IsLoaded, RefusesImage, IsAnsweredBy, RefusesMethod, AreSame, IsWantOfClass}
use Rattle.class_calls.specs.declared.answer.Answer.{Answer}
use Rattle.class_calls.specs.declared.answer.MethodError.{MethodError}
use Rattle.class_calls.specs.declared.answer.MethodError.TheVariants as method
use Rattle.class_calls.specs.declared.class.ClassError.{ClassError}
use Rattle.class_calls.specs.declared.class.ClassError.TheVariants as load

-- ---- a method has one run on an object
ended_same : (o p : machine.Outcome) (j k : ℕ) → Ended o j ≡ Ended p k → (o ≡ p) × (j ≡ k)
ended_same o p j k e = (cc, cc)

pub one_run : RunsAreChains → HasLayout → (m : ClassMethod) → IsMethod m → (object : PlainObject) (caller : ℕ) (input : List ℕ) (o p : machine.Outcome) (j k : ℕ)
    → j ≤ length m.instructions → k ≤ length m.instructions → RunsTo m object caller input o j → RunsTo m object caller input p k → (o ≡ p) × (j ≡ k)
one_run chains layouts m g object caller input o p j k h i q r =
    let caps = caps_of m in
    let lay = first_layout caps in
    let ok = layouts caps (omega (arith, g.in_cap)) (omega (arith, g.out_cap)) in
    let first = entry caps lay object caller input in
    let n = length m.instructions in
    ended_same o p j k
    (sym ((chains caps lay (spelling m.instructions) object n first o j).1 (h, q lay ok)) ∙ (chains caps lay (spelling m.instructions) object n first p k).1 (i, r lay ok))

abbrev pub OneObject : Type 0
OneObject = (o p : PlainObject) → IsObject o → IsObject p → flat o ≡ flat p → o ≡ p

-- ---- two answers
pub same_answer : OneObject → RunsAreChains → HasLayout → ListsAreOne → (class : List ClassMethod) (name object : List ℕ) (caller : ℕ) (input : List ℕ) (a b : Answer) →
    IsAnsweredBy class name object caller input a → IsAnsweredBy class name object caller input b → AreSame a b
same_answer one_object chains layouts one_list class name object caller input a b x y =
    let m = x.answers.method in
    let same_method : y.answers.method ≡ m = same_Some y.answers.method m (sym y.answers.named ∙ x.answers.named) in
    let same_plain : y.plain ≡ x.plain = one_object y.plain x.plain y.spelled.within x.spelled.within (y.spelled.flat ∙ sym x.spelled.flat) in
    let run : AnswersMethod m x.plain caller input y.listed.outcome =
    subst (λ (n : ClassMethod). AnswersMethod n x.plain caller input y.listed.outcome) same_method
    (subst (λ (o : PlainObject). AnswersMethod y.answers.method o caller input y.listed.outcome) same_plain y.answers.answers) in
    let list : ListsMethod m x.plain caller input y.listed =
    subst (λ (n : ClassMethod). ListsMethod n x.plain caller input y.listed) same_method
    (subst (λ (o : PlainObject). ListsMethod y.answers.method o caller input y.listed) same_plain y.answers.lists) in
    let g = x.verified.method in
    let one = one_run chains layouts m g x.plain caller input (outcome_of_answer x.listed.outcome) (outcome_of_answer y.listed.outcome) x.listed.outcome.steps y.listed.outcome.steps x.answers.answers.bounded run.bounded x.answers.answers.runs run.runs in
    let lists = one_list m (omega (arith, g.in_cap)) (omega (arith, g.out_cap)) x.plain caller input (outcome_of_answer x.listed.outcome) (outcome_of_answer y.listed.outcome) x.listed.outcome.steps y.listed.outcome.steps x.answers.lists.list list.list x.answers.lists.lists list.lists in
    record {
      code = ap (cast_unsigned w64) x.says.code ∙ ap (λ (o : machine.Outcome). o.code) one.0 ∙ sym (ap (cast_unsigned w64) y.says.code);
      steps = x.says.steps ∙ one.1 ∙ sym y.says.steps;
      output = x.says.output ∙ ap (λ (o : machine.Outcome). o.output) one.0 ∙ sym y.says.output;
      edits = x.says.edits ∙ x.answers.lists.written ∙ ap spelled lists ∙ sym list.written ∙ sym y.says.edits;
    }

-- ---- an answer, or one refusal
none_some : (class : List ClassMethod) (name : List ℕ) (m : ClassMethod) → method_named class name ≡ None → method_named class name ≡ Some m → ⊥
none_some class name m none some = none-some m (sym none ∙ some)

both_lengths : (class : List ClassMethod) (name input : List ℕ) (m n : ClassMethod) → method_named class name ≡ Some m → method_named class name ≡ Some n → m.in_cap < length input → length input ≤ n.in_cap → ⊥
both_lengths class name input m n a b long short =
    let same : m.in_cap ≡ n.in_cap = ap (λ (x : ClassMethod). x.in_cap) (same_Some m n (sym a ∙ b)) in
    absurd (omega (arith, same, long, short))

pub answered_not : (class : List ClassMethod) (name object : List ℕ) (caller : ℕ) (input : List ℕ) (answer : Answer) (e : MethodError) → IsAnsweredBy class name object caller input answer → RefusesMethod class name object caller input e → e ≡ method.NoMemory
answered_not class name object caller input answer method.NoMethod a b = absurd (none_some class name a.answers.method b a.answers.named)
answered_not class name object caller input answer method.InputTooLong a b = absurd (both_lengths class name input b.method a.answers.method b.named a.answers.named b.long a.answers.short)
answered_not class name object caller input answer method.Malformed a b = by b.none
  where
    by : ((plain : PlainObject) → Spells object plain → ⊥) ⊎ (2 ^ 32 ≤ caller) → method.Malformed ≡ method.NoMemory
    by (inl none) = absurd (none a.plain a.spelled)
    by (inr long) = absurd (omega (arith, a.client, long))
answered_not class name object caller input answer method.NoMemory a b = refl

abbrev OneOf : MethodError → MethodError → Type 0
OneOf e f = (e ≡ method.NoMemory) ⊎ ((f ≡ method.NoMemory) ⊎ (e ≡ f))

pub one_refusal : (class : List ClassMethod) (name object : List ℕ) (caller : ℕ) (input : List ℕ) (e f : MethodError) → RefusesMethod class name object caller input e → RefusesMethod class name object caller input f → OneOf e f
one_refusal class name object caller input method.NoMemory f a b = inl refl
one_refusal class name object caller input method.NoMethod method.NoMethod a b = inr (inr refl)
one_refusal class name object caller input method.NoMethod method.InputTooLong a b = absurd (none_some class name b.method a b.named)
one_refusal class name object caller input method.NoMethod method.Malformed a b = absurd (none_some class name b.method a b.named)
one_refusal class name object caller input method.NoMethod method.NoMemory a b = inr (inl refl)
one_refusal class name object caller input method.InputTooLong method.NoMethod a b = absurd (none_some class name a.method b a.named)
one_refusal class name object caller input method.InputTooLong method.InputTooLong a b = inr (inr refl)
one_refusal class name object caller input method.InputTooLong method.Malformed a b = absurd (both_lengths class name input a.method b.method a.named b.named a.long b.short)
one_refusal class name object caller input method.InputTooLong method.NoMemory a b = inr (inl refl)
one_refusal class name object caller input method.Malformed method.NoMethod a b = absurd (none_some class name a.method b a.named)
one_refusal class name object caller input method.Malformed method.InputTooLong a b = absurd (both_lengths class name input b.method a.method b.named a.named b.long a.short)
one_refusal class name object caller input method.Malformed method.Malformed a b = inr (inr refl)
one_refusal class name object caller input method.Malformed method.NoMemory a b = inr (inl refl)

-- ---- an image has one class, or one refusal
image_error_is : (x y : ImageError) → ◌≡◌ {A = Result Class ImageError} (Err x) (Err y) → x ≡ y
image_error_is x y e = cc

read_not : (c : Class) (x : ImageError) → ◌≡◌ {A = Result Class ImageError} (Ok c) (Err x) → ⊥
read_not c x e = cc

verdict_is : (r s : Refusal) → ◌≡◌ {A = Option Refusal} (Some r) (Some s) → r ≡ s
verdict_is r s e = cc

verdict_not : (r : Refusal) → ◌≡◌ {A = Option Refusal} None (Some r) → ⊥
verdict_not r e = cc

module _ (one : (bytes : List ℕ) (c d : Class) → IsImage bytes c → IsImage bytes d → c ≡ d) (read : (bytes : List ℕ) (c : Class) → IsImage bytes c → image_of bytes ≡ Ok c) where
  image_not : (image : List ℕ) (c : Class) (x : ImageError) → IsImage image c → image_of image ≡ Err x → ⊥
  image_not image c x h e = read_not c x (sym (read image c h) ∙ e)

  pub loaded_same : (image : List ℕ) (c d : List ClassMethod) → IsLoaded image c → IsLoaded image d → c ≡ d
  loaded_same image c d p q = p.methods ∙ ap (λ (w : Class). w.methods) (one image p.written q.written p.spelled q.spelled) ∙ sym q.methods

  pub loaded_not : (image : List ℕ) (c : List ClassMethod) (e : ClassError) → IsLoaded image c → RefusesImage image e → IsWantOfClass e
  loaded_not image c (load.Image x) p q = absurd (image_not image p.written x p.spelled q)
  loaded_not image c (load.Verdict r) p q = absurd (verdict_not r (sym p.accepted ∙ ap class_verdict (one image p.written q.written p.spelled q.spelled) ∙ q.verdict))
  loaded_not image c load.NoMemory p q = refl

  abbrev OneClassOf : ClassError → ClassError → Type 0
  OneClassOf e f = IsWantOfClass e ⊎ (IsWantOfClass f ⊎ (e ≡ f))

  pub refused_same : (image : List ℕ) (e f : ClassError) → RefusesImage image e → RefusesImage image f → OneClassOf e f
  refused_same image load.NoMemory f a b = inl refl
  refused_same image (load.Image x) (load.Image y) a b = inr (inr (ap load.Image (image_error_is x y (sym a ∙ b))))
  refused_same image (load.Image x) (load.Verdict r) a b = absurd (image_not image b.written x b.spelled a)
  refused_same image (load.Image x) load.NoMemory a b = inr (inl refl)
  refused_same image (load.Verdict r) (load.Image y) a b = absurd (image_not image a.written y a.spelled b)
  refused_same image (load.Verdict r) (load.Verdict s) a b =
      inr (inr (ap load.Verdict (verdict_is r s (sym a.verdict ∙ ap class_verdict (one image a.written b.written a.spelled b.spelled) ∙ b.verdict))))
  refused_same image (load.Verdict r) load.NoMemory a b = inr (inl refl)

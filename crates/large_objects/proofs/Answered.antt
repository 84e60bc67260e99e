-- An answer on parts, and the object that its edits make, are those of the run.
use Rattle.std.proofs.Common.{◌≡◌, ◌∙◌, ℕ, List, arith, subst, sym}
use Rattle.std.specs.Int.{w64, cast_unsigned}
use Rattle.bpf_decode.specs.Class.{ClassMethod}
use Rattle.bpf_machine.specs.Blind.{StepsAreBlind}
use Rattle.bpf_machine.specs.Safe.{BytesAreInstructions, ElsewhereIsStuck, HasLayout, RunsWithin}
use Rattle.object_store.specs.Object.{PlainObject}
use Rattle.part_calls.specs.declared.answer.PartAnswer.{PartAnswer}
use Rattle.txn.specs.Edits.{Edit, spelled}
use Rattle.txn.specs.Made.{all_made}
use Rattle.large_objects.specs.Calls.{AnswersLarge, AnswersPartly}
use Rattle.large_objects.specs.Large.{AreFormed, large_limits}
use Rattle.large_objects.proofs.Formed.{runs_are_formed}

pub answers_large : StepsAreBlind → BytesAreInstructions → ElsewhereIsStuck → HasLayout → (class : List ClassMethod) (name : List ℕ) (o : PlainObject) (caller : ℕ) (input : List ℕ) (a : PartAnswer) (after : PlainObject) →
    AnswersPartly class name o caller input a → ((list : List Edit) → AreFormed list → spelled list ≡ a.edits.items → after ≡ all_made list o) → AnswersLarge class name o caller input (record { answer = a; after = after })
answers_large blind decoded stuck layout class name o caller input a after p made =
    let m = p.method in
    let n = p.answers in
    let in_cap = p.verified.method.in_cap in
    let out_cap = p.verified.method.out_cap in
    let formed = runs_are_formed blind decoded stuck layout m p.verified.method.fit (omega (arith, in_cap)) (omega (arith, out_cap)) o caller input _ a.steps n.list n.lists in
    let same : n.object ≡ after = sym (made n.list formed (sym n.written) ∙ n.makes) in
    record {
      method = m;
      named = p.named;
      short = p.short;
      verified = p.verified;
      bounded = n.bounded;
      runs = subst (λ (x : PlainObject). RunsWithin large_limits m o caller input (record { code = cast_unsigned w64 a.code; output = a.output.items; object = x }) a.steps) same n.runs;
    }

-- the same of an object and an answer by other names
pub answers_here : StepsAreBlind → BytesAreInstructions → ElsewhereIsStuck → HasLayout → (class : List ClassMethod) (name : List ℕ) (o q : PlainObject) (caller : ℕ) (input : List ℕ) (a b : PartAnswer) (after : PlainObject) → o ≡ q → a ≡ b →
    AnswersPartly class name q caller input b → ((list : List Edit) → AreFormed list → spelled list ≡ a.edits.items → after ≡ all_made list o) → AnswersLarge class name o caller input (record { answer = a; after = after })
answers_here blind decoded stuck layout class name o q caller input a b after same_object same_answer p made =
    let here = subst (λ (x : PartAnswer). AnswersPartly class name o caller input x) (sym same_answer) (subst (λ (x : PlainObject). AnswersPartly class name x caller input b) (sym same_object) p) in
    answers_large blind decoded stuck layout class name o caller input a after here made

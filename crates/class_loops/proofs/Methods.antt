-- The methods of a class, and how each answers.
use Rattle.std.proofs.Common.{◌≡◌, ◌∙◌, ℕ, List, [], ◌∷◌, Option, Some, None, Result, Ok, Err, IfOk, IfErr, true, false, ap, sym, subst, get_or}
use Rattle.std.specs.Prelude.{if◌then◌else◌}
use Rattle.std.specs.List.{AllByRecursion}
use Rattle.std.specs.Str.{bytes_eq}
use Rattle.std.proofs.lemmas.Option.{none-some, same_Some}
use Rattle.bpf_decode.specs.Class.{ClassMethod}
use Rattle.object_store.specs.declared.limits.Limits.{Limits}
use Rattle.verifier.specs.Verified.{method_named}
use Rattle.part_bytes.specs.Part.{PlainPart}
use Rattle.parts.specs.Known.{KnownObject}
use Rattle.parts.specs.Agreed.{KnowsPart}
use Rattle.parts.specs.declared.stop.Stop.{Stop}
use Rattle.parts.specs.declared.stop.Stop.TheVariants as stop
use Rattle.part_calls.specs.declared.answer.PartAnswer.{PartAnswer}
use Rattle.loop_heads.specs.Loops.{PlainLoops}
use Rattle.loop_calls.specs.ByBudget.{StopsByBudget}
use Rattle.class_calls.specs.Answers.{IsAnsweredBy}
use Rattle.class_calls.specs.Parts.{IsAnsweredByPart, IsLacking, NeedsAreLacking, RefusesPart, of_stop}
use Rattle.class_calls.specs.declared.answer.Answer.{Answer}
use Rattle.class_calls.specs.declared.part_call.PartCallError.{PartCallError}
use Rattle.class_calls.specs.declared.part_call.PartCallError.TheVariants as call
use Rattle.class_loops.specs.Answers.{IsAnsweredByBudget, IsAnsweredByLoops, answered_by}
use Rattle.class_loops.specs.Parts.{IsAnsweredByPartAndBudget, IsAnsweredByPartAndLoops, RefusesPartByLoops}
use Rattle.class_loops.specs.Parts.{StopsOnPartByBudget, answered_by_part, stops_by}
use Rattle.class_calls.specs.Handle.{IsPlace}
use Rattle.class_loops.proofs.Place.{is_that}
use Rattle.loop_classes.specs.Runs.{IsRunOf, RunsBy, method_of}
use Rattle.loop_classes.specs.declared.method.MethodRun.{MethodRun}
use Rattle.loop_verdict.specs.Verified.{PlainLoopMethod}

-- what follows of an answer, and of a refusal
pub on_ok : {A E : Type 0} (r : Result A E) (P Q : A → Type 0) → ((x : A) → P x → Q x) → IfOk r P → IfOk r Q
on_ok (Ok x) P Q f h = f x h
on_ok (Err e) P Q f h = tt

pub on_err : {A E : Type 0} (r : Result A E) (P Q : E → Type 0) → ((e : E) → P e → Q e) → IfErr r P → IfErr r Q
on_err (Ok x) P Q f h = tt
on_err (Err e) P Q f h = f e h

-- the method at the place of a name has the name
pub named_by : (ms : List ClassMethod) (name : List ℕ) (n : ℕ) (m : ClassMethod) → IsPlace ms name n → m ≡ get_or ms n m → method_named ms name ≡ Some m
named_by ms name n m place at = place.named ∙ ap Some (is_that ms n place.method m place.at at)

-- how a method runs says which it is
pub run_of : (m : ClassMethod) (given run : MethodRun) → given ≡ run → method_of given ≡ m → IsRunOf given → (method_of run ≡ m) × IsRunOf run
run_of m given run is same runs = (ap method_of (sym is) ∙ same, subst IsRunOf is runs)

-- what holds of all methods holds of the one of a name
pub named_has : (P : ClassMethod → Type 0) (ms : List ClassMethod) (name : List ℕ) (m : ClassMethod) → AllByRecursion P ms → method_named ms name ≡ Some m → P m
named_has P [] name m h e = absurd (none-some m e)
named_has P (x ∷ ms) name m h e =
    elim (bytes_eq x.name name) as (λ b. (if b then Some x else method_named ms name) ≡ Some m → P m) [
      | true ↦ λ e. subst P (same_Some x m e) h.0
      | false ↦ λ e. named_has P ms name m h.1 e
    ] e

-- a method that declares loops declares these
pub some_loops : (m : ClassMethod) (run : PlainLoopMethod) (loops : Option PlainLoops) → RunsBy m run loops → (l : PlainLoops) × (loops ≡ Some l)
some_loops m run None h = absurd h
some_loops m run (Some l) h = (l, λ i. Some l)

-- ---- a method without loops
pub plain_answers : (class : List ClassMethod) (name object : List ℕ) (caller : ℕ) (input : List ℕ) (m : ClassMethod) → method_named class name ≡ Some m → m.loops ≡ None → (a : Answer) → IsAnsweredBy class name object caller input a → IsAnsweredByLoops class name object caller input a
plain_answers class name object caller input m named none a h = record {
  method = m;
  named = named;
  answers = subst (λ (l : Option PlainLoops). answered_by l class m name object caller input a) (sym none) h;
}

module _ (class : List ClassMethod) (name part : List ℕ) (caller : ℕ) (limits : Limits) (input : List ℕ) (m : ClassMethod) (named : method_named class name ≡ Some m) (none : m.loops ≡ None) where
  pub plain_part_answers : (a : PartAnswer) → IsAnsweredByPart class name part caller limits input a → IsAnsweredByPartAndLoops class name part caller limits input a
  plain_part_answers a h = record {
    method = m;
    named = named;
    answers = subst (λ (l : Option PlainLoops). answered_by_part l class m name part caller limits input a) (sym none) h;
  }

  pub plain_part_refuses : (e : PartCallError) → RefusesPart class name part caller limits input e → RefusesPartByLoops class name part caller limits input e
  plain_part_refuses call.NoMethod h = h
  plain_part_refuses call.InputTooLong h = h
  plain_part_refuses call.Malformed h = h
  plain_part_refuses call.NoMemory h = h
  plain_part_refuses call.Full h = record {
    method = m;
    named = named;
    stops = subst (λ (l : Option PlainLoops). stops_by l class m name part caller limits input stop.Full) (sym none) h;
  }
  plain_part_refuses (call.Needs need) h = record {
    method = m;
    named = named;
    stops = subst (λ (l : Option PlainLoops). stops_by l class m name part caller limits input (stop.Needs need)) (sym none) h;
  }

-- ---- a method with loops
pub looped_answers : (class : List ClassMethod) (name object : List ℕ) (caller : ℕ) (input : List ℕ) (m : ClassMethod) → method_named class name ≡ Some m → (l : PlainLoops) → m.loops ≡ Some l → (a : Answer) → IsAnsweredByBudget m l.budget object caller input a → IsAnsweredByLoops class name object caller input a
looped_answers class name object caller input m named l some a h = record {
  method = m;
  named = named;
  answers = subst (λ (k : Option PlainLoops). answered_by k class m name object caller input a) (sym some) h;
}

module _ (class : List ClassMethod) (name part : List ℕ) (caller : ℕ) (limits : Limits) (input : List ℕ) (m : ClassMethod) (named : method_named class name ≡ Some m) (l : PlainLoops) (some : m.loops ≡ Some l) where
  pub looped_part_answers : (a : PartAnswer) → IsAnsweredByPartAndBudget m l.budget part caller limits input a → IsAnsweredByPartAndLoops class name part caller limits input a
  looped_part_answers a h = record {
    method = m;
    named = named;
    answers = subst (λ (k : Option PlainLoops). answered_by_part k class m name part caller limits input a) (sym some) h;
  }

  pub looped_stops : (why : Stop) → StopsOnPartByBudget m l.budget part caller limits input why → RefusesPartByLoops class name part caller limits input (of_stop why)
  looped_stops stop.NoMemory h = tt
  looped_stops stop.Full h = record {
    method = m;
    named = named;
    stops = subst (λ (k : Option PlainLoops). stops_by k class m name part caller limits input stop.Full) (sym some) h;
  }
  looped_stops (stop.Needs need) h = record {
    method = m;
    named = named;
    stops = subst (λ (k : Option PlainLoops). stops_by k class m name part caller limits input (stop.Needs need)) (sym some) h;
  }

-- what a call by a budget needs isn't in the part
pub lacking_by_budget : NeedsAreLacking → (p : PlainPart) (k : KnownObject) → KnowsPart p k → (limits : Limits) (m : ClassMethod) (budget caller : ℕ) (input : List ℕ) (why : Stop) → StopsByBudget limits m budget k caller input why → IsLacking p why
lacking_by_budget law p k knows limits m budget caller input stop.NoMemory s = tt
lacking_by_budget law p k knows limits m budget caller input stop.Full s = tt
lacking_by_budget law p k knows limits m budget caller input (stop.Needs need) s = law p k s.known knows s.grows s.helper s.given need s.stops

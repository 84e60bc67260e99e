-- Running a request gives a refusal or an outcome: the conditions of each.
use Rattle.std.proofs.Common.{◌≡◌, ℕ, ℤ, ◌<◌, ◌≤◌, true, false, cond, nat_le, List, [], ◌∷◌, ◌++◌, length, Option, Some, None, Result, Ok, Err, IfOk, ap, sym, ◌∙◌, subst, arith}
use Rattle.std.specs.List.{slice_get, AllByRecursion}
use Rattle.std.specs.FinMap as fin
use Rattle.std.specs.Str.{bytes_eq}
use Rattle.std.proofs.lemmas.Option.{none-some, same_Some}
use Rattle.std.proofs.lemmas.Bool.Decides.{nat_tests}
use mathlib.Core.List.{IsPrefix}
use Rattle.object_store.specs.Object.{PlainObject}
use Rattle.object_store.specs.Names.{PlainObjects}
use Rattle.txn.specs.Versions.{Versions}
use Rattle.bpf_decode.specs.Class.{ClassMethod, IsMethod}
use Rattle.bpf_machine.specs.Safe.{OutcomesAreOne}
use Rattle.interp.specs.Plain.{method_named}
use Rattle.interp.specs.declared.outcome.Outcome.{Outcome}
use Rattle.interp.specs.Plain.{AnswersMethod}
use Rattle.pg_log.specs.declared.group.TheConstants.{LOG_LIMIT}
use Rattle.pg_log.specs.declared.log_error.LogError.{LogError}
use Rattle.pg_log.specs.declared.log_error.LogError.TheVariants.{LogFull, StaleNumber}
use Rattle.pg_log.specs.declared.entry.Entry.{Entry}
use Rattle.pg_log.specs.Requests.{ClientRequest}
use Rattle.pg_log.specs.Log.{Classes, Legal, CanRun, method_in, outcome_of_method, fold}
use Rattle.pg_log.specs.Refusals.{refusal_of_class, refusal, is_reached}
use Rattle.pg_log.specs.Entries.{IsOutcome, IsOutcomeOn, IsSafeRequest, IsNextEntry}
use Rattle.pg_log.proofs.Legal.{legal_push}
use Rattle.pg_log.proofs.Exact.{follows_unrefused}
use Rattle.pg_log.proofs.Tables.{CanRun-more, loaded-more}

pub refusal-full : (classes : Classes) (xs : List ClientRequest) (r : ClientRequest) → LOG_LIMIT ≤ length xs → refusal classes xs r ≡ Some LogFull
refusal-full classes xs r h =
    let t : nat_le LOG_LIMIT (length xs) ≡ true = grind (arith, nat_tests) in
    ap (λ b. cond b (Some LogFull) (cond (is_reached r.client r.number xs) (Some StaleNumber) (refusal_of_class (slice_get classes r.class) r))) t

refusal-room : (classes : Classes) (xs : List ClientRequest) (r : ClientRequest) → length xs < LOG_LIMIT →
    refusal classes xs r ≡ cond (is_reached r.client r.number xs) (Some StaleNumber) (refusal_of_class (slice_get classes r.class) r)
refusal-room classes xs r h =
    let t : nat_le LOG_LIMIT (length xs) ≡ false = grind (arith, nat_tests) in
    ap (λ b. cond b (Some LogFull) (cond (is_reached r.client r.number xs) (Some StaleNumber) (refusal_of_class (slice_get classes r.class) r))) t

pub refusal-stale : (classes : Classes) (xs : List ClientRequest) (r : ClientRequest) → length xs < LOG_LIMIT → is_reached r.client r.number xs ≡ true → refusal classes xs r ≡ Some StaleNumber
refusal-stale classes xs r h e =
    refusal-room classes xs r h ∙ ap (λ b. cond b (Some StaleNumber) (refusal_of_class (slice_get classes r.class) r)) e

pub refusal-class : (classes : Classes) (xs : List ClientRequest) (r : ClientRequest) → length xs < LOG_LIMIT → is_reached r.client r.number xs ≡ false →
    refusal classes xs r ≡ refusal_of_class (slice_get classes r.class) r
refusal-class classes xs r h e =
    refusal-room classes xs r h ∙ ap (λ b. cond b (Some StaleNumber) (refusal_of_class (slice_get classes r.class) r)) e

-- all methods of a class are within the limits, so the one of a name is
pub method_named-is : (class : List ClassMethod) (name : List ℕ) (m : ClassMethod) → AllByRecursion IsMethod class → method_named class name ≡ Some m → IsMethod m
method_named-is [] name m h e = absurd (none-some m e)
method_named-is (x ∷ class) name m h e =
    elim (bytes_eq x.name name) as (λ b. cond b (Some x) (method_named class name) ≡ Some m → IsMethod m) [
      | true ↦ λ q. subst IsMethod (same_Some x m q) h.0
      | false ↦ λ q. method_named-is class name m h.1 q
    ] e

-- an answered call has the machine's outcome of the method
pub ran : OutcomesAreOne → (m : ClassMethod) → IsMethod m → (object : PlainObject) (r : ClientRequest) (o : Outcome) →
    AnswersMethod m object r.client r.input o → IsOutcome (Some m) object r o.code o.output.items o.change
unfolding outcome_of_method
ran one m is object r o a =
    let same = one m (omega (arith, is.in_cap)) (omega (arith, is.out_cap)) object r.client r.input _ o.steps a.bounded a.runs in
    record { made = sym same; from_before = a.before }

pub more-outcome : (classes more : Classes) (objects : PlainObjects) (r : ClientRequest) (code : ℤ) (output : List ℕ) (change : Versions) → CanRun classes r →
    IsOutcomeOn classes objects r code output change → IsOutcomeOn (classes ++ more) objects r code output change
more-outcome classes more objects r code output change c o =
    let P : Option (List ClassMethod) → Type 0 = λ w. IsOutcome (method_in w r.method) (fin.get objects r.object) r code output change in
    subst P (sym (loaded-more classes more r c)) o

pub more-safe : (classes more : Classes) (r : ClientRequest) → CanRun classes r → IsSafeRequest classes r → IsSafeRequest (classes ++ more) r
more-safe classes more r c s m n = s m (sym (ap (λ o. method_in o r.method) (loaded-more classes more r c)) ∙ n)

-- a request that may follow by the given table may follow by the named one, with the same outcome
pub next_legal : (table classes : Classes) (xs : List ClientRequest) (r : ClientRequest) → IsPrefix table classes → Legal classes xs → refusal table xs r ≡ None → Legal classes (xs ++ r ∷ [])
next_legal table classes xs r pre l e =
    let f = follows_unrefused table xs r e in
    let P : Classes → Type 0 = λ w. CanRun w r in
    legal_push classes xs r l (record { room = f.room; run = subst P pre.1 (CanRun-more table pre.0 r f.run); above = f.above })

pub next_outcome : (table classes : Classes) (xs : List ClientRequest) (objects : PlainObjects) (r : ClientRequest) (code : ℤ) (output : List ℕ) (change : Versions) →
    IsPrefix table classes → refusal table xs r ≡ None → IsOutcomeOn table objects r code output change → IsOutcomeOn classes objects r code output change
next_outcome table classes xs objects r code output change pre e o =
    let f = follows_unrefused table xs r e in
    let P : Classes → Type 0 = λ w. IsOutcomeOn w objects r code output change in
    subst P pre.1 (more-outcome table pre.0 objects r code output change f.run o)

pub next_safe : (table classes : Classes) (xs : List ClientRequest) (r : ClientRequest) → IsPrefix table classes → refusal table xs r ≡ None → IsSafeRequest table r → IsSafeRequest classes r
next_safe table classes xs r pre e s =
    let f = follows_unrefused table xs r e in
    let P : Classes → Type 0 = λ w. IsSafeRequest w r in
    subst P pre.1 (more-safe table pre.0 r f.run s)

-- an entry that was made from a request and its outcome may be kept
pub entry_made : (classes : Classes) (xs : List ClientRequest) (r : ClientRequest) (o : Outcome) (e : Entry) →
    e.request ≡ r → e.code ≡ o.code → e.output.items ≡ o.output.items → e.change ≡ o.change →
    Legal classes (xs ++ r ∷ []) → IsSafeRequest classes r → IsOutcomeOn classes (fold classes xs) r o.code o.output.items o.change → IsNextEntry classes xs e
entry_made classes xs r o e request code output change legal safe ran =
    let L : ClientRequest → Type 0 = λ w. Legal classes (xs ++ w ∷ []) in
    let S : ClientRequest → Type 0 = IsSafeRequest classes in
    let R : ClientRequest → Type 0 = λ w. IsOutcomeOn classes (fold classes xs) w e.code e.output.items e.change in
    let C : ℤ → Type 0 = λ w. IsOutcomeOn classes (fold classes xs) r w e.output.items e.change in
    let U : List ℕ → Type 0 = λ w. IsOutcomeOn classes (fold classes xs) r o.code w e.change in
    let D : Versions → Type 0 = λ w. IsOutcomeOn classes (fold classes xs) r o.code o.output.items w in
    record {
      legal = subst L (sym request) legal;
      safe = subst S (sym request) safe;
      outcome = subst R (sym request) (subst C (sym code) (subst U (sym output) (subst D (sym change) ran)));
    }

-- the same if memory for the entry may be refused
pub entry_copied : (classes : Classes) (xs : List ClientRequest) (r : ClientRequest) (o : Outcome) (made : Result Entry LogError) →
    IfOk made (λ e. e.request ≡ r) → IfOk made (λ e. e.code ≡ o.code) → IfOk made (λ e. e.output.items ≡ o.output.items) → IfOk made (λ e. e.change ≡ o.change) →
    Legal classes (xs ++ r ∷ []) → IsSafeRequest classes r → IsOutcomeOn classes (fold classes xs) r o.code o.output.items o.change → IfOk made (λ e. IsNextEntry classes xs e)
entry_copied classes xs r o (Ok e) request code output change legal safe ran = entry_made classes xs r o e request code output change legal safe ran
entry_copied classes xs r o (Err e) request code output change legal safe ran = tt

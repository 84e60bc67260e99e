use Rattle.std.proofs.Common.{◌≡◌, ◌∙◌, ap, sym, subst, refl, arith, List, [], ◌∷◌, ◌++◌, inr, IfErr, OnOk}
use Rattle.std.proofs.lemmas.Grind.{common_steps}
use Rattle.std.proofs.lemmas.Result.{on_ok_weaker, IfErr-weaker, err_from_is_err_and}
use Rattle.object_store.specs.Names.{PlainObjects}
use Rattle.pg_log.specs.declared.entry.Entry.{Entry}
use Rattle.pg_log.specs.declared.log_error.LogError.TheVariants.{NoMemory}
use Rattle.pg_log.specs.Log.{fold}
use Rattle.pg_log.specs.Refusals.{refusal, Refuses}
use Rattle.pg_log.specs.Entries.{IsNextEntry, IsOutcomeOn, requests_of}
use Rattle.pg_log.proofs.Kept.{requests_of-push, length-requests}
use Rattle.pg_log.proofs.Ran.{next_legal, next_outcome, next_safe, entry_made}
use Rattle.pg_log.proofs.Adopted.{prefix_added}
use Rattle.pg_log.proofs.group.Group.extend_by.Goals as goal

pub returns-in_err-outcome-clause-err : goal.returns-in_err-outcome-clause-err
returns-in_err-outcome-clause-err g c =
    let es = c.args.log.now.entries.items in
    let kept = c.requires.kept in
    let n = length-requests es (requests_of es) refl in
    let fact : Refuses (refusal c.args.table.now (requests_of es) c.args.request.now) c.in_err-outcome.field-0.0 = c.in_err-outcome.ensures.err (requests_of es) (sym n) kept.indexed kept.legal.rise in
    let p = err_from_is_err_and c.from_residual.result c.from_residual.ensures.1 in
    rw (p.1, p.2) fact

pub returns-in_err-entry-clause-err : goal.returns-in_err-entry-clause-err
returns-in_err-entry-clause-err g c =
    let es = c.args.log.now.entries.items in
    let kept = c.requires.kept in
    let n = length-requests es (requests_of es) refl in
    let ran = c.in_ok-outcome.ensures.ok (requests_of es) (sym n) kept.indexed kept.legal.rise in
    let fact : Refuses (refusal c.args.table.now (requests_of es) c.args.request.now) c.in_err-entry.field-0.0 = inr (c.in_err-entry.ensures.err, ran.0) in
    let p = err_from_is_err_and c.from_residual-in_err-entry.result c.from_residual-in_err-entry.ensures.1 in
    rw (p.1, p.2) fact

pub add-requires-clause-next : goal.add-requires-clause-next
add-requires-clause-next g c =
    let classes = g.C.Classes.classes in
    let table = c.args.table.now in
    let es = c.args.log.now.entries.items in
    let xs = requests_of es in
    let r = c.args.request.now in
    let o = c.in_ok-outcome.outcome in
    let kept = c.requires.kept in
    let n = length-requests es xs refl in
    let ran = c.in_ok-outcome.ensures.ok xs (sym n) kept.indexed kept.legal.rise in
    let made = c.in_ok-entry.ensures in
    let O : PlainObjects → Type 0 = λ w. IsOutcomeOn table w r o.code o.output.items o.change in
    let N : List Entry → Type 0 = λ w. IsNextEntry classes (requests_of w) c.in_ok-entry.entry in
    subst N (sym (ap (λ v. v.items) c.run_after.ensures.entries))
    (entry_made classes xs r o c.in_ok-entry.entry made.request made.code made.output made.change
    (next_legal table classes xs r c.requires.table kept.legal ran.0)
    (next_safe table classes xs r c.requires.table ran.0 c.in_ok-outcome.ensures.safe)
    (next_outcome table classes xs (fold classes xs) r o.code o.output.items o.change c.requires.table ran.0 (subst O kept.folded ran.1)))

pub returns-clause-ok : goal.returns-clause-ok
returns-clause-ok g c =
    let es = c.args.log.now.entries.items in
    let xs = requests_of es in
    let kept = c.requires.kept in
    let n = length-requests es xs refl in
    let ran = c.in_ok-outcome.ensures.ok xs (sym n) kept.indexed kept.legal.rise in
    let A : List Entry → Type 0 = λ w. OnOk c.add.result (c.add.new.log.entries.items ≡ w ++ c.in_ok-entry.entry ∷ []) in
    on_ok_weaker c.add.result
    (λ h. (ap requests_of h ∙ requests_of-push es c.in_ok-entry.entry ∙ ap (λ q. xs ++ q ∷ []) c.in_ok-entry.ensures.request, ran.0))
    (subst A (ap (λ v. v.items) c.run_after.ensures.entries) c.add.ensures.ok)

pub returns-clause-err : goal.returns-clause-err
returns-clause-err g c =
    let es = c.args.log.now.entries.items in
    let xs = requests_of es in
    let kept = c.requires.kept in
    let n = length-requests es xs refl in
    let ran = c.in_ok-outcome.ensures.ok xs (sym n) kept.indexed kept.legal.rise in
    IfErr-weaker c.add.result _ (Refuses (refusal c.args.table.now xs c.args.request.now)) (λ e h. inr (h.0, ran.0)) c.add.ensures.err

pub returns-clause-begun : goal.returns-clause-begun
returns-clause-begun g c =
    let es = c.args.log.now.entries.items in
    let same = ap (λ v. v.items) c.run_after.ensures.entries in
    let A : List Entry → Type 0 = λ w. OnOk c.add.result (c.add.new.log.entries.items ≡ w ++ c.in_ok-entry.entry ∷ []) in
    let B : List Entry → Type 0 = λ w. IfErr c.add.result (λ e. (e ≡ NoMemory) × (c.add.new.log.entries.items ≡ w)) in
    prefix_added c.add.result es c.add.new.log.entries.items c.in_ok-entry.entry (subst A same c.add.ensures.ok) (subst B same c.add.ensures.err)

pub returns-clause-room : goal.returns-clause-room
returns-clause-room g c = grind (arith, common_steps)

pub returns-in_err-entry-clause-begun : goal.returns-in_err-entry-clause-begun
returns-in_err-entry-clause-begun g c = grind (arith, common_steps)

pub returns-in_err-outcome-clause-begun : goal.returns-in_err-outcome-clause-begun
returns-in_err-outcome-clause-begun g c = grind (arith, common_steps)

use Rattle.std.proofs.Common.{sym, ◌∙◌, inl, inr}
use Rattle.std.proofs.lemmas.Result.{err_from_is_err_and}
use Rattle.object_bytes.proofs.Turns.{no_entry, not_behind, no_set, goes_on, is_done}
use Rattle.object_bytes.proofs.reading.entries_at.Goals as goal

pub returns-in_err-entry : goal.returns-in_err-entry
returns-in_err-entry c =
    let p = err_from_is_err_and c.from_residual.result c.from_residual.ensures.1 in
    rw (p.1, p.2) (inr (sym c.loop-left.invariant ∙ no_entry c.args.part c.loop-left.left c.loop-left.last.now c.loop-left.object c.loop-left.rest.now c.in_err-entry.field-0.0 c.loop-left-test.true c.in_err-entry.ensures))

pub returns-then-not-rises : goal.returns-then-not-rises
returns-then-not-rises c =
    let e = c.in_ok-entry.entry in
    inr (sym c.loop-left.invariant ∙ not_behind c.args.part c.loop-left.left c.loop-left.last.now c.loop-left.object c.loop-left.rest.now (e.name.now, e.value.now) c.in_ok-entry.behind.now c.loop-left-test.true c.in_ok-entry.ensures (sym c.rises.ensures ∙ c.if-not-rises.true))

pub returns-in_err-object : goal.returns-in_err-object
returns-in_err-object c =
    let p = err_from_is_err_and c.from_residual-in_err-object.result c.from_residual-in_err-object.ensures.1 in
    let e = c.in_ok-entry.entry in
    rw (p.1, p.2) (elim c.in_err-object.ensures [
      | inl none ↦ inl none
      | inr h ↦ inr (sym c.loop-left.invariant ∙ no_set c.args.part c.loop-left.left c.loop-left.last.now c.loop-left.object c.loop-left.rest.now (e.name.now, e.value.now) c.in_ok-entry.behind.now c.in_err-object.field-0.0 c.loop-left-test.true c.in_ok-entry.ensures (sym c.rises.ensures ∙ c.if-not-rises.false) h)
    ])

pub loop-left-preserved : goal.loop-left-preserved
loop-left-preserved c =
    let e = c.in_ok-entry.entry in
    sym (goes_on c.args.part c.loop-left.left c.loop-left.last.now c.loop-left.object c.loop-left.rest.now (e.name.now, e.value.now) c.in_ok-entry.behind.now c.in_ok-object.object c.loop-left-test.true c.in_ok-entry.ensures (sym c.rises.ensures ∙ c.if-not-rises.false) c.in_ok-object.ensures) ∙ c.loop-left.invariant

pub returns : goal.returns
returns c = sym c.loop-left.invariant ∙ is_done c.args.part c.loop-left.left c.loop-left.last.now c.loop-left.object c.loop-left.rest.now c.loop-left-test.false

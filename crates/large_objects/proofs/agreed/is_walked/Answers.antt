use Rattle.std.proofs.Common.{◌≡◌, ◌≤◌, ◌∙◌, ◌+◌, List, ℕ, Some, [], ap, arith, drop, length, length-drop, map, subst, sym}
use Rattle.std.proofs.lemmas.Bool.{eqb-true}
use Rattle.std.proofs.lemmas.List.{drop_all}
use Rattle.std.specs.FinMap as fin
use Rattle.part_bytes.specs.inner.Reading.{is_begun}
use Rattle.part_bytes.specs.View.{interval_view, entry_view}
use Rattle.part_bytes.specs.declared.names.NamedValue.{NamedValue}
use Rattle.large_objects.specs.inner.Walk.{IsAfter, walked}
use Rattle.large_objects.proofs.Walked.{ended, from_place, past_more, step}
use Rattle.large_objects.proofs.agreed.is_walked.Goals as goal

pub loop-n-preserved : goal.loop-n-preserved
loop-n-preserved c =
    let entries = c.args.entries.now in
    let L = fin.entries c.args.names.now in
    let count = c.loop-n.count in
    let more = c.in-Some-taken.more in
    let left = from_place entries count in
    let few = subst (λ (es : List NamedValue). more ≤ length es) left c.in-Some-taken.ensures.within in
    let taken = subst (λ (es : List NamedValue). IsAfter (is_begun c.in-Some.name.now (map interval_view c.past-intervals.result.now)) (c.in-Some.name.now, c.bytes.result.now) (map entry_view es) (map entry_view (drop more es))) left c.in-Some-taken.ensures.after in
    record {
      within = omega (arith, few, length-drop count entries);
      rest =
          ap (λ (es : List NamedValue). walked (map interval_view c.past-intervals.result.now) (map entry_view es) (drop (c.loop-n.n + 1) L)) (sym (past_more entries count more))
          ∙ step (map interval_view c.loop-n.intervals.now) (map interval_view c.past-intervals.result.now) (map entry_view (drop count entries)) (map entry_view (drop more (drop count entries))) L c.loop-n.n (c.in-Some.name.now, c.bytes.result.now)
          (sym c.in-Some.ensures ∙ ap (λ (v : List ℕ). Some (c.in-Some.name.now, v)) (sym c.bytes.ensures)) c.past-intervals.ensures taken
          ∙ c.loop-n.invariant.rest;
    }

pub returns : goal.returns
returns c h =
    let entries = c.args.entries.now in
    let all : c.loop-n.count ≡ length entries = eqb-true c.loop-n.count (length entries) h in
    let none : map entry_view (drop c.loop-n.count entries) ≡ [] = ap (map entry_view) (drop_all c.loop-n.count entries (omega (arith, all))) in
    let last = c.loop-n-test.false in
    let count = c.len-n-end.ensures in
    sym c.loop-n.invariant.rest
    ∙ ended (map interval_view c.loop-n.intervals.now) (map entry_view (drop c.loop-n.count entries)) (fin.entries c.args.names.now) c.loop-n.n (omega (arith, last, count, fin.len-entries c.args.names.now)) none

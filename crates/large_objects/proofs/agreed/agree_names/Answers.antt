use Rattle.std.proofs.Common.{◌≡◌, List, true, map, subst}
use Rattle.std.specs.FinMap as fin
use Rattle.part_bytes.specs.View.{interval_view, entry_view, names_view}
use Rattle.part_bytes.specs.declared.names.Interval.{Interval}
use Rattle.part_bytes.specs.declared.names.NamedValue.{NamedValue}
use Rattle.large_objects.specs.inner.Walk.{walked}
use Rattle.large_objects.proofs.Walked.{agree}
use Rattle.large_objects.proofs.agreed.agree_names.Goals as goal

pub returns : goal.returns
returns c h =
    let L = fin.entries c.args.names.now in
    let by_intervals = subst (λ (is : List Interval). walked (map interval_view is) (map entry_view c.deref-2.result.now) L ≡ true) c.deref.ensures.value (c.is_walked.ensures h) in
    agree c.args.names.now (names_view c.args.known.now) c.requires
    (subst (λ (es : List NamedValue). walked (map interval_view c.args.known.now.intervals.items) (map entry_view es) L ≡ true) c.deref-2.ensures.value by_intervals)

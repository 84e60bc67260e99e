use Rattle.std.proofs.Common.{◌∙◌, ◌+◌, ◌++◌, List, ap, sym, subst, map, drop}
use Rattle.part_bytes.specs.Part.{Interval}
use Rattle.part_bytes.specs.View.{interval_view}
use Rattle.part_names.specs.Known.{PlainNames}
use Rattle.part_names.specs.Changes.{with_interval}
use Rattle.parts.specs.inner.Part.{interval_of}
use Rattle.parts.proofs.Walk.{next_of}
use Rattle.parts.proofs.Intervals.{GoesOn, go_on, one_more}
use Rattle.parts.proofs.of_part.learn_intervals.Goals as goal

pub loop-interval-preserved : goal.loop-interval-preserved
loop-interval-preserved c =
    let i = c.loop-interval.interval-index in
    let old = c.loop-interval.names in
    let rest : List Interval = map interval_view (drop (i + 1) c.args.intervals.now) in
    let cut = next_of interval_view c.args.intervals.now i _ c.loop-interval-test.true in
    let is = c.in_ok-learn_interval.ensures.ok ∙ ap (with_interval old _) c.end_of.ensures in
    record {
      most = ap (λ (n : PlainNames). n.most) is ∙ c.loop-interval.invariant.most;
      entries = ap (λ (n : PlainNames). n.entries) is ∙ c.loop-interval.invariant.entries;
      all =
          ap (λ (n : PlainNames). n.intervals ++ map interval_of rest) is
          ∙ one_more old.intervals _ (map interval_of rest)
          ∙ ap (λ (r : List Interval). old.intervals ++ map interval_of r) (sym cut)
          ∙ c.loop-interval.invariant.all;
      goes_on = subst (λ (n : PlainNames). GoesOn n.intervals rest) (sym is) (go_on old.intervals _ rest (subst (GoesOn old.intervals) cut c.loop-interval.invariant.goes_on));
    }

use Rattle.std.proofs.Common.{map, true, false, sym, ◌∙◌}
use Rattle.part_bytes.specs.View.{interval_view, entry_view}
use Rattle.part_bytes.proofs.Walk.{covers_next, covers_none}
use Rattle.part_bytes.proofs.names.covers.Goals as goal

pub returns-then-not-is_begun : goal.returns-then-not-is_begun
returns-then-not-is_begun c =
    sym (covers_next entry_view (map interval_view c.loop-entry.left.now) (map interval_view c.past-left.result.now) c.args.entries.now c.loop-entry.entry-index _ false c.loop-entry-test.true c.past-left.ensures (sym c.is_begun.ensures ∙ c.if-not-is_begun.true)) ∙ c.loop-entry.invariant

pub loop-entry-preserved : goal.loop-entry-preserved
loop-entry-preserved c =
    sym (covers_next entry_view (map interval_view c.loop-entry.left.now) (map interval_view c.past-left.result.now) c.args.entries.now c.loop-entry.entry-index _ true c.loop-entry-test.true c.past-left.ensures (sym c.is_begun.ensures ∙ c.if-not-is_begun.false)) ∙ c.loop-entry.invariant

pub returns : goal.returns
returns c = sym (covers_none entry_view (map interval_view c.loop-entry.left.now) c.args.entries.now c.loop-entry.entry-index c.loop-entry-test.false) ∙ c.loop-entry.invariant

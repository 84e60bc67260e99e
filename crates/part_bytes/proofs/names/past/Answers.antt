use Rattle.std.proofs.Common.{sym, ◌∙◌}
use Rattle.part_bytes.specs.View.{interval_view}
use Rattle.part_bytes.proofs.Walk.{stays, goes, none_left}
use Rattle.part_bytes.proofs.names.past.Goals as goal

pub returns-then-is_end_of : goal.returns-then-is_end_of
returns-then-is_end_of c = stays interval_view c.args.name.now c.args.intervals.now c.loop-n.n _ c.loop-n-test.true (sym c.is_end_of.ensures ∙ c.if-is_end_of.true) c.loop-n.invariant

pub loop-n-preserved : goal.loop-n-preserved
loop-n-preserved c = goes interval_view c.args.name.now c.args.intervals.now c.loop-n.n _ c.loop-n-test.true (sym c.is_end_of.ensures ∙ c.if-is_end_of.false) c.loop-n.invariant

pub returns : goal.returns
returns c = none_left interval_view c.args.name.now c.args.intervals.now c.loop-n.n c.loop-n-test.false c.loop-n.invariant

use Rattle.std.proofs.Common.{map, inr}
use Rattle.std.specs.Option.{option_copied}
use Rattle.part_bytes.specs.Part.{after_interval}
use Rattle.part_bytes.specs.View.{interval_view}
use Rattle.part_bytes.specs.inner.Reading.{interval_at}
use Rattle.part_bytes.proofs.Loops.{goes_on_by, is_refused, is_done}
use Rattle.part_bytes.proofs.names.intervals_in_turn.Goals as goal

pub returns-in_default : goal.returns-in_default
returns-in_default c = inr (is_refused interval_at after_interval _ (map interval_view c.loop-left.intervals.items) (option_copied c.loop-left.before) c.loop-left.left c.loop-left.rest.now c.loop-left-test.true c.in_default.ensures c.loop-left.invariant)

pub loop-left-preserved : goal.loop-left-preserved
loop-left-preserved c =
    goes_on_by interval_at after_interval interval_view _ c.loop-left.intervals.items c.push.new.self.items (option_copied c.loop-left.before) c.loop-left.left c.loop-left.rest.now c.in-Some.interval c.in-Some.behind.now
    c.loop-left-test.true c.in-Some.ensures c.in_ok-push.ensures.items c.loop-left.invariant

pub returns : goal.returns
returns c = is_done interval_at after_interval _ (map interval_view c.loop-left.intervals.items) (option_copied c.loop-left.before) c.loop-left.left c.loop-left.rest.now c.loop-left-test.false c.loop-left.invariant

use Rattle.std.proofs.Common.{map, inr}
use Rattle.part_bytes.specs.Part.{after_entry}
use Rattle.part_bytes.specs.View.{entry_view}
use Rattle.part_bytes.specs.inner.Reading.{entry_at}
use Rattle.part_bytes.proofs.Loops.{goes_on_by, is_refused, is_done}
use Rattle.part_bytes.proofs.names.entries_in_turn.Goals as goal

pub returns-in_default : goal.returns-in_default
returns-in_default c = inr (is_refused entry_at after_entry _ (map entry_view c.loop-left.entries.items) c.loop-left.before.now c.loop-left.left c.loop-left.rest.now c.loop-left-test.true c.in_default.ensures c.loop-left.invariant)

pub loop-left-preserved : goal.loop-left-preserved
loop-left-preserved c =
    goes_on_by entry_at after_entry entry_view _ c.loop-left.entries.items c.push.new.self.items c.loop-left.before.now c.loop-left.left c.loop-left.rest.now c.in-Some.entry c.in-Some.behind.now
    c.loop-left-test.true c.in-Some.ensures c.in_ok-push.ensures.items c.loop-left.invariant

pub returns : goal.returns
returns c = is_done entry_at after_entry _ (map entry_view c.loop-left.entries.items) c.loop-left.before.now c.loop-left.left c.loop-left.rest.now c.loop-left-test.false c.loop-left.invariant

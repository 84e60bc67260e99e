use Rattle.cluster_tool.proofs.Ends.{ends_more, whole_more}
use Rattle.cluster_tool.proofs.playing.all_ends.Goals as goal

pub loop-caller-preserved : goal.loop-caller-preserved
loop-caller-preserved g c = record {
  ends = ends_more _ c.loop-caller.all.items c.push.new.self.items c.in_ok-into_ends.field-0 c.loop-caller.yielded c.in-Some.caller c.in_ok-push.ensures.items
      c.in_ok-into_ends.ensures.0 c.loop-caller.invariant.ends;
  whole = whole_more c.loop-caller.yielded c.in-Some.caller c.loop-caller.invariant.whole c.in_ok-into_ends.ensures.1;
}

use Rattle.std.proofs.Common.{◌≡◌, length, take}
use Rattle.loop_verdict.specs.inner.Heads.{head_slots}
use Rattle.loop_verdict.proofs.heads.HeadFrames.new.Given as goal

abbrev pub invariant-loop-head : goal.invariant-loop-head
invariant-loop-head l = record {
  slots : l.slots.items ≡ head_slots (take l.head-index l.heads);
  one_each : length l.frames.items ≡ length l.slots.items;
}

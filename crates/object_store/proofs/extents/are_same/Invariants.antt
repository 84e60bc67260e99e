use Rattle.std.proofs.Common.{◌≡◌, length, take}
use Rattle.object_store.proofs.extents.are_same.Given as goal

abbrev pub invariant-loop-place : goal.invariant-loop-place
invariant-loop-place l = record { as_long : length l.parts ≡ length l.others; so_far : take l.place l.parts ≡ take l.place l.others }

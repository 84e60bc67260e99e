use Rattle.std.proofs.Common.{◌≡◌, map, take}
use Rattle.class_calls.specs.Handle.{declared_of}
use Rattle.class_calls.proofs.handle.declared_by.Given as goal

-- what the methods so far declare
abbrev pub invariant-loop-method : goal.invariant-loop-method
invariant-loop-method l = l.found.items ≡ map declared_of (take l.method-index l.method-items)

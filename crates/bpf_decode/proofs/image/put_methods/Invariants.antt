use Rattle.std.proofs.Common.{◌≡◌, ◌++◌, take}
use Rattle.std.specs.List.{flat_map}
use Rattle.bpf_decode.specs.Class.{method_bytes}
use Rattle.bpf_decode.proofs.image.put_methods.Given as goal

abbrev pub invariant-loop-method : goal.invariant-loop-method
invariant-loop-method l = l.out.items ≡ l.initial.out.items ++ flat_map (method_bytes l.rules) (take l.method-index l.methods)

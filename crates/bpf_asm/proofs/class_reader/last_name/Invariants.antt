use Rattle.std.proofs.Common.{◌≡◌, [], drop}
use Rattle.bpf_asm.specs.Classes.{last_name}
use Rattle.bpf_asm.proofs.class_reader.last_name.Given as goal

abbrev pub invariant-loop-method : goal.invariant-loop-method
invariant-loop-method l = last_name l.name (drop l.method-index l.methods) ≡ last_name [] l.methods

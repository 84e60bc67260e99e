use Rattle.std.proofs.Common.{◌≡◌, drop}
use Rattle.bpf_decode.specs.Class.{starts}
use Rattle.bpf_decode.specs.ImageReading.{heads_refusal}
use Rattle.bpf_decode.proofs.class_image.check_heads.Given as goal

abbrev pub invariant-loop-head : goal.invariant-loop-head
invariant-loop-head l = heads_refusal (starts l.instructions) l.heads ≡ heads_refusal (starts l.instructions) (drop l.head-index l.heads)

use Rattle.std.proofs.Common.{◌≡◌, drop}
use Rattle.bpf_decode.specs.Limits.{are_name_bytes}
use Rattle.bpf_decode.proofs.limits.are_name_bytes.Given as goal

abbrev pub invariant-loop-byte : goal.invariant-loop-byte
invariant-loop-byte l = are_name_bytes (drop l.byte-index l.name) ≡ are_name_bytes l.name

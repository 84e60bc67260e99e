use Rattle.std.proofs.Common.{◌≡◌, drop}
use Rattle.footprint.specs.Needed.{calls}
use Rattle.footprint.proofs.scan.calls.Given as goal

-- what is left has such a call where the code has one
abbrev pub invariant-loop-insn : goal.invariant-loop-insn
invariant-loop-insn l = calls l.touch (drop l.insn-index l.code) ≡ calls l.touch l.code

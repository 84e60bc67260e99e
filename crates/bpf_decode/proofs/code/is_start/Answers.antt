use Rattle.std.proofs.Common.{arith}
use Rattle.bpf_decode.proofs.Starts.{tells_more}
use Rattle.bpf_decode.proofs.code.is_start.Goals as goal

pub loop-insn-preserved : goal.loop-insn-preserved
loop-insn-preserved c =
    tells_more c.args.insns.now c.loop-insn.insn-index c.loop-insn.at c.args.slot c.width-at.result c.insn-item.result c.loop-insn-test.true c.insn-item.is (omega (arith, c.if-at-slot.false)) c.width-at.ensures c.loop-insn.invariant

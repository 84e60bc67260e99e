use Rattle.std.proofs.Common.{◌*◌, ap, sym, ◌∙◌, arith, inr}
use Rattle.std.proofs.lemmas.List.{take_rest}
use Rattle.std.proofs.lemmas.Result.{err_from_is_err_and}
use Rattle.bpf_decode.specs.Reading.{insn_at}
use Rattle.bpf_decode.proofs.Loop.{cut_code, goes_on, is_refused, is_done}
use Rattle.bpf_decode.proofs.code.read.Goals as goal

pub returns-then-bytes-ne0 : goal.returns-then-bytes-ne0
returns-then-bytes-ne0 c = inr (cut_code c.args.bytes.now c.if-bytes-ne0.true)

pub returns-in_err-insn : goal.returns-in_err-insn
returns-in_err-insn c =
    let p = err_from_is_err_and c.from_residual.result c.from_residual.ensures.1 in
    rw (p.1, p.2) (inr (is_refused c.args.bytes.now c.loop-slot.insns.items c.loop-slot.slot c.in_err-insn.field-0.0 c.if-bytes-ne0.false c.loop-slot-test.true
    (ap (insn_at c.loop-slot.slot) (sym (take_rest c.args.bytes.now (8 * c.loop-slot.slot))) ∙ sym c.in_err-insn.ensures) c.loop-slot.invariant))

pub loop-slot-preserved : goal.loop-slot-preserved
loop-slot-preserved c =
    rw (c.in_ok-push.ensures.items, c.width-slot.ensures) (goes_on c.args.bytes.now c.loop-slot.insns.items c.loop-slot.slot c.in_ok-insn.insn (λ i. omega (arith, c.type_inv.bytes i)) c.loop-slot-test.true
    (ap (insn_at c.loop-slot.slot) (sym (take_rest c.args.bytes.now (8 * c.loop-slot.slot))) ∙ sym c.in_ok-insn.ensures) c.loop-slot.invariant)

pub returns : goal.returns
returns c = is_done c.args.bytes.now c.loop-slot.insns.items c.loop-slot.slot c.if-bytes-ne0.false c.loop-slot-test.false c.loop-slot.invariant

use Rattle.std.proofs.Common.{◌*◌, arith}
use Rattle.std.proofs.lemmas.List.{take_rest}
use Rattle.std.proofs.lemmas.Result.{err_from_is_err_and}
use Rattle.bpf_decode.proofs.Loop.{cut_code, count_refused, count_goes_on, count_ends, count_done}
use Rattle.bpf_decode.proofs.code.count.Goals as goal

pub returns-then-bytes-ne0 : goal.returns-then-bytes-ne0
returns-then-bytes-ne0 c = count_refused c.args.bytes.now _ (cut_code c.args.bytes.now c.if-bytes-ne0.true)

pub returns-in_err-slot : goal.returns-in_err-slot
returns-in_err-slot c =
    let p = err_from_is_err_and c.from_residual.result c.from_residual.ensures.1 in
    rw (p.1, p.2) (count_ends c.args.bytes.now _ c.loop-slot.count c.loop-slot.slot c.in_err-slot.field-0.0 (take_rest c.args.bytes.now (8 * c.loop-slot.slot)) c.if-bytes-ne0.false c.loop-slot-test.true c.in_err-slot.ensures c.loop-slot.invariant)

pub loop-slot-preserved : goal.loop-slot-preserved
loop-slot-preserved c =
    count_goes_on c.args.bytes.now _ c.loop-slot.count c.loop-slot.slot c.in_ok-slot.field-0 (take_rest c.args.bytes.now (8 * c.loop-slot.slot)) (λ i. omega (arith, c.type_inv.bytes i)) c.loop-slot-test.true c.in_ok-slot.ensures c.loop-slot.invariant

pub returns : goal.returns
returns c = count_done c.args.bytes.now c.loop-slot.count c.loop-slot.slot c.if-bytes-ne0.false c.loop-slot-test.false c.loop-slot.invariant

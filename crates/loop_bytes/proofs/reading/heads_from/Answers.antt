use Rattle.std.proofs.Common.{inl, inr}
use Rattle.std.proofs.lemmas.Result.{err_from_is_err_and}
use Rattle.loop_bytes.specs.Reading.{head_from, after_head}
use Rattle.loop_bytes.proofs.Turns.{begins, goes_on, ends, is_done}
use Rattle.loop_bytes.proofs.reading.heads_from.Goals as goal

pub loop-init : goal.loop-init
loop-init c = begins (head_from c.args.starts.now) after_head c.args.count 0 c.args.bytes.now c.new-heads.result.items c.new-heads.ensures.items

pub returns-in_err-head : goal.returns-in_err-head
returns-in_err-head c =
    let p = err_from_is_err_and c.from_residual.result c.from_residual.ensures.1 in
    rw (p.1, p.2) (elim c.in_err-head.ensures [
      | inl none ↦ inl none
      | inr h ↦ inr (ends (head_from c.args.starts.now) after_head c.args.count 0 c.args.bytes.now c.loop.heads.items c.loop.counter c.loop.least c.loop.rest.now c.in_err-head.field-0.0 c.loop-test.true h c.loop.invariant)
    ])

pub loop-preserved : goal.loop-preserved
loop-preserved c = rw (c.in_ok-push.ensures.items, c.slot.ensures) (goes_on (head_from c.args.starts.now) after_head c.args.count 0 c.args.bytes.now c.loop.heads.items c.loop.counter c.loop.least c.loop.rest.now c.in_ok-head.head c.in_ok-head.behind.now c.loop-test.true c.in_ok-head.ensures c.loop.invariant)

pub returns : goal.returns
returns c = is_done (head_from c.args.starts.now) after_head c.args.count 0 c.args.bytes.now c.loop.heads.items c.loop.counter c.loop.least c.loop.rest.now c.loop-test.false c.loop.invariant

use Rattle.std.proofs.Common.{Err, sym, ap, ◌∙◌}
use Rattle.bpf_decode.proofs.ClassLoop.{goes_on, not_counted, is_refused, all_pass, all_hold, class_passes}
use Rattle.bpf_decode.proofs.class_image.check_methods.Goals as goal

pub returns-then-not-is_method_count-clause-read :
    goal.returns-then-not-is_method_count-clause-read
returns-then-not-is_method_count-clause-read c = not_counted c.args.rules c.args.methods.now (sym c.if-not-is_method_count.ensures) ∙ ap (λ e. Err e) (sym c.after.ensures)

pub returns-in-Err-clause-read : goal.returns-in-Err-clause-read
returns-in-Err-clause-read c =
    is_refused c.args.rules c.args.methods.now c.loop-done.done c.loop-done.before.now c.index-methods-done.result c.in-Err.error (sym c.if-not-is_method_count.ensures) c.loop-done-test.true c.index-methods-done.is c.in-Err.ensures.read c.loop-done.invariant
    ∙ ap (λ e. Err e) (sym c.after-in-Err.ensures)

pub loop-done-preserved : goal.loop-done-preserved
loop-done-preserved c =
    rw (c.as_bytes-before.ensures.value, c.name.ensures) (goes_on c.args.rules c.args.methods.now c.loop-done.done c.loop-done.before.now c.index-methods-done.result c.loop-done-test.true c.index-methods-done.is c.in-Ok.ensures.read (c.in-Ok.ensures.fit, c.in-Ok.ensures.hold) c.loop-done.invariant)

pub returns-clause-read : goal.returns-clause-read
returns-clause-read c = all_pass c.args.rules c.args.methods.now c.loop-done.done c.loop-done.before.now (sym c.if-not-is_method_count.ensures) c.loop-done-test.false c.loop-done.invariant

pub returns-clause-class : goal.returns-clause-class
returns-clause-class c =
    (class_passes c.args.rules c.args.methods.now c.args.methods.now (all_hold c.args.rules c.args.methods.now c.loop-done.done c.loop-done.before.now c.loop-done-test.false c.loop-done.invariant)
    (all_pass c.args.rules c.args.methods.now c.loop-done.done c.loop-done.before.now (sym c.if-not-is_method_count.ensures) c.loop-done-test.false c.loop-done.invariant)).0

pub returns-clause-within : goal.returns-clause-within
returns-clause-within c =
    (class_passes c.args.rules c.args.methods.now c.args.methods.now (all_hold c.args.rules c.args.methods.now c.loop-done.done c.loop-done.before.now c.loop-done-test.false c.loop-done.invariant)
    (all_pass c.args.rules c.args.methods.now c.loop-done.done c.loop-done.before.now (sym c.if-not-is_method_count.ensures) c.loop-done-test.false c.loop-done.invariant)).1

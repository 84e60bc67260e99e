use Rattle.std.proofs.Common.{None, slice_set, ◌<◌, ◌≤◌, length, ap, ◌∙◌, sym, arith}
use Rattle.verifier.specs.Verdict.{frame_at}
use Rattle.verifier.specs.inner.Kept.{unbox, unboxed}
use Rattle.verifier.proofs.Boxes.{unboxed_at, unboxed_past, unboxed_set, unboxed_set_past}
use Rattle.verifier.proofs.kept.PendingFrames.take.Goals as goal

pub returns-then-slot-len-clause-taken : goal.returns-then-slot-len-clause-taken
returns-then-slot-len-clause-taken c =
    let items = c.self.inside.frames.items in
    let inside : c.args.slot < length items = omega (arith, c.len.ensures) in
    sym (ap (λ t. frame_at t c.args.slot) (sym c.self.view_is)
    ∙ unboxed_at items c.args.slot c.index_mut.result.now inside
    ∙ ap unbox (sym (c.take.ensures.value ∙ c.index_mut.ensures.value)))

pub returns-then-slot-len-clause-left : goal.returns-then-slot-len-clause-left
returns-then-slot-len-clause-left c =
    let items = c.self.inside.frames.items in
    unboxed_set items c.args.slot c.take.new.self
    ∙ ap (λ o. slice_set (unboxed items) c.args.slot (unbox o)) c.take.ensures.after
    ∙ ap (λ t. slice_set t c.args.slot None) c.self.view_is

pub returns-else-slot-len-clause-taken : goal.returns-else-slot-len-clause-taken
returns-else-slot-len-clause-taken c =
    let b = c.len.ensures in
    let past : length c.self.inside.frames.items ≤ c.args.slot = omega arith in
    sym (ap (λ t. frame_at t c.args.slot) (sym c.self.view_is) ∙ unboxed_past c.self.inside.frames.items c.args.slot past)

pub returns-else-slot-len-clause-left : goal.returns-else-slot-len-clause-left
returns-else-slot-len-clause-left c =
    let past : length c.self.inside.frames.items ≤ c.args.slot = omega arith in
    sym (ap (λ t. slice_set t c.args.slot None) (sym c.self.view_is) ∙ unboxed_set_past c.self.inside.frames.items c.args.slot None past ∙ c.self.view_is)

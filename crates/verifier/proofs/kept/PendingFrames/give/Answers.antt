use Rattle.std.proofs.Common.{◌≡◌, Some, ◌<◌, ◌≤◌, length, ap, ◌∙◌, sym, arith}
use Rattle.std.specs.Prelude.{slice_set}
use Rattle.std.proofs.lemmas.List.{set-set}
use Rattle.verifier.specs.Verdict.{frame_at, joined}
use Rattle.verifier.specs.inner.Kept.{unbox, unboxed}
use Rattle.verifier.proofs.Boxes.{unboxed_at, unboxed_set, unboxed_set_past}
use Rattle.verifier.proofs.kept.PendingFrames.give.Goals as goal

pub returns-then-slot-len : goal.returns-then-slot-len
returns-then-slot-len c =
    let items = c.self.inside.frames.items in
    let slot = c.args.slot in
    let emptied = c.take-kept.new.self in
    let first = c.united-first.result.0 in
    let flow = c.args.flow.value in
    let inside : slot < length items = omega (arith, c.len.ensures) in
    let is : unbox c.take-kept.result ≡ frame_at c.args.self.now slot =
    ap unbox (c.take-kept.ensures.value ∙ c.index_mut.ensures.value)
    ∙ sym (ap (λ t. frame_at t slot) (sym c.self.view_is) ∙ unboxed_at items slot c.index_mut.result.now inside) in
    let value : first.value ≡ joined (frame_at c.args.self.now slot) flow = c.united-first.ensures ∙ ap (λ o. joined o flow) is in
    c.reuse.ensures
    ∙ unboxed_set (slice_set items slot emptied) slot (Some first)
    ∙ ap (λ t. slice_set t slot (Some first.value)) (unboxed_set items slot emptied)
    ∙ set-set (unboxed items) slot (unbox emptied) (Some first.value)
    ∙ ap (λ t. slice_set t slot (Some first.value)) c.self.view_is
    ∙ ap (λ f. slice_set c.args.self.now slot (Some f)) value

pub returns-else-slot-len : goal.returns-else-slot-len
returns-else-slot-len c =
    let past : length c.self.inside.frames.items ≤ c.args.slot = omega (arith, c.len.ensures) in
    sym (ap (λ t. slice_set t c.args.slot (Some (joined (frame_at c.args.self.now c.args.slot) c.args.flow.value))) (sym c.self.view_is) ∙ unboxed_set_past c.self.inside.frames.items c.args.slot _ past ∙ c.self.view_is)

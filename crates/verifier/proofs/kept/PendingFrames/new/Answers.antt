use Rattle.std.proofs.Common.{◌≡◌, ◌++◌, ◌∷◌, [], None, ap, ◌∙◌, arith}
use Rattle.std.specs.Prelude.{replicate}
use Rattle.std.proofs.lemmas.List.{replicate-append-replicate}
use Rattle.verifier.specs.inner.Kept.{unboxed}
use Rattle.verifier.proofs.Boxes.{unboxed_none}
use Rattle.verifier.proofs.kept.PendingFrames.new.Goals as goal

pub loop-preserved : goal.loop-preserved
loop-preserved c =
    c.in_ok-push.ensures.items
    ∙ ap (λ frames. frames ++ None ∷ []) c.loop.invariant
    ∙ replicate-append-replicate c.loop.counter 1 None

pub returns : goal.returns
returns c =
    let all : c.loop.counter ≡ c.args.slots = omega arith in
    ap unboxed (c.loop.invariant ∙ ap (λ n. replicate n None) all) ∙ unboxed_none _ c.args.slots

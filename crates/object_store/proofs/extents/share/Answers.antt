use Rattle.std.proofs.Common.{◌∷◌, [], ◌++◌, take, ap, sym, ◌∙◌, append_assoc}
use Rattle.std.proofs.lemmas.List.{take_more}
use Rattle.object_store.proofs.extents.share.Goals as goal

pub loop-part-preserved : goal.loop-part-preserved
loop-part-preserved c =
    let x = c.part-item.result in
    let i = c.loop-part.part-index in
    let others = c.args.others.now in
    c.in_ok-push.ensures.items
    ∙ ap (λ l. l ++ c.in_ok-share.field-0 ∷ []) c.loop-part.invariant
    ∙ append_assoc c.args.parts.now.items (take i others) (c.in_ok-share.field-0 ∷ [])
    ∙ ap (λ l. c.args.parts.now.items ++ l)
    (ap (λ b. take i others ++ b ∷ []) (c.in_ok-share.ensures ∙ c.part-item.is) ∙ sym (take_more others i x c.loop-part-test.true))

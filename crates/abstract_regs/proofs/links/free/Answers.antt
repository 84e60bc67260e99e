use Rattle.std.proofs.Common.{List, [], ◌∷◌, ◌++◌, ap, ◌∙◌}
use Rattle.std.proofs.lemmas.List.{replicate-append-replicate}
use Rattle.abstract_regs.specs.declared.link.Link.{Link}
use Rattle.abstract_regs.specs.Link.{no_link}
use Rattle.abstract_regs.proofs.links.free.Goals as goal

pub loop-preserved : goal.loop-preserved
loop-preserved c =
    c.in_ok-push.ensures.items
    ∙ ap (λ (l : Link). c.loop.links.items ++ l ∷ []) c.none.ensures
    ∙ ap (λ (t : List Link). t ++ no_link ∷ []) c.loop.invariant
    ∙ replicate-append-replicate c.loop.counter 1 no_link

use Rattle.std.proofs.Common.{◌≡◌, List, [], ◌∷◌, ◌++◌, refl, ap, ◌∙◌}
use Rattle.std.proofs.lemmas.List.{replicate-append-replicate}
use Rattle.abstract_num.specs.Plain.{Plain, constant}
use Rattle.abstract_regs.specs.declared.kind.Kind.{Kind}
use Rattle.abstract_regs.specs.declared.kind.Kind.TheVariants as code
use Rattle.abstract_regs.specs.Kind.{PlainKind, Num}
use Rattle.abstract_regs.specs.Seen.{seen, seen_each}
use Rattle.abstract_regs.proofs.slots.zeros.Goals as goal

seen_push : (f : List Kind) (x : Kind) → seen_each (f ++ x ∷ []) ≡ seen_each f ++ seen x ∷ []
seen_push [] x = refl
seen_push (a ∷ f) x = ap (λ t. seen a ∷ t) (seen_push f x)

pub loop-preserved : goal.loop-preserved
loop-preserved c =
    let items = c.loop.slots.items in
    ap seen_each c.in_ok-push.ensures.items
    ∙ seen_push items (code.Num c.constant.result)
    ∙ ap (λ (k : Plain). seen_each items ++ Num k ∷ []) c.constant.ensures.table
    ∙ ap (λ (t : List PlainKind). t ++ Num (constant 0) ∷ []) c.loop.invariant
    ∙ replicate-append-replicate c.loop.counter 1 (Num (constant 0))

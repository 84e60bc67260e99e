use Rattle.std.proofs.Common.{ℕ, List, ◌∷◌, [], ◌++◌, ap, sym, subst, ◌∙◌}
use Rattle.object_store.specs.Extents.{flat, AreFull, ArePacked}
use Rattle.object_store.proofs.Flats.{flat-push}
use Rattle.object_store.proofs.Packs.{full-push, packed-push}
use Rattle.object_store.proofs.extents.push_extent.Goals as goal

pub returns-clause-bytes : goal.returns-clause-bytes
returns-clause-bytes c =
    ap flat c.in_ok-push.ensures.items
    ∙ flat-push c.args.parts.now.items c.in_ok-extent.extent
    ∙ ap (λ b. flat c.args.parts.now.items ++ b) c.in_ok-extent.ensures

pub returns-clause-packed : goal.returns-clause-packed
returns-clause-packed c =
    subst ArePacked (sym (c.in_ok-push.ensures.items ∙ ap (λ (x : List ℕ). c.args.parts.now.items ++ x ∷ []) c.in_ok-extent.ensures))
    (packed-push c.args.parts.now.items c.args.bytes.items c.requires.full c.requires.within.0 c.requires.within.1)

pub returns-clause-full : goal.returns-clause-full
returns-clause-full c =
    λ e. subst AreFull (sym (c.in_ok-push.ensures.items ∙ ap (λ (x : List ℕ). c.args.parts.now.items ++ x ∷ []) c.in_ok-extent.ensures))
    (full-push c.args.parts.now.items c.args.bytes.items c.requires.full e)

use Rattle.std.proofs.Common.{◌++◌, take, ap, sym, subst, ◌∙◌}
use Rattle.object_store.specs.Extents.{flat, AreFull, ArePacked}
use Rattle.object_store.proofs.Flats.{flat-append}
use Rattle.object_store.proofs.Packs.{packed-seam}
use Rattle.object_store.proofs.extents.replaced.Goals as goal

pub push_bytes-requires : goal.push_bytes-requires
push_bytes-requires c =
    subst AreFull (sym (c.in_ok-share.ensures ∙ ap (λ l. l ++ c.split_at.result.0.now) c.in_ok-all.ensures.items ∙ c.split_at.ensures.front)) c.requires.full

pub returns-clause-bytes : goal.returns-clause-bytes
returns-clause-bytes c =
    let xs = c.args.parts.now in
    let front = c.in_ok-share.ensures ∙ ap (λ l. l ++ c.split_at.result.0.now) c.in_ok-all.ensures.items ∙ c.split_at.ensures.front in
    ap flat c.in_ok-share-2.ensures
    ∙ flat-append c.push_bytes.new.parts.items c.split_at-2.result.1.now
    ∙ ap (λ l. l ++ flat c.split_at-2.result.1.now) (c.in_ok-push_bytes.ensures.bytes ∙ ap (λ l. flat l ++ c.args.bytes.items) front)
    ∙ ap (λ l. (flat (take c.args.kept xs) ++ c.args.bytes.items) ++ flat l) c.split_at-2.ensures.back

pub returns-clause-packed : goal.returns-clause-packed
returns-clause-packed c =
    subst ArePacked (sym (c.in_ok-share-2.ensures ∙ ap (λ l. c.push_bytes.new.parts.items ++ l) c.split_at-2.ensures.back))
    (packed-seam c.push_bytes.new.parts.items c.args.parts.now c.args.others c.in_ok-push_bytes.ensures.packed (λ h. c.in_ok-push_bytes.ensures.full (c.requires.seam h)) c.requires.packed)

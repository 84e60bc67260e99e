-- Contents with the same parts are the same.
use Rattle.std.proofs.Common.{◌≡◌, List, ℕ, ap, ◌∙◌}
use Rattle.object_store.specs.Object.{Content, Attributes}

pub same_parts : (c d : Content) → c.bytes ≡ d.bytes → c.xattrs ≡ d.xattrs → c.omap ≡ d.omap → c ≡ d
same_parts c d p q r =
    let first : c ≡ record c { bytes = d.bytes } = ap (λ (b : List ℕ). record c { bytes = b }) p in
    let second : record c { bytes = d.bytes } ≡ record d { omap = c.omap } = ap (λ (m : Attributes). record { bytes = d.bytes; xattrs = m; omap = c.omap }) q in
    first ∙ second ∙ ap (λ (m : Attributes). record d { omap = m }) r

use Rattle.std.proofs.Common.{Some, ap, sym, ◌∙◌}
use Rattle.shared_map.specs.Entries.{nth}
use Rattle.shared_map.proofs.Maps.{nth-map}
use Rattle.shared_map.proofs.shared_map.SharedMap.nth.Goals as goal

pub returns-in-Some : goal.returns-in-Some
returns-in-Some g c =
    ap (λ k. Some (k, c.in-Some.entry.now.value)) c.as_slice.ensures.value
    ∙ c.in-Some.ensures
    ∙ sym (nth-map _ c.args.n c.self.invariant)
    ∙ ap (λ m. nth m c.args.n) c.self.view_is

pub returns-in-None : goal.returns-in-None
returns-in-None g c = c.in-None.ensures ∙ sym (nth-map _ c.args.n c.self.invariant) ∙ ap (λ m. nth m c.args.n) c.self.view_is

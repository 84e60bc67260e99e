use Rattle.std.proofs.Common.{List, length, ap, sym, ◌∙◌, subst}
use Rattle.map_book.specs.Book.{Book}
use Rattle.map_book.specs.declared.new_map.NewMap.{NewMap}
use Rattle.osd.specs.Maps.{IsBookOf}
use Rattle.osd.proofs.Booking.{moved_is_book, maps_are_all, have_primaries}
use Rattle.osd.proofs.monitors.Monitors.new_map.Goals as goal

pub invariant_of-self-2 : goal.invariant_of-self-2
invariant_of-self-2 g c =
    let config = g.N.ClusterName.config in
    subst (λ (b : Book). IsBookOf config b) (sym c.in-Ok.ensures.moved) (moved_is_book config c.self.inside.book c.args.up.now c.self.invariant)

pub returns-clause-maps : goal.returns-clause-maps
returns-clause-maps g c = (
  ap (λ (w : List NewMap). length w) c.in-Ok.ensures.maps ∙ maps_are_all g.N.ClusterName.config c.self.inside.book c.args.up.now c.self.invariant,
  have_primaries c.in-Ok.maps.items c.in-Ok.ensures.acting,
)

use Rattle.std.proofs.Common.{List, subst, ◌∙◌, ap}
use Rattle.pg_log.specs.Requests.{ClientRequest}
use Rattle.pg_log.specs.Log.{NumbersRise}
use Rattle.pg_log.specs.Refusals.{place_of}
use Rattle.pg_log.specs.Places.{ArePlaces}
use Rattle.pg_log.proofs.group.Group.place.Goals as goal

pub returns : goal.returns
returns g c =
    let xs = c.args.self.now in
    let r = c.args.request.now in
    let P : List ClientRequest → Type 0 = ArePlaces c.self.inside.log.places in
    let R : List ClientRequest → Type 0 = NumbersRise in
    c.place.ensures xs (subst P c.self.view_is c.self.invariant.indexed) (subst R c.self.view_is c.self.invariant.legal.rise)
    ∙ ap (λ k. place_of k c.number.result xs) c.client.ensures ∙ ap (λ k. place_of r.client k xs) c.number.ensures

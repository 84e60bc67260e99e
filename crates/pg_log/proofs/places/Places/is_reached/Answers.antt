use Rattle.std.proofs.Common.{◌∙◌, ap, refl, []}
use Rattle.pg_log.specs.Places.{kept_of}
use Rattle.pg_log.proofs.Indexed.{reached_found}
use Rattle.pg_log.proofs.places.Places.is_reached.Goals as goal

pub returns-in-Some : goal.returns-in-Some
returns-in-Some c = λ list is rise.
    reached_found c.deref.result.now c.args.client c.args.number c.get.result c.get-in-Some.result list rise
    (c.deref.ensures.value ∙ ap (λ o. kept_of o) c.in-Some.ensures.value ∙ is c.get.result) c.get.ensures.value c.get-in-Some.ensures.value c.reaches.result c.reaches.ensures

pub returns-in-None : goal.returns-in-None
returns-in-None c = λ list is rise.
    reached_found [] c.args.client c.args.number c.get.result c.args.number list rise
    (ap (λ o. kept_of o) c.in-None.ensures.value ∙ is c.get.result) c.get.ensures.value refl _ (λ h. refl)

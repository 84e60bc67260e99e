use Rattle.std.proofs.Common.{◌∙◌, ap, sym, refl, IsSome, subst, take, ◌-◌, Option, Vec, ℕ}
use Rattle.std.specs.declared.alloc.Global.{Global}
use Rattle.pg_log.proofs.Indexed.{taken, last_kept}
use Rattle.pg_log.proofs.places.Places.remove.Goals as goal

pub returns-in-Some-clause-places : goal.returns-in-Some-clause-places
returns-in-Some-clause-places c = λ list r is client.
    let m = c.args.self.now.by_client in
    let after = c.get_mut.follows.lender c.pop.new.self in
    let P : Option (Vec (ℕ × ℕ) Global) → Type 0 = IsSome in
    let updates = (c.get_mut.follows.holds c.pop.new.self).3 (subst P c.in-Some.ensures.value refl) in
    taken m after c.get.result c.pop.new.self c.in-Some.requests.now updates (sym c.in-Some.ensures.value) (c.pop.ensures.rest ∙ ap (λ n. take (n - 1) c.in-Some.requests.now.items) c.in-Some.requests.now.ok.0) list r is (c.get.ensures.value ∙ client)

pub returns-in_default-clause-places : goal.returns-in_default-clause-places
returns-in_default-clause-places c = λ list r is client.
    absurd (last_kept _ c.get.result list r (sym c.in_default.ensures.value) (is c.get.result) (c.get.ensures.value ∙ client))

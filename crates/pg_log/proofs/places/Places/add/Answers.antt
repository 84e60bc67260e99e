use Rattle.std.proofs.Common.{◌≡◌, length, arith, ◌∙◌, ap, sym, refl, IsSome, subst, Option, ◌++◌, ◌∷◌, [], Vec, ℕ}
use Rattle.std.proofs.lemmas.Grind.{common_steps}
use Rattle.std.specs.declared.alloc.Global.{Global}
use Rattle.std.specs.Ordering.{nat_cmp}
use Rattle.std.specs.BTreeMap as tree
use Rattle.std.proofs.lemmas.Result.{on_ok_weaker, on_err_weaker}
use Rattle.pg_log.specs.Places.{kept_of, room_of}
use Rattle.pg_log.proofs.Indexed.{added}
use Rattle.pg_log.proofs.places.Places.add.Goals as goal

pub returns-in_ok-push-in-Some-clause-ok : goal.returns-in_ok-push-in-Some-clause-ok
returns-in_ok-push-in-Some-clause-ok c = λ list r is client number at.
    let m = c.args.self.now.by_client in
    let after = c.get_mut.follows.lender c.push.new.self in
    let P : Option (Vec (ℕ × ℕ) Global) → Type 0 = IsSome in
    let updates = (c.get_mut.follows.holds c.push.new.self).3 (subst P c.in-Some.ensures.value refl) in
    added m after c.get-key.result c.get.result c.args.place c.push.new.self updates
    (c.in_ok-push-in-Some.ensures.items ∙ ap (λ o. kept_of o ++ (c.get.result, c.args.place) ∷ []) c.in-Some.ensures.value)
    list r is (c.get-key.ensures.value ∙ client) (c.get.ensures.value ∙ number) at

pub returns-in_err-push-in-Some-clause-succeeds : goal.returns-in_err-push-in-Some-clause-succeeds
returns-in_err-push-in-Some-clause-succeeds c = λ h.
    let m = c.args.self.now.by_client in
    let v = c.in-Some.requests.now in
    let held = c.in-Some.ensures.value in
    let key = c.get-key.ensures.value in
    let kept : length v.items ≡ length (kept_of (tree.get nat_cmp m c.args.client)) = ap (λ o. length (kept_of o)) held ∙ ap (λ k. length (kept_of (tree.get nat_cmp m k))) key in
    let room : v.cap ≡ room_of (tree.get nat_cmp m c.args.client) = ap (λ o. room_of o) held ∙ ap (λ k. room_of (tree.get nat_cmp m k)) key in
    let same = v.ok.0 in
    let full = c.in_err-push-in-Some.ensures.full in
    absurd (omega (arith, h, kept, room, same, full))

pub add_first-requires : goal.add_first-requires
add_first-requires c = ap (λ w. tree.get nat_cmp w c.get-key.result) c.get_mut.follows.holds-at-none ∙ sym c.in-None.ensures.value

pub returns-in-None-clause-ok : goal.returns-in-None-clause-ok
returns-in-None-clause-ok c =
    let same = c.get_mut.follows.holds-at-none in
    on_ok_weaker c.add_first.result
    (λ h list r is client number at. h list r (λ q. ap (λ w. kept_of (tree.get nat_cmp w q)) same ∙ is q) (c.get-key.ensures.value ∙ client) (c.get.ensures.value ∙ number) at)
    c.add_first.ensures.ok

pub returns-in-None-clause-err : goal.returns-in-None-clause-err
returns-in-None-clause-err c =
    let same = c.get_mut.follows.holds-at-none in
    on_err_weaker c.add_first.result (λ h list is. h list (λ q. ap (λ w. kept_of (tree.get nat_cmp w q)) same ∙ is q)) c.add_first.ensures.err

pub returns-in-None-clause-room : goal.returns-in-None-clause-room
returns-in-None-clause-room c = λ client.
    let more = c.add_first.ensures.room client in
    let was = ap (λ w. room_of (tree.get nat_cmp w client)) c.get_mut.follows.holds-at-none in
    omega (arith, more, was)

pub returns-in-None-clause-succeeds : goal.returns-in-None-clause-succeeds
returns-in-None-clause-succeeds c = λ h.
    let m = c.args.self.now.by_client in
    let room : 0 ≡ room_of (tree.get nat_cmp m c.args.client) = ap (λ o. room_of o) c.in-None.ensures.value ∙ ap (λ k. room_of (tree.get nat_cmp m k)) c.get-key.ensures.value in
    absurd (omega (arith, h, room))

pub returns-in_ok-push-in-Some-clause-room : goal.returns-in_ok-push-in-Some-clause-room
returns-in_ok-push-in-Some-clause-room c = grind (arith, common_steps)

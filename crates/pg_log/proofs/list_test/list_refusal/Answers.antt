use Rattle.std.proofs.Common.{◌≡◌, ◌≤◌, ℕ, true, false, Option, Some, None, List, ◌++◌, ◌∷◌, [], length, take, drop, ◌+◌, ap, sym, ◌∙◌, subst, refl, arith}
use Rattle.std.specs.List.{slice_get}
use Rattle.std.specs.Option.{is_some}
use Rattle.std.proofs.lemmas.Bool.{false≢true}
use Rattle.std.proofs.lemmas.List.{length-take-le}
use Rattle.std.proofs.lemmas.Option.{slice_get_read}
use Rattle.pg_log.specs.declared.log_error.LogError.{LogError}
use Rattle.pg_log.specs.Requests.{ClientRequest}
use Rattle.pg_log.specs.Log.{NumbersRise}
use Rattle.pg_log.specs.Places.{ArePlaces}
use Rattle.pg_log.specs.Refusals.{refusal, or_else, first_refusal_from}
use Rattle.pg_log.proofs.Lists.{take_get, drop_get}
use Rattle.pg_log.proofs.Exact.{lists_exact, unrefused_next}
use Rattle.pg_log.proofs.Adopted.{rest_more}
use Rattle.pg_log.proofs.list_test.list_refusal.Goals as goal

or_else_some : (o p : Option LogError) → is_some o ≡ true → or_else o p ≡ o
or_else_some None p h = absurd (false≢true h)
or_else_some (Some why) p h = refl

none_of : (o : Option LogError) → is_some o ≡ false → o ≡ None
none_of None h = refl
none_of (Some why) h = absurd (false≢true (sym h))

pub returns-then-is_some-clause-ok : goal.returns-then-is_some-clause-ok
returns-then-is_some-clause-ok c =
    let table = c.args.table.now in
    let list = c.args.list.now in
    let k : ℕ = c.loop-place.place in
    let r = c.index-list-place.result in
    let within : k ≤ length list = omega arith in
    let at : slice_get list k ≡ Some r = slice_get_read list _ k r refl (omega arith) c.index-list-place.is in
    let rise : NumbersRise (take k list) = ((lists_exact table (take k list)).0 c.loop-place.invariant.run).rise in
    let why = c.refusal_after-why.ensures (take k list) (length-take-le k list within) c.loop-place.invariant.indexed rise in
    let some : is_some c.refusal_after-why.result ≡ true = sym c.is_some.ensures ∙ c.if-is_some.true in
    let rest = first_refusal_from table (take k list ++ r ∷ []) (drop (k + 1) list) in
    sym (c.loop-place.invariant.left ∙ ap (first_refusal_from table (take k list)) (drop_get list k r at) ∙ ap (λ o. or_else o rest) (sym why)
    ∙ or_else_some c.refusal_after-why.result rest some)

pub loop-place-preserved : goal.loop-place-preserved
loop-place-preserved c =
    let table = c.args.table.now in
    let list = c.args.list.now in
    let k : ℕ = c.loop-place.place in
    let r = c.index-list-place.result in
    let within : k ≤ length list = omega arith in
    let at : slice_get list k ≡ Some r = slice_get_read list _ k r refl (omega arith) c.index-list-place.is in
    let rise : NumbersRise (take k list) = ((lists_exact table (take k list)).0 c.loop-place.invariant.run).rise in
    let long : length (take k list) ≡ k = length-take-le k list within in
    let why = c.refusal_after-why.ensures (take k list) long c.loop-place.invariant.indexed rise in
    let none : refusal table (take k list) r ≡ None = sym why ∙ none_of c.refusal_after-why.result (sym c.is_some.ensures ∙ c.if-is_some.false) in
    let P : List ClientRequest → Type 0 = ArePlaces c.add.new.self in
    record {
      indexed = subst P (sym (take_get list k r at)) (c.in_ok-add.ensures.ok (take k list) r c.loop-place.invariant.indexed c.client.ensures c.number.ensures (sym long));
      run = unrefused_next table list k r at c.loop-place.invariant.run none;
      left = c.loop-place.invariant.left ∙ rest_more table list k r at none;
    }

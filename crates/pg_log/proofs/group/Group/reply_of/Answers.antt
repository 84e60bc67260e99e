use Rattle.std.proofs.Common.{◌∙◌, ap, sym, subst, List, Some, FitsSigned, w64, rules}
use Rattle.std.specs.Int.{cast_unsigned}
use Rattle.std.proofs.lemmas.Int.{to_z-of_z}
use Rattle.pg_log.specs.Requests.{ClientRequest}
use Rattle.pg_log.specs.Log.{NumbersRise}
use Rattle.pg_log.specs.Places.{ArePlaces}
use Rattle.pg_log.proofs.Fold.{pair_replied}
use Rattle.pg_log.proofs.group.Group.reply_of.Goals as goal

pub returns-in_err-code : goal.returns-in_err-code
returns-in_err-code g c =
    let xs = c.args.self.now in
    let place = c.in_ok-place.place in
    let P : List ClientRequest → Type 0 = ArePlaces c.self.inside.log.places in
    let R : List ClientRequest → Type 0 = NumbersRise in
    let at = c.in_ok-place.ensures xs (subst P c.self.view_is c.self.invariant.indexed) (subst R c.self.view_is c.self.invariant.legal.rise) in
    absurd (pair_replied g.C.Classes.classes xs c.args.client c.args.number place at (sym c.in_err-code.ensures))

pub returns : goal.returns
returns g c =
    let xs = c.args.self.now in
    let P : List ClientRequest → Type 0 = ArePlaces c.self.inside.log.places in
    let R : List ClientRequest → Type 0 = NumbersRise in
    let at = c.in_ok-place.ensures xs (subst P c.self.view_is c.self.invariant.indexed) (subst R c.self.view_is c.self.invariant.legal.rise) in
    let code = c.in_ok-code.code in
    let fits : FitsSigned w64 code = search rules in
    (sym at, sym c.in_ok-code.ensures ∙ sym (ap (λ n. Some (record { code = cast_unsigned w64 n; output = c.in_ok-code.output.now })) (to_z-of_z w64 code fits)))

use Rattle.std.proofs.Common.{◌≡◌, ◌∙◌, ap, sym, subst, List, None, IfOk}
use Rattle.object_store.specs.Names.{PlainObjects}
use Rattle.pg_log.specs.Requests.{ClientRequest}
use Rattle.pg_log.specs.Log.{NumbersRise, fold}
use Rattle.pg_log.specs.Refusals.{refusal}
use Rattle.pg_log.specs.Places.{ArePlaces}
use Rattle.pg_log.specs.Entries.{IsOutcomeOn}
use Rattle.pg_log.proofs.Kept.{length-requests}
use Rattle.pg_log.proofs.group.Group.run.Goals as goal

pub returns-clause-ok : goal.returns-clause-ok
returns-clause-ok g c =
    let xs = c.args.self.now in
    let n = length-requests c.self.inside.log.entries.items xs c.self.view_is in
    let P : List ClientRequest → Type 0 = ArePlaces c.self.inside.log.places in
    let R : List ClientRequest → Type 0 = NumbersRise in
    let objects : c.self.inside.log.objects ≡ fold g.C.Classes.classes xs = c.self.invariant.folded ∙ ap (fold g.C.Classes.classes) c.self.view_is in
    let D : PlainObjects → Type 0 = λ w. IfOk c.run_after.result (λ o. (refusal c.args.table.now xs c.args.request.now ≡ None) × IsOutcomeOn c.args.table.now w c.args.request.now o.code o.output.items o.change) in
    subst D objects (c.run_after.ensures.ok xs (sym n) (subst P c.self.view_is c.self.invariant.indexed) (subst R c.self.view_is c.self.invariant.legal.rise))

pub returns-clause-err : goal.returns-clause-err
returns-clause-err g c =
    let xs = c.args.self.now in
    let n = length-requests c.self.inside.log.entries.items xs c.self.view_is in
    let P : List ClientRequest → Type 0 = ArePlaces c.self.inside.log.places in
    let R : List ClientRequest → Type 0 = NumbersRise in
    c.run_after.ensures.err xs (sym n) (subst P c.self.view_is c.self.invariant.indexed) (subst R c.self.view_is c.self.invariant.legal.rise)

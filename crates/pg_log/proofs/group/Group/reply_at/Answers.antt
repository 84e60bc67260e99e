use Rattle.std.proofs.Common.{◌≡◌, ◌∙◌, ap, sym, Some, refl, rules, FitsSigned, w64}
use Rattle.std.specs.Int.{cast_unsigned}
use Rattle.std.proofs.lemmas.Int.{to_z-of_z}
use Rattle.std.specs.List.{slice_get}
use Rattle.std.proofs.lemmas.Option.{slice_get_read, slice_get_past}
use Rattle.pg_log.specs.Log.{reply_at}
use Rattle.pg_log.proofs.Kept.{reply_made, no_entry}
use Rattle.pg_log.proofs.group.Group.reply_at.Goals as goal

pub returns-in-Some : goal.returns-in-Some
returns-in-Some g c =
    let classes = g.C.Classes.classes in
    let es = c.self.inside.log.entries.items in
    let l = c.in-Some.ensures.lookup in
    let at : slice_get es c.args.place ≡ Some c.in-Some.entry.now =
    ap (λ xs. slice_get xs c.args.place) (sym c.deref.ensures.value) ∙ slice_get_read c.deref.result.now _ c.args.place c.in-Some.entry.now refl l.3.0 l.1 in
    let made = reply_made classes es c.args.place c.in-Some.entry.now c.self.invariant.kept at in
    let code = c.in-Some.entry.now.code in
    let fits : FitsSigned w64 code = search rules in
    ap (λ n. Some (record { code = cast_unsigned w64 n; output = c.as_slice.result.now })) (to_z-of_z w64 code fits)
    ∙ ap (λ o. Some (record { code = cast_unsigned w64 code; output = o })) c.as_slice.ensures.value
    ∙ made ∙ ap (λ xs. reply_at classes xs c.args.place) c.self.view_is

pub returns-in-None : goal.returns-in-None
returns-in-None g c =
    let classes = g.C.Classes.classes in
    let es = c.self.inside.log.entries.items in
    let past = ap (λ xs. slice_get xs c.args.place) (sym c.deref.ensures.value) ∙ slice_get_past c.deref.result.now c.args.place c.in-None.ensures.lookup.3 in
    no_entry classes es c.args.place past ∙ ap (λ xs. reply_at classes xs c.args.place) c.self.view_is

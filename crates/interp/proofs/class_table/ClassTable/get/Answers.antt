use Rattle.std.proofs.Common.{refl, sym, ap, ◌∙◌, arith}
use Rattle.std.proofs.lemmas.Grind.{elements}
use Rattle.std.specs.Prelude.{slice_get}
use Rattle.std.proofs.lemmas.Option.{slice_get_read}
use Rattle.interp.proofs.class_table.ClassTable.get.Goals as goal

pub returns-clause-found : goal.returns-clause-found
returns-clause-found c =
    let h = c.in_ok-class.ensures.lookup in
    sym (slice_get_read c.deref.result.now _ c.args.id c.in_ok-class.class.now refl h.3.0 h.1)
    ∙ ap (λ l. slice_get l c.args.id) (c.deref.ensures.value ∙ c.self.view_is)

pub returns-clause-safe : goal.returns-clause-safe
returns-clause-safe c = c.methods.ensures.safe

pub returns-in_err-class-clause-found : goal.returns-in_err-class-clause-found
returns-in_err-class-clause-found c = grind (arith, elements)

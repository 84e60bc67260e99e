use Rattle.std.proofs.Common.{◌≡◌, ◌∙◌, ap, sym, subst, w32, Option, Some}
use Rattle.std.proofs.lemmas.Int.{to_z-of_z}
use Rattle.class_loops.specs.declared.held.HeldClass.{HeldClass}
use Rattle.sillarnica.specs.Told.{Memory, TellsHeldCall}
use Rattle.sillarnica.proofs.Found.{told_by_held}
use Rattle.sillarnica.proofs.verified.sillarnica_verified_call.Goals as goal

pub returns-clause-told : goal.returns-clause-told
returns-clause-told c =
    let asked = c.args in
    let class = c.deref_mut.result.now in
    let old : Memory = record { answer = c.args.answer.now; out = c.args.out.now } in
    let new : Memory = record { answer = c.tell.new.answer; out = c.tell.new.out } in
    let told = told_by_held class asked.method.now asked.object.now asked.caller asked.input.now c.call-found.result old new c.tell.result c.call-found.ensures.ok c.call-found.ensures.refused c.tell.ensures in
    let held : Some class ≡ c.args.verified.now.pointer.class = ap Some c.deref_mut.ensures.value ∙ sym c.take-class.ensures.class in
    rw (to_z-of_z w32 c.tell.result (record { sfits = c.tell.type_inv })) (subst (λ (o : Option HeldClass). TellsHeldCall o asked.method.now asked.object.now asked.caller asked.input.now old new c.tell.result) held told)

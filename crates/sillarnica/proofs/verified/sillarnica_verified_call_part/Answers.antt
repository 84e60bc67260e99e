use Rattle.std.proofs.Common.{◌≡◌, ◌∙◌, ap, sym, subst, w32, Option, Some}
use Rattle.std.proofs.lemmas.Int.{to_z-of_z}
use Rattle.class_loops.specs.declared.held.HeldClass.{HeldClass}
use Rattle.object_store.specs.declared.limits.Limits.{Limits}
use Rattle.sillarnica.specs.Parts.{PartMemory, TellsHeldPartCall}
use Rattle.sillarnica.proofs.FoundPart.{told_by_part}
use Rattle.sillarnica.proofs.verified.sillarnica_verified_call_part.Goals as goal

pub returns-clause-told : goal.returns-clause-told
returns-clause-told c =
    let asked = c.args in
    let given = c.limits_of.result in
    let class = c.deref_mut.result.now in
    let old : PartMemory = record { answer = c.args.answer.now; want = c.args.want.now; out = c.args.out.now } in
    let new : PartMemory = record { answer = c.tell_part.new.answer; want = c.tell_part.new.want; out = c.tell_part.new.out } in
    let told = told_by_part class asked.method.now asked.part.now asked.caller given asked.input.now c.call_part-found.result old new c.tell_part.result c.call_part-found.ensures.ok c.call_part-found.ensures.refused c.tell_part.ensures in
    let held : Some class ≡ c.args.verified.now.pointer.class = ap Some c.deref_mut.ensures.value ∙ sym c.take-class.ensures.class in
    let by_class = subst (λ (o : Option HeldClass). TellsHeldPartCall o asked.method.now asked.part.now asked.caller given asked.input.now old new c.tell_part.result) held told in
    rw (to_z-of_z w32 c.tell_part.result (record { sfits = c.tell_part.type_inv })) (subst (λ (l : Limits). TellsHeldPartCall c.args.verified.now.pointer.class asked.method.now asked.part.now asked.caller l asked.input.now old new c.tell_part.result) c.limits_of.ensures by_class)

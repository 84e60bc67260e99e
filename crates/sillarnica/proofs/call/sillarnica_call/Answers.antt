use Rattle.std.proofs.Common.{refl, inl, w32}
use Rattle.std.proofs.lemmas.Int.{to_z-of_z}
use Rattle.sillarnica.specs.Told.{Memory}
use Rattle.sillarnica.proofs.Found.{told_by}
use Rattle.sillarnica.proofs.call.sillarnica_call.Goals as goal

pub returns-in-Ok : goal.returns-in-Ok
returns-in-Ok c =
    let asked = c.args in
    let old : Memory = record { answer = c.args.answer.now; out = c.args.out.now } in
    let new : Memory = record { answer = c.tell.new.answer; out = c.tell.new.out } in
    let told = told_by c.in-Ok.class asked.method.now asked.object.now asked.caller asked.input.now c.call_on.result old new c.tell.result c.call_on.ensures.ok c.call_on.ensures.refused c.tell.ensures in
    rw (to_z-of_z w32 c.tell.result (record { sfits = c.tell.type_inv })) (inl (record { class = c.in-Ok.class; loaded = c.in-Ok.ensures.found; told = told }, refl))

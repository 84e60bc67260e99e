use Rattle.std.proofs.Common.{◌≡◌, ◌∙◌, ap, ℕ, rules, FitsSigned, w64}
use Rattle.std.specs.Int.{cast_unsigned}
use Rattle.std.proofs.lemmas.Int.{to_z-of_z}
use Rattle.pg_log.specs.Log.{Reply}
use Rattle.group_world.specs.Node.{packet}
use Rattle.group_world.specs.declared.party.Party.TheVariants.{Client as AClient}
use Rattle.group_world.specs.declared.message.MessageKind.TheVariants.{Reply as ReplyTo}
use Rattle.group_world.specs.declared.message.Packet.{Packet}
use Rattle.peering_messages.specs.Sending.{answer_in}
use Rattle.peering_messages.proofs.replying.reply.Goals as goal

pub returns-clause-ok : goal.returns-clause-ok
returns-clause-ok c =
    let e = c.args.entry.now in
    let fits : FitsSigned w64 e.code = search rules in
    let items = c.in_ok-from_slice.ensures.items ∙ c.deref.ensures.value in
    let answer : c.new-answer.result ≡ answer_in e =
    c.new-answer.ensures ∙ ap (λ z. record { code = cast_unsigned w64 z; output = c.in_ok-from_slice.field-0.items }) (to_z-of_z w64 e.code fits)
    ∙ ap (λ o. record { code = cast_unsigned w64 e.code; output = o }) items in
    let said : ℕ → ℕ → Reply → Packet = λ client number a. packet c.args.number (AClient client) (ReplyTo client number c.args.place a) in
    c.packet.ensures ∙ ap (λ k. said k c.number.result c.new-answer.result) c.client-client.ensures
    ∙ ap (λ k. said e.request.client k c.new-answer.result) c.number.ensures ∙ ap (said e.request.client e.request.number) answer

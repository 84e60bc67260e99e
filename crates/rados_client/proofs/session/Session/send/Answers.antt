use Rattle.std.proofs.Common.{◌≡◌, ◌<◌, ◌^◌, suc, Some, refl, ap, ◌∙◌, subst, arith}
use Rattle.rados_client.specs.Session.{Contact, SessionState}
use Rattle.rados_client.specs.Promise.{IsAsked}
use Rattle.rados_client.proofs.Calling.{is_call}
use Rattle.rados_client.proofs.session.Session.send.Goals as goal

pub returns-in-Some : goal.returns-in-Some
returns-in-Some g c =
    let classes = g.N.Classes.classes in
    let r = c.args.request in
    let answer = c.in-Some.answer in
    let next = c.get-self-inside.ensures.value ∙ c.requires in
    let asked = subst (λ (k : Contact). IsAsked classes k c.ask.new.self r answer) (ap (λ (s : SessionState). s.contact) c.self.view_is) c.in-Some.ensures.some in
    let few : suc c.args.self.now.used < 2 ^ 32 = omega (arith, next, c.get-self-inside.type_inv) in
    is_call classes c.args.self.now (record { client = c.self.inside.client; used = c.get-self-inside.result; last = Some r; contact = c.ask.new.self }) r answer few
    (ap (λ (s : SessionState). s.client) c.self.view_is) (next, refl) asked

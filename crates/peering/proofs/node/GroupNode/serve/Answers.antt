use Rattle.std.proofs.Common.{◌≡◌, ℕ, Option, None, sym, ap, ◌∙◌, subst, IfOk, IfErr, arith}
use Rattle.std.proofs.lemmas.Grind.{common_steps}
use Rattle.pg_log.specs.Refusals.{place_of}
use Rattle.group_world.specs.Rules.{request_at}
use Rattle.peering.specs.Numbered.{IsDone, IsRefusal}
use Rattle.peering.proofs.node.GroupNode.serve.Goals as goal

pub returns-in-None-clause-done : goal.returns-in-None-clause-done
returns-in-None-clause-done g c =
    let n = c.args.self.now in
    let r = c.args.request in
    let e : place_of r.client r.number n.state.log ≡ None =
    ap (λ w. place_of w r.number n.state.log) (sym c.client.ensures) ∙ ap (λ w. place_of c.client.result w n.state.log) (sym c.number.ensures)
    ∙ ap (place_of c.client.result c.number.result) (sym c.group.ensures) ∙ c.in-None.ensures in
    let P : Option ℕ → Type 0 = λ o. IfOk c.append.result (λ sent. IsDone n c.append.new.self sent.items (request_at c.args.table.now n.number n.state r o)) in
    subst P (sym e) c.append.ensures.done

pub returns-in-None-clause-why : goal.returns-in-None-clause-why
returns-in-None-clause-why g c =
    let n = c.args.self.now in
    let r = c.args.request in
    let e : place_of r.client r.number n.state.log ≡ None =
    ap (λ w. place_of w r.number n.state.log) (sym c.client.ensures) ∙ ap (λ w. place_of c.client.result w n.state.log) (sym c.number.ensures)
    ∙ ap (place_of c.client.result c.number.result) (sym c.group.ensures) ∙ c.in-None.ensures in
    let P : Option ℕ → Type 0 = λ o. IfErr c.append.result (IsRefusal (request_at c.args.table.now n.number n.state r o)) in
    subst P (sym e) c.append.ensures.why

pub returns-in-Some-clause-done : goal.returns-in-Some-clause-done
returns-in-Some-clause-done g c = grind (arith, common_steps)

pub returns-in-Some-clause-err : goal.returns-in-Some-clause-err
returns-in-Some-clause-err g c = grind (arith, common_steps)

pub returns-in-Some-clause-why : goal.returns-in-Some-clause-why
returns-in-Some-clause-why g c = grind (arith, common_steps)

use Rattle.std.proofs.Common.{Bool, true, false, not, Option, Some, None, ◌≡◌, ap, refl, sym, ◌∙◌, is_none}
use Rattle.std.specs.Option.{is_some}
use Rattle.std.proofs.lemmas.Bool.{false≢true}
use Rattle.pg_log.specs.declared.log_error.LogError.{LogError}
use Rattle.pg_log.specs.Refusals.{first_refusal}
use Rattle.group_world.specs.Node.{committed_list}
use Rattle.group_world.specs.Rules.{begins}
use Rattle.peering.proofs.Installing.{and_true}
use Rattle.peering.proofs.node.GroupNode.can_take.Goals as goal

none_where : (o : Option LogError) (b : Bool) → is_some o ≡ not b → b ≡ is_none o
none_where None true h = refl
none_where None false h = absurd (false≢true h)
none_where (Some why) true h = absurd (false≢true (sym h))
none_where (Some why) false h = refl

pub returns-then-has_run-clause-ok : goal.returns-then-has_run-clause-ok
returns-then-has_run-clause-ok g c =
    let n = c.args.self.now in
    let run = c.has_run.ensures.runs c.args.table.now c.requires.legal c.if-has_run.true in
    ap is_none (sym run)
    ∙ and_true (is_none (first_refusal c.args.table.now c.args.list.now)) (begins (committed_list n.state) c.args.list.now) (sym c.keeps_committed.ensures.value ∙ c.if-not-keeps_committed.false)

pub returns-in-Ok-clause-ok : goal.returns-in-Ok-clause-ok
returns-in-Ok-clause-ok g c =
    let n = c.args.self.now in
    none_where c.in-Ok.why c.is_none.result c.is_none.ensures ∙ ap is_none c.in-Ok.ensures.ok
    ∙ and_true (is_none (first_refusal c.args.table.now c.args.list.now)) (begins (committed_list n.state) c.args.list.now) (sym c.keeps_committed.ensures.value ∙ c.if-not-keeps_committed.false)

-- memory is asked for only where the list is no beginning of the log
pub returns-in-Err-clause-again : goal.returns-in-Err-clause-again
returns-in-Err-clause-again g c = λ begins. false≢true (sym c.if-has_run.false ∙ c.has_run.ensures.beginning begins)

use Rattle.std.proofs.Common.{◌∙◌, ap, sym}
use Rattle.std.proofs.lemmas.Result.{on_ok_weaker}
use Rattle.object_store.specs.Names.{stored}
use Rattle.txn.proofs.Stored.{stored-stored}
use Rattle.txn.proofs.change.undo.Goals as goal

pub returns-clause-restored : goal.returns-clause-restored
returns-clause-restored c =
    on_ok_weaker c.put.result
    (λ is was there left. is
    ∙ ap (stored c.args.objects.now c.args.name.now) c.before-2.ensures
    ∙ ap (λ o. stored o c.args.name.now c.args.change.now.before) left
    ∙ ap (stored (stored was c.args.name.now c.args.change.now.after) c.args.name.now) (sym there)
    ∙ stored-stored was c.args.name.now c.args.change.now.after)
    c.put.ensures.ok

use Rattle.std.proofs.Common.{rules, ◌≡◌, ◌∙◌, ap, sym}
use Rattle.std.specs.FinMap as fin
use Rattle.object_store.specs.Names.{stored}
use Rattle.txn.specs.Staging.{left}
use Rattle.txn.proofs.Stored.{stored-get}
use Rattle.txn.proofs.change.apply.Goals as goal

-- what stands under the name is the object after the change
pub returns-in-Same-clause-ok : goal.returns-in-Same-clause-ok
returns-in-Same-clause-ok c =
    let objects = c.args.objects.now in
    let name = c.args.name.now in
    let same : c.args.change.now.after ≡ fin.get objects name =
    ap (λ v. v.after) (sym c.change.view_is) ∙ ap (left c.change.inside.before) c.in-Same.is ∙ ap (λ v. v.before) c.change.view_is ∙ sym c.requires in
    sym (ap (stored objects name) same ∙ stored-get objects name)

-- turned by apply_stores_what_was_before
pub returns-in-Made-clause-ok : goal.returns-in-Made-clause-ok
returns-in-Made-clause-ok c = search rules

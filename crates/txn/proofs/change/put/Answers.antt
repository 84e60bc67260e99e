use Rattle.std.proofs.Common.{◌∙◌, ap}
use Rattle.std.specs.FinMap as fin
use Rattle.std.specs.Option.{option_copied}
use Rattle.txn.proofs.Stored.{get-stored_same}
use Rattle.txn.proofs.change.put.Goals as goal

pub returns-in-Ok-clause-stands : goal.returns-in-Ok-clause-stands
returns-in-Ok-clause-stands c =
    ap (λ o. fin.get o c.args.name.now) c.in-Ok.ensures.ok ∙ get-stored_same c.args.objects.now c.args.name.now (option_copied c.args.object)

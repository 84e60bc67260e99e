use Rattle.pg_log.specs.Log.{fold}
use Rattle.pg_log.proofs.Ran.{next_legal, next_outcome, next_safe, entry_copied}
use Rattle.pg_log.proofs.group.Group.next_entry_of.Goals as goal

pub returns-clause-next : goal.returns-clause-next
returns-clause-next g c =
    let classes = g.C.Classes.classes in
    let xs = c.args.self.now in
    let r = c.args.request.now in
    let o = c.in_ok-outcome.outcome in
    let ran = c.in_ok-outcome.ensures in
    let made = c.entry_of_copy.ensures in
    entry_copied classes xs r o c.entry_of_copy.result made.request made.code made.output made.change
    (next_legal c.args.table.now classes xs r c.requires c.run.ensures.legal ran.ok.0)
    (next_safe c.args.table.now classes xs r c.requires ran.ok.0 ran.safe)
    (next_outcome c.args.table.now classes xs (fold classes xs) r o.code o.output.items o.change c.requires ran.ok.0 ran.ok.1)

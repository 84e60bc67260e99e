use Rattle.std.proofs.Common.{◌∙◌, ap, Some, sym}
use Rattle.std.specs.Int.{w64, cast_unsigned}
use Rattle.pg_log.specs.Log.{fold}
use Rattle.pg_log.proofs.Fold.{reply_at-last}
use Rattle.pg_log.proofs.Ran.{next_legal, next_outcome, next_safe, entry_made}
use Rattle.pg_log.proofs.group.Group.next_entry.Goals as goal

pub returns-clause-next : goal.returns-clause-next
returns-clause-next g c =
    let classes = g.C.Classes.classes in
    let xs = c.args.self.now in
    let r = c.args.request in
    let o = c.in_ok-outcome.outcome in
    let ran = c.in_ok-outcome.ensures in
    let made = c.entry_of.ensures in
    entry_made classes xs r o c.entry_of.result made.request made.code made.output made.change
    (next_legal c.args.table.now classes xs r c.requires c.run.ensures.legal ran.ok.0)
    (next_safe c.args.table.now classes xs r c.requires ran.ok.0 ran.safe)
    (next_outcome c.args.table.now classes xs (fold classes xs) r o.code o.output.items o.change c.requires ran.ok.0 ran.ok.1)

pub returns-clause-reply : goal.returns-clause-reply
returns-clause-reply g c =
    let classes = g.C.Classes.classes in
    let xs = c.args.self.now in
    let r = c.args.request in
    let o = c.in_ok-outcome.outcome in
    let made = c.entry_of.ensures in
    let ran = next_outcome c.args.table.now classes xs (fold classes xs) r o.code o.output.items o.change c.requires c.in_ok-outcome.ensures.ok.0 c.in_ok-outcome.ensures.ok.1 in
    reply_at-last classes xs r
    ∙ ap (λ w. Some (record { code = w.code; output = w.output })) (sym ran.made)
    ∙ ap (λ z. Some (record { code = cast_unsigned w64 z; output = o.output.items })) (sym made.code)
    ∙ ap (λ z. Some (record { code = cast_unsigned w64 c.entry_of.result.code; output = z })) (sym made.output)

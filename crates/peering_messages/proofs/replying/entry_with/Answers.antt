use Rattle.std.proofs.Common.{◌≡◌, ◌<◌, ◌++◌, ◌∷◌, [], ◌∙◌, ap, length, arith}
use Rattle.std.specs.List.{slice_get}
use Rattle.pg_log.specs.Log.{reply_at}
use Rattle.peering_messages.proofs.Committed.{stays_at}
use Rattle.peering_messages.proofs.Lists.{get_last}
use Rattle.peering_messages.proofs.replying.entry_with.Goals as goal

pub returns-then-place-len : goal.returns-then-place-len
returns-then-place-len g c =
    let within : c.args.place < length c.args.group.now = omega arith in
    stays_at c.replies.ensures.stay c.args.table.now c.args.group.now (c.args.next.now.request ∷ []) c.args.place c.entry_at.result.now within c.entry_at.ensures

pub returns : goal.returns
returns g c =
    let log = c.args.group.now in
    let r = c.args.next.now.request in
    let last : c.args.place ≡ length log = omega arith in
    record {
      request = ap (slice_get (log ++ r ∷ [])) last ∙ get_last log r;
      reply = ap (reply_at c.args.table.now (log ++ r ∷ [])) last ∙ c.requires.next.reply;
    }

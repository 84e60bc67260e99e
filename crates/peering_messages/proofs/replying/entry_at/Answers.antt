use Rattle.std.proofs.Common.{◌≡◌, ◌<◌, ◌∙◌, ap, sym, refl, Some, length, arith}
use Rattle.std.specs.List.{slice_get}
use Rattle.std.specs.Option.{option_map}
use Rattle.std.proofs.lemmas.Option.{slice_get_read, slice_get-map}
use Rattle.pg_log.specs.declared.entry.Entry.{Entry}
use Rattle.pg_log.specs.Log.{reply_at}
use Rattle.peering_messages.proofs.Committed.{same_reply}
use Rattle.peering_messages.proofs.Lists.{length_requests}
use Rattle.peering_messages.proofs.replying.entry_at.Goals as goal

pub returns : goal.returns
returns g c =
    let table = c.args.table.now in
    let all = g.C.Classes.classes in
    let es = c.entries.result.now in
    let e = c.index-entries-place.result in
    let k = c.args.place in
    let same = c.entries.ensures.requests in
    let long = length_requests es in
    let longer = ap length same in
    let within : k < length es = omega (arith, long, longer, c.requires.within) in
    let at : slice_get es k ≡ Some e = slice_get_read es _ k e refl within c.index-entries-place.is in
    record {
      request = ap (λ w. slice_get w k) (sym same) ∙ slice_get-map (λ (w : Entry). w.request) es k ∙ ap (λ o. option_map (λ (w : Entry). w.request) o) at;
      reply = sym (same_reply c.classes_added.ensures table all c.args.group.now k c.requires.legal.first c.requires.legal.legal)
          ∙ ap (λ w. reply_at all w k) (sym same) ∙ c.replies.ensures.entries all es k e c.entries.ensures.kept at;
    }

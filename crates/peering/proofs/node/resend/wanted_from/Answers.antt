use Rattle.std.proofs.Common.{◌∙◌, ap, sym, drop, take}
use Rattle.peering.specs.inner.Arriving.{first_after}
use Rattle.peering.proofs.Raising.{cut_none, cut_some}
use Rattle.peering.proofs.node.resend.wanted_from.Goals as goal
use Rattle.peering.proofs.node.resend.wanted_from.Goals.{in-None, in-Some}

pub returns-clause-entries : goal.returns-clause-entries
returns-clause-entries c =
    let from = c.args.from in
    let es = c.args.log.now.entries.now in
    elim c.match-most.branch [
      | in-None w ↦ cut_none from c.match-most.end es w.end-is ∙ sym (ap (λ m. first_after m c.args.made (drop from es)) w.in-None.is)
      | in-Some w ↦
          ap (λ e. drop from (take e es)) w.end-is
          ∙ cut_some from w.end_of-end.result w.saturating_sub.result es w.end_of-end.ensures.end
          ∙ ap (λ n. take n (drop from es)) w.saturating_sub.ensures
          ∙ sym (ap (λ m. first_after m c.args.made (drop from es)) w.in-Some.is)
    ]

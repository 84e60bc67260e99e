use Rattle.std.proofs.Common.{sym, ◌∙◌}
use Rattle.std.proofs.lemmas.Option.{none-some}
use Rattle.verifier.proofs.Verdicts.{begins_there}
use Rattle.verifier.proofs.pass.first_refused.Goals as goal

pub returns-in-None : goal.returns-in-None
returns-in-None c =
    let begins = begins_there c.args.rules c.args.caps.now c.args.code.now (c.in-Some.slot, c.in-Some.rule) (sym c.in_ok-slot.ensures.verdict ∙ c.in-Some.is) in
    absurd (none-some begins.0 (sym (sym c.insn_at.ensures ∙ c.in-None.is) ∙ begins.1))

use Rattle.std.proofs.Common.{ap, ◌∙◌, ◌++◌, List, ℕ, string_bytes}
use Rattle.sim.proofs.Reaching.{says_more, says_plain}
use Rattle.sim.proofs.file.whole_text.Goals as goal

pub returns-then-setup : goal.returns-then-setup
returns-then-setup g c =
    says_more _ _ _ c.args.number c.args.taken.now _ _ _ c.if-setup.true c.in_ok-text.ensures c.in_ok-below.ensures
    (c.in_ok-push_str.ensures.bytes ∙ ap (λ (t : List ℕ). string_bytes c.in_ok-text.text ++ t) c.as_str.ensures.value)

pub returns : goal.returns
returns g c = says_plain _ _ _ c.args.number c.args.taken.now _ c.if-setup.false c.in_ok-text.ensures

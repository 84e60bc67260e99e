use Rattle.std.proofs.Common.{sym, ◌∙◌}
use Rattle.object_store.proofs.held.Held.is_nothing.Goals as goal

pub returns : goal.returns
returns c = (λ t. c.is_same-2.ensures.0 t ∙ c.new.ensures, λ e. c.is_same-2.ensures.1 (e ∙ sym c.new.ensures))

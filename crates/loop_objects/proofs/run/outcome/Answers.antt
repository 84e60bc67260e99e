use Rattle.std.proofs.Common.{rules, refl, sym, subst, List, ℕ}
use Rattle.std.specs.Option.{option_copied}
use Rattle.loop_objects.specs.inner.Making.{Makes}
use Rattle.loop_objects.proofs.run.outcome.Goals as goal

pub returns-clause-outcome : goal.returns-clause-outcome
returns-clause-outcome c = record {
  code = search rules;
  output = refl;
  steps = refl;
  before = c.in_ok-change.ensures.before;
  after = λ p m. c.in_ok-change.ensures.after p (subst (λ (l : List ℕ). Makes l (option_copied c.args.object) p) (sym c.deref.ensures.value) m);
  within = c.leads_within.ensures;
}

use Rattle.std.proofs.Common.{rules, Bor, List, ℕ, sym, ◌∙◌, true, false, ◌≡◌}
use Rattle.radoscls_program.proofs.Entering.{next_entered, next_enters_none}
use Rattle.radoscls_program.proofs.entry.entries.Goals as goal

pub returns-in-None-clause-none : goal.returns-in-None-clause-none
returns-in-None-clause-none c known =
    next_enters_none (λ (t : Bor (List ℕ)). t.now) c.args.texts.now c.loop-text.text-index _ (search rules)
    (λ e is. let bad : true ≡ false = sym is.ends ∙ c.in-None.ensures.none in absurd cc)

pub loop-text-preserved : goal.loop-text-preserved
loop-text-preserved c =
    let entered = next_entered (λ (t : Bor (List ℕ)). t.now) c.args.texts.now c.loop-text.text-index _ c.loop-text.entries.items c.in-Some.entry (search rules) c.loop-text.invariant c.in-Some.ensures.some in
    search rules

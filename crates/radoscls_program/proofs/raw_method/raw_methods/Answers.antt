use Rattle.std.proofs.Common.{rules, Bor, List, ℕ}
use Rattle.radoscls_program.proofs.Raws.{next_spelled, next_spells_none}
use Rattle.radoscls_program.proofs.raw_method.raw_methods.Goals as goal

pub returns-in-None-clause-none : goal.returns-in-None-clause-none
returns-in-None-clause-none c known =
    next_spells_none (λ (t : Bor (List ℕ)). t.now) c.args.texts.now c.loop-text.text-index _ (search rules) (c.in-None.ensures.none (search rules))

pub loop-text-preserved : goal.loop-text-preserved
loop-text-preserved c =
    let spelled = next_spelled (λ (t : Bor (List ℕ)). t.now) c.args.texts.now c.loop-text.text-index _ c.loop-text.methods.items c.in-Some.method (search rules) c.loop-text.invariant c.in-Some.ensures.some in
    search rules

use Rattle.std.proofs.Common.{sym, ap, ◌∙◌}
use Rattle.asm_lines.specs.Texts.{after_word}
use Rattle.loop_lines.specs.Reading.{budget_of}
use Rattle.loop_asm.proofs.Heads.{budget_within}
use Rattle.loop_asm.proofs.method.budget_on.Goals as goal

pub returns-then-has_head-clause-within : goal.returns-then-has_head-clause-within
returns-then-has_head-clause-within c = budget_within (after_word c.args.text.now) c.in_ok-budget.budget (sym (c.in_ok-budget.ensures ∙ ap budget_of c.after_word.ensures))

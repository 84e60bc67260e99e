use Rattle.std.proofs.Common.{◌≢◌}
use Rattle.command_line.specs.Parsed.{parsed_of}
use Rattle.radoscls_program.specs.declared.mistake.Mistake.TheVariants as mistake
use Rattle.radoscls_program.proofs.Budgets.{no_asm, whatever}
use Rattle.radoscls_program.proofs.asked.asm_task.Goals as goal

pub returns-in_err-budget-clause-unnamed : goal.returns-in_err-budget-clause-unnamed
returns-in_err-budget-clause-unnamed c =
    whatever (λ m. m ≢ mistake.NoMemory) _ c.from_residual-in_err-budget.result
    (no_asm (parsed_of c.args.words.now) c.requires c.in_err-budget.ensures.unfound c.in_err-budget.ensures.not_none)

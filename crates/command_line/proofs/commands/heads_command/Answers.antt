use Rattle.command_line.proofs.Built.{arg_line, arg_local}
use Rattle.command_line.proofs.commands.heads_command.Goals as goal

pub returns-clause-line : goal.returns-clause-line
returns-clause-line c =
    let part1 = arg_line _ _ _ _ _ c.with_arg.ensures c.required-image.ensures.local c.required-image.ensures.rule c.file_command-of_image.ensures.line in
    arg_line _ _ _ _ _ c.with_arg-2.ensures c.option-budget.ensures.local c.option-budget.ensures.rule part1

pub returns-clause-local : goal.returns-clause-local
returns-clause-local c =
    let part1 = arg_local _ _ _ c.with_arg.ensures c.required-image.ensures.local c.file_command-of_image.ensures.local in
    arg_local _ _ _ c.with_arg-2.ensures c.option-budget.ensures.local part1

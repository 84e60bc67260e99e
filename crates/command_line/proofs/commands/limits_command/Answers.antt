use Rattle.command_line.proofs.Built.{arg_line, arg_local}
use Rattle.command_line.proofs.commands.limits_command.Goals as goal

pub returns-clause-line : goal.returns-clause-line
returns-clause-line c =
    let part1 = arg_line _ _ _ _ _ c.with_arg.ensures c.option-limits.ensures.local c.option-limits.ensures.rule c.object_command-of_object.ensures.line in
    arg_line _ _ _ _ _ c.with_arg-2.ensures c.flag-loops.ensures.local c.flag-loops.ensures.rule part1

pub returns-clause-local : goal.returns-clause-local
returns-clause-local c =
    let part1 = arg_local _ _ _ c.with_arg.ensures c.option-limits.ensures.local c.object_command-of_object.ensures.local in
    arg_local _ _ _ c.with_arg-2.ensures c.flag-loops.ensures.local part1

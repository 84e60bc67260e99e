use Rattle.command_line.proofs.Built.{arg_line, arg_local}
use Rattle.command_line.proofs.commands.call_command.Goals as goal

pub returns-clause-line : goal.returns-clause-line
returns-clause-line c =
    let part1 = arg_line _ _ _ _ _ c.with_arg.ensures c.value-input.ensures.local c.value-input.ensures.rule c.plain_call_command-of_call.ensures.line in
    let part2 = arg_line _ _ _ _ _ c.with_arg-2.ensures c.value-text.ensures.local c.value-text.ensures.rule part1 in
    arg_line _ _ _ _ _ c.with_arg-3.ensures c.value-numbers.ensures.local c.value-numbers.ensures.rule part2

pub returns-clause-local : goal.returns-clause-local
returns-clause-local c =
    let part1 = arg_local _ _ _ c.with_arg.ensures c.value-input.ensures.local c.plain_call_command-of_call.ensures.local in
    let part2 = arg_local _ _ _ c.with_arg-2.ensures c.value-text.ensures.local part1 in
    arg_local _ _ _ c.with_arg-3.ensures c.value-numbers.ensures.local part2

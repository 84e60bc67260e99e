use Rattle.command_line.proofs.Built.{arg_line, arg_local}
use Rattle.command_line.proofs.commands.object_command.Goals as goal

pub returns-clause-line : goal.returns-clause-line
returns-clause-line c =
    let part1 = arg_line _ _ _ _ _ c.with_arg.ensures c.value-object.ensures.local c.value-object.ensures.rule c.call_command-of_call.ensures.line in
    let part2 = arg_line _ _ _ _ _ c.with_arg-2.ensures c.each-xattr.ensures.local c.each-xattr.ensures.rule part1 in
    arg_line _ _ _ _ _ c.with_arg-3.ensures c.each-key.ensures.local c.each-key.ensures.rule part2

pub returns-clause-local : goal.returns-clause-local
returns-clause-local c =
    let part1 = arg_local _ _ _ c.with_arg.ensures c.value-object.ensures.local c.call_command-of_call.ensures.local in
    let part2 = arg_local _ _ _ c.with_arg-2.ensures c.each-xattr.ensures.local part1 in
    arg_local _ _ _ c.with_arg-3.ensures c.each-key.ensures.local part2

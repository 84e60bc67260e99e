use Rattle.command_line.proofs.Built.{arg_line, arg_local}
use Rattle.command_line.proofs.commands.run_command.Goals as goal

pub returns-clause-line : goal.returns-clause-line
returns-clause-line c =
    let part1 = arg_line _ _ _ _ _ c.with_arg.ensures c.value-load.ensures.local c.value-load.ensures.rule c.limits_command-of_object.ensures.line in
    let part2 = arg_line _ _ _ _ _ c.with_arg-of_files.ensures c.value-save.ensures.local c.value-save.ensures.rule part1 in
    let part3 = arg_line _ _ _ _ _ c.with_arg-2.ensures c.flag-show.ensures.local c.flag-show.ensures.rule part2 in
    let part4 = arg_line _ _ _ _ _ c.with_arg-of_lines.ensures c.flag-trace.ensures.local c.flag-trace.ensures.rule part3 in
    let part5 = arg_line _ _ _ _ _ c.with_arg-3.ensures c.json_flag.ensures.local c.json_flag.ensures.rule part4 in
    arg_line _ _ _ _ _ c.with_arg-4.ensures c.explain_flag.ensures.local c.explain_flag.ensures.rule part5

pub returns-clause-local : goal.returns-clause-local
returns-clause-local c =
    let part1 = arg_local _ _ _ c.with_arg.ensures c.value-load.ensures.local c.limits_command-of_object.ensures.local in
    let part2 = arg_local _ _ _ c.with_arg-of_files.ensures c.value-save.ensures.local part1 in
    let part3 = arg_local _ _ _ c.with_arg-2.ensures c.flag-show.ensures.local part2 in
    let part4 = arg_local _ _ _ c.with_arg-of_lines.ensures c.flag-trace.ensures.local part3 in
    let part5 = arg_local _ _ _ c.with_arg-3.ensures c.json_flag.ensures.local part4 in
    arg_local _ _ _ c.with_arg-4.ensures c.explain_flag.ensures.local part5

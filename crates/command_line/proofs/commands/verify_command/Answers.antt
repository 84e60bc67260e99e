use Rattle.command_line.proofs.Built.{arg_line, arg_local}
use Rattle.command_line.proofs.commands.verify_command.Goals as goal

pub returns-clause-line : goal.returns-clause-line
returns-clause-line c =
    let part1 = arg_line _ _ _ _ _ c.with_arg.ensures c.flag-all.ensures.local c.flag-all.ensures.rule c.files_command-of_images.ensures.line in
    let part2 = arg_line _ _ _ _ _ c.with_arg-of_verdicts.ensures c.flag-loops.ensures.local c.flag-loops.ensures.rule part1 in
    let part3 = arg_line _ _ _ _ _ c.with_arg-2.ensures c.json_flag.ensures.local c.json_flag.ensures.rule part2 in
    arg_line _ _ _ _ _ c.with_arg-3.ensures c.explain_flag.ensures.local c.explain_flag.ensures.rule part3

pub returns-clause-local : goal.returns-clause-local
returns-clause-local c =
    let part1 = arg_local _ _ _ c.with_arg.ensures c.flag-all.ensures.local c.files_command-of_images.ensures.local in
    let part2 = arg_local _ _ _ c.with_arg-of_verdicts.ensures c.flag-loops.ensures.local part1 in
    let part3 = arg_local _ _ _ c.with_arg-2.ensures c.json_flag.ensures.local part2 in
    arg_local _ _ _ c.with_arg-3.ensures c.explain_flag.ensures.local part3

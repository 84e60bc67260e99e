use Rattle.command_line.proofs.Built.{arg_line, arg_local}
use Rattle.command_line.proofs.commands.pack_command.Goals as goal

pub returns-clause-line : goal.returns-clause-line
returns-clause-line c =
    let part1 = arg_line _ _ _ _ _ c.with_arg-of_code.ensures c.methods_argument.ensures.local c.methods_argument.ensures.rule c.file_command-of_image.ensures.line in
    let part2 = arg_line _ _ _ _ _ c.with_arg-of_rules.ensures c.option-rules.ensures.local c.option-rules.ensures.rule part1 in
    let part3 = arg_line _ _ _ _ _ c.with_arg.ensures c.heads_flag.ensures.local c.heads_flag.ensures.rule part2 in
    let part4 = arg_line _ _ _ _ _ c.with_arg-of_heads.ensures c.budget_value.ensures.local c.budget_value.ensures.rule part3 in
    arg_line _ _ _ _ _ c.with_arg-2.ensures c.explain_flag.ensures.local c.explain_flag.ensures.rule part4

pub returns-clause-local : goal.returns-clause-local
returns-clause-local c =
    let part1 = arg_local _ _ _ c.with_arg-of_code.ensures c.methods_argument.ensures.local c.file_command-of_image.ensures.local in
    let part2 = arg_local _ _ _ c.with_arg-of_rules.ensures c.option-rules.ensures.local part1 in
    let part3 = arg_local _ _ _ c.with_arg.ensures c.heads_flag.ensures.local part2 in
    let part4 = arg_local _ _ _ c.with_arg-of_heads.ensures c.budget_value.ensures.local part3 in
    arg_local _ _ _ c.with_arg-2.ensures c.explain_flag.ensures.local part4

use Rattle.command_line.proofs.Built.{arg_line, arg_local}
use Rattle.command_line.proofs.commands.test_command.Goals as goal

pub returns-clause-line : goal.returns-clause-line
returns-clause-line c =
    let tests = arg_line _ _ _ _ _ c.with_arg-of_tests.ensures c.required.ensures.local c.required.ensures.rule c.file_command-of_image.ensures.line in
    let trace = arg_line _ _ _ _ _ c.with_arg.ensures c.flag-trace.ensures.local c.flag-trace.ensures.rule tests in
    let loops = arg_line _ _ _ _ _ c.with_arg-of_calls.ensures c.flag-loops.ensures.local c.flag-loops.ensures.rule trace in
    arg_line _ _ _ _ _ c.with_arg-2.ensures c.explain_flag.ensures.local c.explain_flag.ensures.rule loops

pub returns-clause-local : goal.returns-clause-local
returns-clause-local c =
    let tests = arg_local _ _ _ c.with_arg-of_tests.ensures c.required.ensures.local c.file_command-of_image.ensures.local in
    let trace = arg_local _ _ _ c.with_arg.ensures c.flag-trace.ensures.local tests in
    let loops = arg_local _ _ _ c.with_arg-of_calls.ensures c.flag-loops.ensures.local trace in
    arg_local _ _ _ c.with_arg-2.ensures c.explain_flag.ensures.local loops

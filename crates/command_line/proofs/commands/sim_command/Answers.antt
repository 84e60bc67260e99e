use Rattle.command_line.proofs.Built.{arg_line, arg_local}
use Rattle.command_line.proofs.commands.sim_command.Goals as goal

pub returns-clause-line : goal.returns-clause-line
returns-clause-line c =
    let class = arg_line _ _ _ _ _ c.with_arg-of_classes.ensures c.class_option.ensures.local c.class_option.ensures.rule c.file_command-of_events.ensures.line in
    let trace = arg_line _ _ _ _ _ c.with_arg.ensures c.flag-trace.ensures.local c.flag-trace.ensures.rule class in
    let objects = arg_line _ _ _ _ _ c.with_arg-of_forms.ensures c.flag-objects.ensures.local c.flag-objects.ensures.rule trace in
    arg_line _ _ _ _ _ c.with_arg-2.ensures c.explain_flag.ensures.local c.explain_flag.ensures.rule objects

pub returns-clause-local : goal.returns-clause-local
returns-clause-local c =
    let class = arg_local _ _ _ c.with_arg-of_classes.ensures c.class_option.ensures.local c.file_command-of_events.ensures.local in
    let trace = arg_local _ _ _ c.with_arg.ensures c.flag-trace.ensures.local class in
    let objects = arg_local _ _ _ c.with_arg-of_forms.ensures c.flag-objects.ensures.local trace in
    arg_local _ _ _ c.with_arg-2.ensures c.explain_flag.ensures.local objects

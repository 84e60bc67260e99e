use Rattle.command_line.proofs.Built.{arg_line, arg_local}
use Rattle.command_line.proofs.commands.cluster_command.Goals as goal

pub returns-clause-line : goal.returns-clause-line
returns-clause-line c =
    let class = arg_line _ _ _ _ _ c.with_arg.ensures c.class_option.ensures.local c.class_option.ensures.rule c.file_command-of_calls.ensures.line in
    let show = arg_line _ _ _ _ _ c.with_arg-of_classes.ensures c.flag-show.ensures.local c.flag-show.ensures.rule class in
    let stats = arg_line _ _ _ _ _ c.with_arg-2.ensures c.flag-stats.ensures.local c.flag-stats.ensures.rule show in
    let strict = arg_line _ _ _ _ _ c.with_arg-of_figures.ensures c.flag-strict.ensures.local c.flag-strict.ensures.rule stats in
    let explain = arg_line _ _ _ _ _ c.with_arg-3.ensures c.explain_flag.ensures.local c.explain_flag.ensures.rule strict in
    arg_line _ _ _ _ _ c.with_arg-4.ensures c.flag-follow.ensures.local c.flag-follow.ensures.rule explain

pub returns-clause-local : goal.returns-clause-local
returns-clause-local c =
    let class = arg_local _ _ _ c.with_arg.ensures c.class_option.ensures.local c.file_command-of_calls.ensures.local in
    let show = arg_local _ _ _ c.with_arg-of_classes.ensures c.flag-show.ensures.local class in
    let stats = arg_local _ _ _ c.with_arg-2.ensures c.flag-stats.ensures.local show in
    let strict = arg_local _ _ _ c.with_arg-of_figures.ensures c.flag-strict.ensures.local stats in
    let explain = arg_local _ _ _ c.with_arg-3.ensures c.explain_flag.ensures.local strict in
    arg_local _ _ _ c.with_arg-4.ensures c.flag-follow.ensures.local explain

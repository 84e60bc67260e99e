use Rattle.std.proofs.Common.{map}
use Rattle.command_line.specs.Parsed.{parsed_of}
use Rattle.radoscls_program.proofs.Told.{asks_nothing, none_asked, task_asked}
use Rattle.radoscls_program.proofs.asked.asked.Goals as goal

pub returns-in-Ok-clause-asked : goal.returns-in-Ok-clause-asked
returns-in-Ok-clause-asked g c =
    task_asked (map g.S.AsStr.text c.args.words.now) (parsed_of c.in-Ok.parsed) c.asked_or_told-task.result c.in-Ok.ensures.parsed c.asked_or_told-task.ensures.asks

pub returns-in-Ok-clause-unasked : goal.returns-in-Ok-clause-unasked
returns-in-Ok-clause-unasked g c =
    none_asked (map g.S.AsStr.text c.args.words.now) (parsed_of c.in-Ok.parsed) c.asked_or_told-task.result c.in-Ok.ensures.parsed c.asked_or_told-task.ensures.asks_not

pub returns-in-Err-clause-unasked : goal.returns-in-Err-clause-unasked
returns-in-Err-clause-unasked g c known = asks_nothing (map g.S.AsStr.text c.args.words.now) (c.in-Err.ensures.unparsed known)

use Rattle.class_tool.proofs.run.log.Goals as goal

pub returns-clause-ok : goal.returns-clause-ok
returns-clause-ok c =
    (c.in_ok-logged.logged, c.in_ok-logged.ensures.ok, c.are_codes.ensures.logged, c.are_codes.ensures.outcome, c.in_ok-new.ensures)

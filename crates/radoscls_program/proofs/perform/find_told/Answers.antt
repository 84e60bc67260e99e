use Rattle.radoscls_program.proofs.perform.find_told.Goals as goal

pub returns-in-Err-clause-fails : goal.returns-in-Err-clause-fails
returns-in-Err-clause-fails g c = rw c.told_by.ensures c.in-Err.ensures.fails

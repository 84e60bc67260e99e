use Rattle.program_files.proofs.Refused.{text_refused}
use Rattle.program_files.proofs.assembly.image_of.Goals as goal

pub returns-in-Err-clause-fails : goal.returns-in-Err-clause-fails
returns-in-Err-clause-fails c = text_refused c.args.text.now c.in-Err.error c.in-Err.ensures.refused c.in-Err.ensures.only

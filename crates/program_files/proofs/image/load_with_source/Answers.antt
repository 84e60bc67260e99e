use Rattle.std.proofs.Common.{inr, rules}
use Rattle.program_files.proofs.Longer.{verdict_in}
use Rattle.program_files.proofs.image.load_with_source.Goals as goal

-- turned by safe_class_is_refused
pub returns-in-Ok-clause-fails : goal.returns-in-Ok-clause-fails
returns-in-Ok-clause-fails g c = search rules

pub returns-in-Err-clause-fails : goal.returns-in-Err-clause-fails
returns-in-Err-clause-fails g c =
    inr (verdict_in (g.F.ReadableFiles.disk c.args.files.now) c.args.image.now c.in_ok-source.source c.in-Err.refusal c.class.result.now c.class.ensures c.in_ok-source.ensures.read c.in-Err.ensures.refused)

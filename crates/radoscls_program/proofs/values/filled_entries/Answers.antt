use Rattle.std.proofs.Common.{rules}
use Rattle.radoscls_program.proofs.Filling.{next_fails, next_filled}
use Rattle.radoscls_program.proofs.values.filled_entries.Goals as goal

pub returns-in-Err-clause-err : goal.returns-in-Err-clause-err
returns-in-Err-clause-err g c =
    next_fails (g.F.ReadableFiles.disk c.args.files.now) c.args.entries.now c.loop-entry.entry-index _ c.in-Err.failure (search rules) c.in-Err.ensures.err

pub loop-entry-preserved : goal.loop-entry-preserved
loop-entry-preserved g c =
    let filled = next_filled (g.F.ReadableFiles.disk c.args.files.now) c.args.entries.now c.loop-entry.entry-index _ c.loop-entry.filled.items c.in-Ok.one
    (search rules) c.loop-entry.invariant c.in-Ok.ensures.name c.in-Ok.ensures.value in
    search rules

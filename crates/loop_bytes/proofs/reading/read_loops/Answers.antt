use Rattle.loop_bytes.proofs.ExactLoops.{read_only}
use Rattle.loop_bytes.proofs.reading.read_loops.Goals as goal

pub returns-clause-only : goal.returns-clause-only
returns-clause-only c = λ loops rest may spelled. read_only c.args.starts.now c.args.bytes.now loops rest c.read.result may spelled c.read.ensures.exact c.read.ensures.found

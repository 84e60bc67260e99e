use Rattle.loop_bytes.specs.Reading.{head_from, after_head}
use Rattle.loop_bytes.proofs.Turns.{Progress}
use Rattle.loop_bytes.proofs.reading.heads_from.Given as goal

abbrev pub invariant-loop : goal.invariant-loop
invariant-loop l = Progress (head_from l.starts) after_head l.count 0 l.bytes l.heads.items l.counter l.least l.rest

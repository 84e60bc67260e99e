use Rattle.loop_lines.proofs.Turns.{Progress}
use Rattle.loop_lines.proofs.reading.places_from.Given as goal

abbrev pub invariant-loop-text : goal.invariant-loop-text
invariant-loop-text l = Progress l.texts l.places.items l.text-index l.least

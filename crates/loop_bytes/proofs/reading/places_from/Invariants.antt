use Rattle.loop_bytes.specs.Reading.{place_from, after_place}
use Rattle.loop_bytes.proofs.Turns.{Progress}
use Rattle.loop_bytes.proofs.reading.places_from.Given as goal

abbrev pub invariant-loop : goal.invariant-loop
invariant-loop l = Progress (place_from l.slot) after_place l.count 0 l.bytes l.places.items l.counter l.least l.rest

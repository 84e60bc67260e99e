use Rattle.std.proofs.Common.{◌≡◌, map, take}
use Rattle.osd.specs.Logged.{logged_entry}
use Rattle.osd.proofs.running.reading.entries.Given as goal

abbrev pub invariant-loop-entry : goal.invariant-loop-entry
invariant-loop-entry l = l.entries.items ≡ map logged_entry (take l.entry-index l.log)

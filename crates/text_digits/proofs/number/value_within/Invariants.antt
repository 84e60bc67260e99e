use Rattle.std.proofs.Common.{◌≡◌, ◌≤◌, drop}
use Rattle.std.specs.Str.Parse.{digits_value, digits_value_after}
use Rattle.text_digits.proofs.number.value_within.Given as goal

-- what is left continues the digits so far to the whole number
abbrev pub invariant-loop-byte : goal.invariant-loop-byte
invariant-loop-byte l =
    record { within : l.value ≤ l.most; same : digits_value_after l.radix l.value (drop l.byte-index l.text) ≡ digits_value l.radix l.text }

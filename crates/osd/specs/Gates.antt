-- The number that a gate gets.
use Rattle.std.specs.Prelude.{ℕ, ◌+◌, ◌*◌, ◌^◌}
use Rattle.carried.specs.declared.operation.Carried.{Carried}
use Rattle.carried.specs.declared.operation.Carried.TheVariants.{Request as ARequest, Map as AMap, Message as AMessage}

-- for a client's request the client's number times 2 ^ 32 and the request's number, else 0
abbrev pub gate_number : Carried → ℕ
gate_number (ARequest r) = r.client * 2 ^ 32 + r.number
gate_number (AMap m) = 0
gate_number (AMessage m) = 0

-- A message is kept as it is carried, with its receiver.
use Rattle.std.specs.Prelude.{ℕ}
use Rattle.carried.specs.Carried.{carried_as}
use Rattle.group_world.specs.declared.message.Packet.{Packet}
use Rattle.sim_world.specs.declared.kept.KeptMessage.{KeptMessage}

-- of a sender that has committed this number of entries, to a receiver that reported that number
abbrev pub kept_as : ℕ → ℕ → Packet → KeptMessage
kept_as committed reported p = record { receiver = p.receiver; message = carried_as committed reported p.message }

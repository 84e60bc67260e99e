-- What goes out when a worker serves an operation.
use Rattle.std.specs.Prelude.{◌≡◌, ◌⊎◌, List, [], Option}
use Rattle.pg_log.specs.Log.{Classes}
use Rattle.carried.specs.Carried.{unpacked_as, reported_of}
use Rattle.carried.specs.declared.operation.Carried.{Carried}
use Rattle.group_cell.specs.Cell.{CellState}
use Rattle.group_cell.specs.Turns.{IsTurn}
use Rattle.group_cell.specs.declared.outgoing.Outgoing.{Outgoing}

-- These went out by a turn of a cell: what was carried came to the cell's node as an event.
pub record WasTurn {N : Type 0} (classes : Classes) (carried : Carried)
    (out : List (Option (Outgoing N))) : Type 0 where
  pub old : CellState
  pub new : CellState
  pub turn : IsTurn classes old new (reported_of carried) (unpacked_as old.node.state.log carried) out

-- or nothing, if it was lost
abbrev pub IsLostOrTurn : {N : Type 0} → Classes → Carried → List (Option (Outgoing N)) → Type 0
IsLostOrTurn classes carried out = (out ≡ []) ⊎ WasTurn classes carried out

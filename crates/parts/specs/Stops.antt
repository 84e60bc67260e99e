-- Why a helper that changes the object gives no answer.
use Rattle.std.specs.Prelude.{◌≡◌, ℕ, false, List}
use Rattle.part_bytes.specs.declared.need.Need.{Need}
use Rattle.part_names.specs.Known.{PlainNames}
use Rattle.part_names.specs.Changes.{has_room}
use Rattle.part_names.specs.declared.set_error.SetError.{SetError}
use Rattle.part_names.specs.declared.set_error.SetError.TheVariants as set
use Rattle.parts.specs.declared.stop.Stop.{Stop}
use Rattle.parts.specs.declared.stop.Stop.TheVariants.{NoMemory, Full, Needs}

-- memory was refused
abbrev pub IsWant : Stop → Type 0
IsWant NoMemory = Unit {0}
IsWant Full = ⊥
IsWant (Needs need) = ⊥

-- or one name more would be kept than there may be
abbrev pub IsWantOrFull : PlainNames → List ℕ → Stop → Type 0
IsWantOrFull names name NoMemory = Unit {0}
IsWantOrFull names name Full = has_room names name ≡ false
IsWantOrFull names name (Needs need) = ⊥

-- or something isn't known
abbrev pub IsWantOrNeed : (Need → Type 0) → Stop → Type 0
IsWantOrNeed IsNeeded NoMemory = Unit {0}
IsWantOrNeed IsNeeded Full = ⊥
IsWantOrNeed IsNeeded (Needs need) = IsNeeded need

-- a set that is refused
abbrev pub stop_of : SetError → Stop
stop_of set.Full = Full
stop_of set.NoMemory = NoMemory

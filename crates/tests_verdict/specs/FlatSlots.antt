-- What a frame says of the stack's slots as plain bytes, wherever the regions lie.
use Rattle.std.specs.Prelude.{ℕ, zero, suc, List, [], ◌∷◌, Option, Some, take, drop}
use Rattle.bpf_machine.specs.State.{le_value}
use Rattle.bpf_machine.specs.Flat.{Layout, base}
use Rattle.bpf_machine.specs.Typed.{TypedMemory, image_memory}
use Rattle.bpf_machine.specs.Slots.{slot_values}
use Rattle.abstract_regs.specs.Kind.{PlainKind}
use Rattle.abstract_regs.specs.Frame.{HoldsEach}
use Rattle.abstract_regs.specs.Flat.{HoldsFlatEach}

-- the numbers in the first slots of eight bytes, that many; the lowest byte first
abbrev pub slot_numbers : ℕ → List ℕ → List (Option ℕ)
slot_numbers zero bytes = []
slot_numbers (suc n) bytes = Some (le_value (take 8 bytes)) ∷ slot_numbers n (drop 8 bytes)

-- Slots of the stack that a frame holds, it holds as numbers too: in the flat memory, wherever the
-- regions lie, the eight bytes at a slot's place are a held number, or the region's base plus a
-- held offset.
abbrev pub FlatSlotsHold : Type 0
FlatSlotsHold =
    (lay : Layout) (kinds : List PlainKind) (count : ℕ) (m : TypedMemory) →
    HoldsEach kinds (slot_values count m.stack) →
    HoldsFlatEach (base lay) kinds (slot_numbers count (image_memory lay m).stack)

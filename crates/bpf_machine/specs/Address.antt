-- One memory: what the regions' lists of bytes are at addresses.
use Rattle.std.specs.Prelude.{◌≡◌, ℕ, ◌+◌, ◌<◌, ◌≤◌, List, Option, Some, None, true, false, slice_get, length}
use Rattle.bpf_decode.specs.declared.access.SignedWidth.{SignedWidth}
use Rattle.bpf_decode.specs.Instruction.{signed_byte_count}
use Rattle.bpf_decode.specs.Arithmetic.{signed_load_value}
use Rattle.bpf_decode.specs.declared.region.Region.{Region}
use Rattle.bpf_decode.specs.declared.region.Region.TheVariants.{Input}
use Rattle.bpf_machine.specs.declared.caps.Caps.{Caps}
use Rattle.bpf_machine.specs.State.{◌>>=◌, le_value, le_bytes, Memory, cells, size, opening, State, set_reg}
use Rattle.bpf_machine.specs.Flat.{Layout, base, IsIn, IsLayout, find, load, load_signed, store, range}
use Rattle.bpf_machine.specs.Helper.{bytes_in, write_room}

-- the byte at an address: that of the region which has the address, at its place there; none
-- outside of the regions
abbrev pub byte_at : Caps → Layout → Memory → ℕ → Option ℕ
byte_at caps lay m at = find caps lay at 1 >>= λ p. slice_get (cells m p.0) p.1

-- the regions have their lengths
pub record IsMemory (caps : Caps) (m : Memory) : Type 0 where
  pub lengths : (r : Region) → length (cells m r) ≡ size caps r

-- these bytes stand at an address and after it
pub record StandsAt (caps : Caps) (lay : Layout) (m : Memory) (at : ℕ) (bytes : List ℕ) : Type 0 where
  pub each : (k : ℕ) → k < length bytes → byte_at caps lay m (at + k) ≡ slice_get bytes k

-- what a load reads: that many bytes, which stand at its address
pub record Reads (caps : Caps) (lay : Layout) (m : Memory) (at w : ℕ) (bytes : List ℕ) : Type 0 where
  pub count : length bytes ≡ w
  pub stand : StandsAt caps lay m at bytes

-- what a store does: its bytes stand at its address, at every other address stands what stood
-- there, and nothing else changes
pub record Writes (caps : Caps) (lay : Layout) (at : ℕ) (bytes : List ℕ) (s t : State ℕ) : Type 0 where
  pub stand : StandsAt caps lay t.memory at bytes
  pub others : (a : ℕ) → ((at ≤ a) × (a < at + length bytes) → ⊥) →
      byte_at caps lay t.memory a ≡ byte_at caps lay s.memory a
  pub lengths : IsMemory caps t.memory
  pub rest : t ≡ record s { memory = t.memory }

-- The byte at a place of a region is at that place's address.
abbrev pub PlacesAreAddresses : Type 0
PlacesAreAddresses =
    (caps : Caps) (lay : Layout) → IsLayout caps lay → (m : Memory) (r : Region) (place : ℕ) → place < size caps r →
    byte_at caps lay m (base lay r + place) ≡ slice_get (cells m r) place

-- There is no byte at an address of no region.
abbrev pub NoByteElsewhere : Type 0
NoByteElsewhere =
    (caps : Caps) (lay : Layout) (m : Memory) (at : ℕ) → ((r : Region) → IsIn caps lay r at → ⊥) →
    byte_at caps lay m at ≡ None

-- A load is the little-endian value of the bytes at its addresses.
abbrev pub LoadsAreOfAddresses : Type 0
LoadsAreOfAddresses =
    (caps : Caps) (lay : Layout) → IsLayout caps lay → (w dst at : ℕ) (s t : State ℕ) → IsMemory caps s.memory →
    load caps lay w dst at s ≡ Some t →
    (bytes : List ℕ) × Reads caps lay s.memory at w bytes × (set_reg s dst (le_value bytes) ≡ Some t)

-- One with sign extension is that number with the sign of its highest byte.
abbrev pub SignedLoadsAreOfAddresses : Type 0
SignedLoadsAreOfAddresses =
    (caps : Caps) (lay : Layout) → IsLayout caps lay → (width : SignedWidth) (dst at : ℕ) (s t : State ℕ) →
    IsMemory caps s.memory → load_signed caps lay width dst at s ≡ Some t →
    (bytes : List ℕ) × Reads caps lay s.memory at (signed_byte_count width) bytes ×
    (set_reg s dst (signed_load_value width (le_value bytes)) ≡ Some t)

-- A store changes the bytes at its addresses to those of the number, and no other.
abbrev pub StoresAreAtAddresses : Type 0
StoresAreAtAddresses =
    (caps : Caps) (lay : Layout) → IsLayout caps lay → (w at n : ℕ) (s t : State ℕ) → IsMemory caps s.memory →
    store caps lay w at n s ≡ Some t →
    Writes caps lay at (le_bytes w n) s t

-- What a helper reads of a range is the bytes at its addresses. A range of no bytes has none,
-- wherever it begins.
abbrev pub RangesAreOfAddresses : Type 0
RangesAreOfAddresses =
    (caps : Caps) (lay : Layout) → IsLayout caps lay → (at n : ℕ) (m : Memory) (place : Option (Region × ℕ)) →
    IsMemory caps m → range caps lay false at n ≡ Some place →
    Reads caps lay m at n (bytes_in m place n)

-- What a helper writes into a range, no more bytes than that has, stands at its addresses, and no
-- other byte changes.
abbrev pub RoomsAreAtAddresses : Type 0
RoomsAreAtAddresses =
    (caps : Caps) (lay : Layout) → IsLayout caps lay →
    (at n : ℕ) (s : State ℕ) (place : Option (Region × ℕ)) (bytes : List ℕ) → IsMemory caps s.memory →
    range caps lay true at n ≡ Some place → length bytes ≤ n →
    Writes caps lay at bytes s (record s { memory = write_room s.memory place bytes })

-- a memory in which these bytes stand at the input's address, and 0 at every other address of a
-- region
pub record Opens (caps : Caps) (lay : Layout) (m : Memory) (input : List ℕ) : Type 0 where
  pub lengths : IsMemory caps m
  pub begins : StandsAt caps lay m (base lay Input) input
  pub zeros : (r : Region) (at : ℕ) → IsIn caps lay r at →
      ((base lay Input ≤ at) × (at < base lay Input + length input) → ⊥) → byte_at caps lay m at ≡ Some 0

-- A method begins on such a memory.
abbrev pub OpeningIsAtAddresses : Type 0
OpeningIsAtAddresses =
    (caps : Caps) (lay : Layout) → IsLayout caps lay → (input : List ℕ) → length input ≤ caps.in_cap →
    Opens caps lay (opening caps input) input

-- Reading code from left to right, with the first refusal that is met.
use Rattle.std.specs.Prelude.{◌≡◌, ℕ, zero, suc, ◌+◌, ◌*◌, ◌/◌, ◌%◌, ◌==◌, ◌&&◌, ◌⊎◌, nat_le, Bool, List, [], ◌∷◌}
use Rattle.std.specs.Prelude.{length, drop, Result, Ok, Err, if◌then◌else◌}
use Rattle.std.specs.Option.{ok_or}
-- one step after the other, and tests: a refusal stays the refusal
pub use Rattle.loop_bytes.specs.Reading.{◌>>=◌, checked, Reads}
use Rattle.bpf_decode.specs.declared.decode_error.DecodeError.{DecodeError}
use Rattle.bpf_decode.specs.declared.decode_error.DecodeError.TheVariants as errors
use Rattle.bpf_decode.specs.declared.insn.Insn.{Insn}
use Rattle.bpf_decode.specs.Instruction.{slot_count}
use Rattle.bpf_decode.specs.Fields.{Fields, fields_of}
use Rattle.bpf_decode.specs.Table.{row_of, fields_allowed, high_half, instruction}

-- What a function returned, seen by view, is what reading gives, unless memory ran out.
abbrev pub Gives : {X Y : Type 0} → (X → Y) → Result X DecodeError → Result Y DecodeError → Type 0
Gives view (Ok x) read = read ≡ Ok (view x)
Gives view (Err e) read = (e ≡ errors.NoMemory) ⊎ (read ≡ Err e)

-- both registers of a slot are registers
abbrev pub are_registers : Fields → Bool
are_registers f = nat_le f.dst 10 && nat_le f.src 10

-- the instruction at the front of the bytes, which are those from that slot on
unfoldable pub insn_at : ℕ → List ℕ → Result Insn DecodeError
insn_at slot bytes = do
  f ← ok_or (fields_of bytes) errors.Truncated
  row ← ok_or (row_of f.opcode) (errors.Opcode slot)
  g ← checked (are_registers f) (errors.Register slot) f
  h ← checked (fields_allowed row f) (errors.NonzeroField slot) f
  high ← ok_or (high_half row (drop 8 bytes)) (errors.WideHalf slot)
  Ok (instruction row f high)

-- the slots of an instruction that is read
abbrev pub width_of : Result Insn DecodeError → Result ℕ DecodeError
width_of read = read >>= λ i. Ok (slot_count i)

-- at most n instructions, from that slot on
unfoldable pub insns_at : ℕ → ℕ → List ℕ → Result (List Insn) DecodeError
insns_at zero slot bytes = Ok []
insns_at (suc n) slot bytes = if length bytes == 0 then Ok [] else
    (insn_at slot bytes >>= λ i. insns_at n (slot + slot_count i) (drop (8 * slot_count i) bytes) >>= λ is. Ok (i ∷ is))

-- all of the bytes, as instructions
unfoldable pub code_of : List ℕ → Result (List Insn) DecodeError
code_of bytes = if length bytes % 8 == 0 then insns_at (length bytes / 8) 0 bytes else Err errors.Truncated

-- how many instructions they are
abbrev pub count_of : List ℕ → Result ℕ DecodeError
count_of bytes = code_of bytes >>= λ is. Ok (length is)

-- The row of an instruction, by its class or by its opcode.
use Rattle.std.proofs.Common.{◌≡◌, ℕ, ◌%◌, Option, None, ap}
use Rattle.std.specs.Prelude.{if◌then◌else◌, ◌==◌}
use Rattle.bpf_decode.specs.Fields.{Fields}
use Rattle.bpf_decode.specs.declared.operation.OpWidth.TheVariants.{Bits32, Bits64}
use Rattle.bpf_machine.specs.declared.caps.Caps.{Caps}
use Rattle.bpf_machine.specs.State.{State}
use Rattle.bpf_machine.specs.Flat.{Layout, alu_row, ldx_row, st_row, stx_row, wide_row, ja_row, ja32_row, call_row, branch_row, act}

module _ (caps : Caps) (lay : Layout) (f : Fields) (next : Option Fields) (s : State ℕ) where
  abbrev row_at : ℕ → ℕ → Option (State ℕ)
  row_at class opcode =
      if class == 4 then alu_row Bits32 f s else
      if class == 7 then alu_row Bits64 f s else
      if class == 1 then ldx_row caps lay f s else
      if class == 2 then st_row caps lay f s else
      if class == 3 then stx_row caps lay f s else
      if opcode == 0x18 then wide_row f next s else
      if opcode == 0x05 then ja_row f s else
      if opcode == 0x06 then ja32_row f s else
      if opcode == 0x85 then call_row caps lay f s else
      if class == 5 then branch_row Bits64 f s else
      if class == 6 then branch_row Bits32 f s else None

  -- of a class
  pub of_class : (class : ℕ) → f.opcode % 8 ≡ class → act caps lay f next s ≡ row_at class f.opcode
  of_class class e = ap (λ k. row_at k f.opcode) e

  -- of an opcode
  pub of_opcode : (opcode : ℕ) → f.opcode ≡ opcode → act caps lay f next s ≡ row_at (opcode % 8) opcode
  of_opcode opcode e = ap (λ o. row_at (o % 8) o) e

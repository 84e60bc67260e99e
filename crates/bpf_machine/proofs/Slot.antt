-- A spelled slot reads back: its fields, their signs, and the row of the table for it.
use Rattle.std.proofs.Common.{◌≡◌, ℕ, ◌+◌, ◌*◌, ◌/◌, ◌%◌, ◌^◌, ◌<◌, ◌≤◌, List, ◌++◌, Some, ap, arith}
use Rattle.std.specs.Prelude.{ℤ, pos, negsuc, FitsSigned}
use Rattle.std.specs.Int.{w16, w32}
use Rattle.std.proofs.lemmas.Bool.Decides.{nat_tests}
use Rattle.bpf_decode.specs.Fields.{Fields, fields_of}
use Rattle.bpf_decode.specs.Instruction.{slot, offset_field, imm_field}
use Rattle.bpf_machine.specs.declared.caps.Caps.{Caps}
use Rattle.bpf_machine.specs.State.{◌>>=◌, State}
use Rattle.bpf_machine.specs.Flat.{Layout, signed16, signed32, act, act_on}
use Rattle.bpf_machine.specs.Typed.{extended}

-- signed fields of two's complement, extended to 64 bits
pub offset_extended : (z : ℤ) → FitsSigned w16 z → signed16 (offset_field z) ≡ extended z
offset_extended (pos n) h = let b : n < 2 ^ 15 = h.sfits in grind (arith, nat_tests)
offset_extended (negsuc n) h = let b : n < 2 ^ 15 = h.sfits in grind (arith, nat_tests)

pub imm_extended : (z : ℤ) → FitsSigned w32 z → signed32 (imm_field z) ≡ extended z
imm_extended (pos n) h = let b : n < 2 ^ 31 = h.sfits in grind (arith, nat_tests)
imm_extended (negsuc n) h = let b : n < 2 ^ 31 = h.sfits in grind (arith, nat_tests)

abbrev pub row : ℕ → ℕ → ℕ → ℕ → ℕ → Fields
row op d s o k = record { opcode = op; dst = d; src = s; offset = o; imm = k }

low_nibble : (d s : ℕ) → d ≤ 10 → (d + 16 * s) % 16 ≡ d
low_nibble d s h = omega arith

high_nibble : (d s : ℕ) → d ≤ 10 → (d + 16 * s) / 16 ≡ s
high_nibble d s h = omega arith

two_bytes : (o : ℕ) → o % 256 + 256 * (o / 256) ≡ o
two_bytes o = omega arith

four_bytes : (k : ℕ) → k % 256 + 256 * (k / 256 % 256) + 65536 * (k / 65536 % 256) + 16777216 * (k / 16777216) ≡ k
four_bytes k = omega arith

pub slot_fields : (op d s o k : ℕ) (rest : List ℕ) → d ≤ 10 → fields_of (slot op d s o k ++ rest) ≡ Some (row op d s o k)
slot_fields op d s o k rest h =
    let e1 = low_nibble d s h in
    let e2 = high_nibble d s h in
    let e3 = two_bytes o in
    let e4 = four_bytes k in
    cc

pub wide_halves : (v : ℕ) → v % 2 ^ 32 + 2 ^ 32 * (v / 2 ^ 32) ≡ v
wide_halves v = omega arith

-- any spelled slot acts by its row, and exits by it
module _ (caps : Caps) (lay : Layout) where
  pub by_row : (op d s o k : ℕ) (rest : List ℕ) (st : State ℕ) → d ≤ 10 → act_on caps lay (slot op d s o k ++ rest) st ≡ act caps lay (row op d s o k) (fields_of rest) st
  by_row op d s o k rest st h = ap (λ f. f >>= λ f. act caps lay f (fields_of rest) st) (slot_fields op d s o k rest h)

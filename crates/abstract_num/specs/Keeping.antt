-- The laws of the tables: what the machine computes of held numbers is held by what they give.
use Rattle.std.specs.Prelude.{◌≡◌, ℕ, ◌^◌, ◌<◌, ◌≤◌, Bool, Option, MatchOption, IsSomeAnd}
use Rattle.bpf_decode.specs.Arithmetic.{alu_value, neg_value, mov_value, signed_move_value, end_value, is_taken}
use Rattle.bpf_decode.specs.Arithmetic.{signed_load_value}
use Rattle.bpf_decode.specs.Instruction.{byte_count, signed_byte_count}
use Rattle.bpf_decode.specs.declared.operation.OpWidth.{OpWidth}
use Rattle.bpf_decode.specs.declared.operation.OpWidth.TheVariants.{Bits32}
use Rattle.bpf_decode.specs.declared.operation.Arithmetic.{Arithmetic}
use Rattle.bpf_decode.specs.declared.operation.Arithmetic.TheVariants.{Sub}
use Rattle.bpf_decode.specs.declared.operation.SignedMove.{SignedMove}
use Rattle.bpf_decode.specs.declared.operation.ByteOrder.{ByteOrder}
use Rattle.bpf_decode.specs.declared.operation.EndWidth.{EndWidth}
use Rattle.bpf_decode.specs.declared.operation.Comparison.{Comparison}
use Rattle.bpf_decode.specs.declared.access.Width.{Width}
use Rattle.bpf_decode.specs.declared.access.SignedWidth.{SignedWidth}
use Rattle.abstract_num.specs.Plain.{Plain, Number, Holds, any, constant, join, view}
use Rattle.abstract_num.specs.Tighten.{tighten}
use Rattle.abstract_num.specs.Transfer.{transferred, copied, sign_extended, ordered, ranged, signed_ranged, load_high}
use Rattle.abstract_num.specs.Transfer.{signed_low, signed_high}
use Rattle.abstract_num.specs.Edges.{along}
use Rattle.abstract_num.specs.declared.precision.Precision.{Precision}
use Rattle.abstract_num.specs.declared.precision.Precision.TheVariants.{Whole}

-- its numbers are below 2 ^ 64
pub record Fits (x : Plain) : Type 0 where
  pub high : x.high < 2 ^ 64
  pub unknown : x.unknown < 2 ^ 64

-- n is one of what is left
abbrev pub HeldIn : Option Plain → ℕ → Type 0
HeldIn o n = IsSomeAnd o (λ z. Holds z n)

-- m and n are a pair of what is left
abbrev pub HeldInBoth : Option (Plain × Plain) → ℕ → ℕ → Type 0
HeldInBoth o m n = IsSomeAnd o (λ s. Holds s.0 m × Holds s.1 n)

-- Numbers of the code fit, and so does each constant:
abbrev pub NumbersFit : Type 0
NumbersFit = (x : Number) → Fits (view x)

abbrev pub ConstantsFit : Type 0
ConstantsFit = (n : ℕ) → n < 2 ^ 64 → Fits (constant n)

-- `any` holds each n below 2 ^ 64, and a constant holds itself:
abbrev pub AnyHolds : Type 0
AnyHolds = (n : ℕ) → n < 2 ^ 64 → Holds any n

abbrev pub ConstantHolds : Type 0
ConstantHolds = (n : ℕ) → n < 2 ^ 64 → Holds (constant n) n

-- What arithmetic computes of two held numbers is held by what the table gives; so are a negative,
-- a copy, a copy with sign extension and a change of byte order:
abbrev pub ArithmeticKeeps : Type 0
ArithmeticKeeps =
    (precision : Precision) (bits : OpWidth) (operation : Arithmetic) (x y : Plain) →
    Fits x → Fits y → (m n : ℕ) → Holds x m → Holds y n →
    HeldIn (transferred precision bits operation x y) (alu_value bits operation m n)

abbrev pub NegativeKeeps : Type 0
NegativeKeeps =
    (precision : Precision) (bits : OpWidth) (x : Plain) → Fits x → (n : ℕ) → Holds x n →
    HeldIn (transferred precision bits Sub (constant 0) x) (neg_value bits n)

abbrev pub CopyKeeps : Type 0
CopyKeeps =
    (precision : Precision) (bits : OpWidth) (x : Plain) (n : ℕ) → Holds x n →
    HeldIn (copied precision bits x) (mov_value bits n)

abbrev pub ExtensionKeeps : Type 0
ExtensionKeeps =
    (precision : Precision) (extension : SignedMove) (x : Plain) (n : ℕ) → Holds x n →
    HeldIn (sign_extended precision extension x) (signed_move_value extension n)

abbrev pub OrderKeeps : Type 0
OrderKeeps =
    (precision : Precision) (order : ByteOrder) (width : EndWidth) (x : Plain) (n : ℕ) → Holds x n →
    HeldIn (ordered precision order width x) (end_value order width n)

-- A range holds what lies in it, and what is known of a load holds what it may read, zero-extended
-- and sign-extended:
abbrev pub RangeKeeps : Type 0
RangeKeeps =
    (precision : Precision) (low high n : ℕ) → n < 2 ^ 64 → low ≤ n → n ≤ high →
    HeldIn (tighten precision (ranged low high)) n

abbrev pub LoadKeeps : Type 0
LoadKeeps =
    (precision : Precision) (width : Width) (n : ℕ) → n < 256 ^ byte_count width →
    HeldIn (tighten precision (ranged 0 (load_high width))) n

abbrev pub SignedLoadKeeps : Type 0
SignedLoadKeeps =
    (precision : Precision) (width : SignedWidth) (n : ℕ) → n < 256 ^ signed_byte_count width →
    HeldIn (tighten precision (signed_ranged (signed_low width) (signed_high width))) (signed_load_value width n)

-- Tightening keeps each number that was held.
abbrev pub TightenKeeps : Type 0
TightenKeeps = (precision : Precision) (x : Plain) (n : ℕ) → Holds x n → HeldIn (tighten precision x) n

-- Along each edge of a comparison two held numbers that take it are kept.
abbrev pub EdgeKeeps : Type 0
EdgeKeeps =
    (precision : Precision) (bits : OpWidth) (comparison : Comparison) (taken : Bool) (x y : Plain) (m n : ℕ) →
    Holds x m → Holds y n → is_taken bits comparison m n ≡ taken →
    HeldInBoth (along precision bits comparison taken x y) m n

-- what either of two numbers holds, their join holds
pub record IsUpper (x y : Plain) : Type 0 where
  pub left : (n : ℕ) → Holds x n → Holds (join x y) n
  pub right : (n : ℕ) → Holds y n → Holds (join x y) n

-- Each join of two numbers is such an upper bound.
abbrev pub JoinKeeps : Type 0
JoinKeeps = (x y : Plain) → IsUpper x y

-- nothing is known of its half
abbrev pub HasAnyHalf : Plain → Type 0
HasAnyHalf x = (x.half_least ≡ any.half_least) × (x.half_greatest ≡ any.half_greatest)

-- of what is left
abbrev pub LeavesAnyHalf : Option Plain → Type 0
LeavesAnyHalf o = MatchOption o (Unit {0}) HasAnyHalf

-- What whole numbers give has any half, but a copy of 64 bits, which is the number as it is.
pub record WholeHasAnyHalf : Type 0 where
  pub tightened : (x : Plain) → LeavesAnyHalf (tighten Whole x)
  pub arithmetic : (bits : OpWidth) (operation : Arithmetic) (x y : Plain)
      → LeavesAnyHalf (transferred Whole bits operation x y)
  pub extensions : (extension : SignedMove) (x : Plain) → LeavesAnyHalf (sign_extended Whole extension x)
  pub orders : (order : ByteOrder) (width : EndWidth) (x : Plain) → LeavesAnyHalf (ordered Whole order width x)
  pub copies : (x : Plain) → LeavesAnyHalf (copied Whole Bits32 x)
  pub edges : (bits : OpWidth) (comparison : Comparison) (taken : Bool) (x y : Plain)
      → MatchOption (along Whole bits comparison taken x y) (Unit {0}) (λ s. HasAnyHalf s.0 × HasAnyHalf s.1)

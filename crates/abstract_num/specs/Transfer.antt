-- What operations make of numbers.
use Rattle.std.specs.Prelude.{ℕ, ℤ, pos, negsuc, ◌*ℤ◌, ◌-◌, ◌%◌, ◌^◌, nat_lt, ◌==◌, ◌&&◌, not, Bool, if◌then◌else◌}
use Rattle.std.specs.Prelude.{Option, Some, None, option_and_then}
use Rattle.bpf_decode.specs.Arithmetic.{alu_value, signed_move_value, end_value}
use Rattle.bpf_decode.specs.declared.operation.Arithmetic.{Arithmetic}
use Rattle.bpf_decode.specs.declared.operation.Arithmetic.TheVariants as op
use Rattle.bpf_decode.specs.declared.operation.OpWidth.{OpWidth}
use Rattle.bpf_decode.specs.declared.operation.OpWidth.TheVariants.{Bits32, Bits64}
use Rattle.bpf_decode.specs.declared.operation.SignedMove.{SignedMove}
use Rattle.bpf_decode.specs.declared.operation.SignedMove.TheVariants.{Byte64, Half64, Word64, Byte32, Half32}
use Rattle.bpf_decode.specs.declared.operation.ByteOrder.{ByteOrder}
use Rattle.bpf_decode.specs.declared.operation.EndWidth.{EndWidth}
use Rattle.bpf_decode.specs.declared.access.Width.{Width}
use Rattle.bpf_decode.specs.declared.access.Width.TheVariants as width
use Rattle.bpf_decode.specs.declared.access.SignedWidth.{SignedWidth}
use Rattle.bpf_decode.specs.declared.access.SignedWidth.TheVariants.{Byte, Half, Word}
use Rattle.bpf_decode.specs.Instruction.{signed_move_bits}
use Rattle.abstract_num.specs.Plain.{Plain, constant, any}
use Rattle.abstract_num.specs.Tighten.{tighten, with_any_half}
use Rattle.abstract_num.specs.UnsignedRows.{unsigned_row}
use Rattle.abstract_num.specs.SignedRows.{signed_row, fits}
use Rattle.abstract_num.specs.BitsRows.{bits_row}
use Rattle.abstract_num.specs.HalfRows.{half_row}
use Rattle.abstract_num.specs.declared.precision.Precision.{Precision}
use Rattle.abstract_num.specs.declared.precision.Precision.TheVariants.{Whole, Halves}
use Rattle.abstract_num.specs.declared.row.Row.{Row}
use Rattle.abstract_num.specs.declared.row.Row.TheVariants as row
use Rattle.abstract_num.specs.declared.row.RowAnswer.{RowAnswer}
use Rattle.abstract_num.specs.declared.row.RowAnswer.TheVariants.{Exact, By, Raised, All}

-- The row that answers an operation by rows, with the source's masked number if that is
-- constant.
abbrev pub row_of : Arithmetic → Option ℕ → RowAnswer
row_of op.Add s = By row.Add
row_of op.Sub s = By row.Sub
row_of op.Mul s = By row.Mul
row_of op.Div s = By row.Div
row_of op.SignedDiv s = All
row_of op.Or s = By row.Or
row_of op.And s = By row.And
row_of op.Lsh (Some s) = By (row.LshBy s)
row_of op.Lsh None = All
row_of op.Rsh (Some s) = By (row.RshBy s)
row_of op.Rsh None = By row.Rsh
row_of op.Mod s = By row.Mod
row_of op.SignedMod s = All
row_of op.Xor s = By row.Xor
row_of op.Arsh (Some s) = By (row.ArshBy s)
row_of op.Arsh None = By row.Arsh

-- whether the unsigned range is one number
abbrev pub is_constant : Plain → Bool
is_constant x = x.low == x.high

-- the shift count modulo the width, if it is constant
abbrev pub count_of : ℕ → Plain → Option ℕ
count_of width y = (if is_constant y then Some (y.low % width) else None)

-- the signed range, times 2 ^ 32, fits 64 signed bits
abbrev pub raised_fits : Plain → Bool
raised_fits x = fits (x.least *ℤ pos (2 ^ 32)) && fits (x.greatest *ℤ pos (2 ^ 32))

-- LSH by a constant count: by 32 the half says which signed numbers come, if the signed range
-- doesn't
abbrev pub lsh_answer : ℕ → Plain → RowAnswer
lsh_answer s x = (if s == 32 && not (raised_fits x) then Raised else By (row.SignedLshBy s))

-- with halves, LSH and ARSH by a constant count have signed ranges
abbrev pub row_in : Precision → Arithmetic → Option ℕ → Plain → RowAnswer
row_in Whole operation s x = row_of operation s
row_in Halves op.Lsh (Some s) x = lsh_answer s x
row_in Halves op.Arsh (Some s) x = By (row.SignedArshBy s)
row_in Halves operation s x = row_of operation s

-- the answer of 64 bits, exact for two constants
abbrev pub answer64 : Precision → Arithmetic → Plain → Plain → RowAnswer
answer64 precision operation x y =
    (if is_constant x && is_constant y then Exact (alu_value Bits64 operation x.low y.low)
    else row_in precision operation (count_of 64 y) x)

-- of 32 bits an arithmetic shift is a logical one if the sign is 0, and else any number
abbrev pub row_of_32 : Precision → Arithmetic → Plain → Plain → RowAnswer
row_of_32 precision op.Arsh x y = (if nat_lt x.high (2 ^ 31) then row_of op.Rsh (count_of 32 y) else All)
row_of_32 precision operation x y = row_in precision operation (count_of 32 y) x

-- of two cut numbers
abbrev pub answer32 : Precision → Arithmetic → Plain → Plain → RowAnswer
answer32 precision operation x y =
    (if is_constant x && is_constant y then Exact (alu_value Bits32 operation x.low y.low)
    else row_of_32 precision operation x y)

-- a row, part by part
abbrev pub moved : Row → Plain → Plain → Plain
moved r x y =
    let u = unsigned_row r x.low x.high y.low y.high in
    let s = signed_row r x.least x.greatest y.least y.greatest in
    let b = bits_row r x.value x.unknown y.value y.unknown in
    let h = half_row r x.half_least x.half_greatest y.half_least y.half_greatest in
    record {
      low = u.0;
      high = u.1;
      least = s.0;
      greatest = s.1;
      value = b.0;
      unknown = b.1;
      half_least = h.0;
      half_greatest = h.1;
    }

-- LSH by 32, whose signed range is the half's
abbrev pub raised : Plain → Plain
raised x =
    record (moved (row.LshBy 32) x any) {
      least = x.half_least *ℤ pos (2 ^ 32);
      greatest = x.half_greatest *ℤ pos (2 ^ 32);
    }

-- the number that an answer gives, not tightened
abbrev pub answered : RowAnswer → Plain → Plain → Plain
answered (Exact v) x y = constant v
answered (By r) x y = moved r x y
answered Raised x y = raised x
answered All x y = any

-- one number; whole numbers have no half
abbrev pub known : Precision → ℕ → Plain
known Whole v = with_any_half (constant v)
known Halves v = constant v

-- the low 32 bits
abbrev pub cut : Precision → Plain → Option Plain
cut precision x = tighten precision (moved row.Cut x x)

-- the number that an answer of 64 bits gives
abbrev pub finished64 : Precision → RowAnswer → Plain → Plain → Option Plain
finished64 precision answer x y = tighten precision (answered answer x y)

-- an exact number as it is, and else the cut of the row
abbrev pub finished32 : Precision → RowAnswer → Plain → Plain → Option Plain
finished32 precision (Exact v) x y = Some (known precision v)
finished32 precision (By r) x y = cut precision (moved r x y)
finished32 precision Raised x y = cut precision (raised x)
finished32 precision All x y = cut precision any

-- both operands are cut first
abbrev pub transferred : Precision → OpWidth → Arithmetic → Plain → Plain → Option Plain
transferred precision Bits64 operation x y = finished64 precision (answer64 precision operation x y) x y
transferred precision Bits32 operation x y =
    option_and_then
    (λ a. option_and_then (λ b. finished32 precision (answer32 precision operation a b) a b) (cut precision y))
    (cut precision x)

-- a copy of 64 bits is the number as it is
abbrev pub copied : Precision → OpWidth → Plain → Option Plain
copied precision Bits64 x = Some x
copied precision Bits32 x = cut precision x

-- how many bits above its sign a number has, which the shifts by that count fill with it
abbrev pub bits_above : SignedMove → ℕ
bits_above Byte64 = 56
bits_above Half64 = 48
bits_above Word64 = 32
bits_above Byte32 = 56
bits_above Half32 = 48

-- what sign extension to 64 bits makes of a number that isn't constant: any number, or with halves
-- the row LSH and then the row ARSH by the bits above
abbrev pub extended_from : Precision → SignedMove → Plain → Option Plain
extended_from Whole extension x = tighten Whole any
extended_from Halves extension x =
    let s = bits_above extension in
    option_and_then (λ y. finished64 Halves (By (row.SignedArshBy s)) y any) (finished64 Halves (lsh_answer s x) x any)

-- an exact number, or what the rows make
abbrev pub extended_to : Precision → SignedMove → Plain → Option Plain
extended_to precision extension x =
    (if is_constant x then Some (known precision (signed_move_value extension x.low))
    else extended_from precision extension x)

-- sign extension to 64 bits, and to 32 bits, which cuts first
abbrev pub extended_of : Precision → SignedMove → OpWidth → Plain → Option Plain
extended_of precision extension Bits64 x = extended_to precision extension x
extended_of precision extension Bits32 x =
    option_and_then
    (λ a. (if is_constant a then Some (known precision (signed_move_value extension a.low))
    else option_and_then (cut precision) (extended_from precision extension a)))
    (cut precision x)

-- a copy with sign extension
abbrev pub sign_extended : Precision → SignedMove → Plain → Option Plain
sign_extended precision extension x = extended_of precision extension (signed_move_bits extension) x

-- a change of byte order: exact of a constant, else any number
abbrev pub ordered : Precision → ByteOrder → EndWidth → Plain → Option Plain
ordered precision order width x =
    (if is_constant x then Some (known precision (end_value order width x.low)) else tighten precision any)

-- The numbers from one end to the other; of the other parts nothing is said.
abbrev pub ranged : ℕ → ℕ → Plain
ranged low high = record any { low = low; high = high }

-- the same of signed numbers
abbrev pub signed_ranged : ℤ → ℤ → Plain
signed_ranged low high = record any { least = low; greatest = high }

-- the ends of what loads give
abbrev pub load_high : Width → ℕ
load_high width.Byte = 2 ^ 8 - 1
load_high width.Half = 2 ^ 16 - 1
load_high width.Word = 2 ^ 32 - 1
load_high width.Double = 2 ^ 64 - 1

abbrev pub signed_low : SignedWidth → ℤ
signed_low Byte = negsuc (2 ^ 7 - 1)
signed_low Half = negsuc (2 ^ 15 - 1)
signed_low Word = negsuc (2 ^ 31 - 1)

abbrev pub signed_high : SignedWidth → ℤ
signed_high Byte = pos (2 ^ 7 - 1)
signed_high Half = pos (2 ^ 15 - 1)
signed_high Word = pos (2 ^ 31 - 1)

-- Numbers below 2 ^ 64 read as signed ones, whole and by their low half.
use Rattle.std.specs.Prelude.{ℕ, ℤ, ◌%◌, ◌^◌}
use Rattle.std.specs.Int.{w32, w64, cast_signed}

-- the number, read as a signed one of 64 bits
abbrev pub signed : ℕ → ℤ
signed n = cast_signed w64 n

-- the low 32 bits
abbrev pub signed_half : ℕ → ℤ
signed_half n = cast_signed w32 (n % 2 ^ 32)

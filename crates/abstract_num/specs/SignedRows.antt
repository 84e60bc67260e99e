-- The table's signed part: the ends after, of [p, q] and the source's [r, s].
use Rattle.std.specs.Prelude.{ℤ, pos, negsuc, ◌+ℤ◌, ◌-ℤ◌, ◌*ℤ◌, int_le, ◌-◌, ◌%◌, ◌^◌, ◌&&◌, Bool, if◌then◌else◌}
use Rattle.std.specs.Int.{int_shr}
use Rattle.abstract_num.specs.UnsignedRows.{power}
use Rattle.abstract_num.specs.declared.row.Row.{Row}
use Rattle.abstract_num.specs.declared.row.Row.TheVariants.{Add, Sub, SignedLshBy, SignedArshBy}

-- a signed range by its ends
abbrev pub ends : ℤ → ℤ → ℤ × ℤ
ends p q = (p, q)

-- from -2 ^ 63 to 2 ^ 63 - 1
abbrev pub all : ℤ × ℤ
all = ends (negsuc (2 ^ 63 - 1)) (pos (2 ^ 63 - 1))

-- z fits 64 signed bits
abbrev pub fits : ℤ → Bool
fits z = int_le (negsuc (2 ^ 63 - 1)) z && int_le z (pos (2 ^ 63 - 1))

-- the ends if both fit, else every number
abbrev pub ends_that_fit : ℤ → ℤ → ℤ × ℤ
ends_that_fit p q = (if fits p && fits q then ends p q else all)

-- times 2 to the shift count, and divided by it, rounded down
abbrev pub signed_row : Row → ℤ → ℤ → ℤ → ℤ → ℤ × ℤ
signed_row Add p q r s = ends_that_fit (p +ℤ r) (q +ℤ s)
signed_row Sub p q r s = ends_that_fit (p -ℤ s) (q -ℤ r)
signed_row (SignedLshBy n) p q r s = ends_that_fit (p *ℤ pos (power n)) (q *ℤ pos (power n))
signed_row (SignedArshBy n) p q r s = ends (int_shr p (n % 64)) (int_shr q (n % 64))
signed_row _ p q r s = all

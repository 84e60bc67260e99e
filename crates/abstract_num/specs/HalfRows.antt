-- The table's half: the ends after, of [h, k] and the source's [i, j].
use Rattle.std.specs.Prelude.{ℤ, pos, negsuc, ◌+ℤ◌, ◌-ℤ◌, int_le, ◌-◌, ◌^◌, ◌&&◌, Bool, if◌then◌else◌}
use Rattle.abstract_num.specs.declared.row.Row.{Row}
use Rattle.abstract_num.specs.declared.row.Row.TheVariants.{Add, Sub, Cut}

-- a half by its ends
abbrev pub ends : ℤ → ℤ → ℤ × ℤ
ends h k = (h, k)

-- from -2 ^ 31 to 2 ^ 31 - 1
abbrev pub all : ℤ × ℤ
all = ends (negsuc (2 ^ 31 - 1)) (pos (2 ^ 31 - 1))

-- z fits 32 signed bits
abbrev pub fits : ℤ → Bool
fits z = int_le (negsuc (2 ^ 31 - 1)) z && int_le z (pos (2 ^ 31 - 1))

-- the ends if both fit, else any half
abbrev pub ends_that_fit : ℤ → ℤ → ℤ × ℤ
ends_that_fit h k = (if fits h && fits k then ends h k else all)

-- a cut leaves the half as it is
abbrev pub half_row : Row → ℤ → ℤ → ℤ → ℤ → ℤ × ℤ
half_row Add h k i j = ends_that_fit (h +ℤ i) (k +ℤ j)
half_row Sub h k i j = ends_that_fit (h -ℤ j) (k -ℤ i)
half_row Cut h k i j = ends h k
half_row _ h k i j = all

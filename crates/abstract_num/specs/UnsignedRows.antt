-- The table's unsigned part: the ends after, of [a, b] and the source's [c, d].
use Rattle.std.specs.Prelude.{ℕ, ◌+◌, ◌-◌, ◌*◌, ◌/◌, ◌%◌, ◌^◌, min, max, nat_lt, nat_le, if◌then◌else◌}
use Rattle.std.specs.Int.Count.{count_leading_zeros}
use Rattle.abstract_num.specs.declared.row.Row.{Row}
use Rattle.abstract_num.specs.declared.row.Row.TheVariants.{Add, Sub, Mul, Div, Mod, And, Or, Xor, LshBy, RshBy, Rsh}
use Rattle.abstract_num.specs.declared.row.Row.TheVariants.{ArshBy, Arsh, SignedLshBy, SignedArshBy, Cut}

-- a range by its ends
abbrev pub ends : ℕ → ℕ → ℕ × ℕ
ends a b = (a, b)

-- every number
abbrev pub all : ℕ × ℕ
all = ends 0 (2 ^ 64 - 1)

-- how many binary digits n has
abbrev pub digits : ℕ → ℕ
digits n = 64 - count_leading_zeros 64 n

-- 2 to the shift count s, which is taken modulo 64
abbrev pub power : ℕ → ℕ
power s = 2 ^ (s % 64)

-- the table
abbrev pub unsigned_row : Row → ℕ → ℕ → ℕ → ℕ → ℕ × ℕ
unsigned_row Add a b c d = (if nat_lt (b + d) (2 ^ 64) then ends (a + c) (b + d) else all)
unsigned_row Sub a b c d = (if nat_le d a then ends (a - d) (b - c) else all)
unsigned_row Mul a b c d = (if nat_lt (b * d) (2 ^ 64) then ends (a * c) (b * d) else all)
unsigned_row Div a b c d = (if nat_le 1 c then ends (a / d) (b / c) else ends 0 b)
unsigned_row Mod a b c d = (if nat_le 1 c then ends 0 (min b (d - 1)) else ends 0 b)
unsigned_row And a b c d = ends 0 (min b d)
unsigned_row Or a b c d = ends (max a c) (2 ^ digits (max b d) - 1)
unsigned_row Xor a b c d = ends 0 (2 ^ digits (max b d) - 1)
unsigned_row (LshBy s) a b c d = (if nat_lt (b * power s) (2 ^ 64) then ends (a * power s) (b * power s) else all)
unsigned_row (RshBy s) a b c d = ends (a / power s) (b / power s)
unsigned_row Rsh a b c d = ends 0 b
unsigned_row (ArshBy s) a b c d = (if nat_lt b (2 ^ 63) then ends (a / power s) (b / power s) else all)
unsigned_row Arsh a b c d = (if nat_lt b (2 ^ 63) then ends 0 b else all)
unsigned_row (SignedLshBy s) a b c d = (if nat_lt (b * power s) (2 ^ 64) then ends (a * power s) (b * power s) else all)
unsigned_row (SignedArshBy s) a b c d = (if nat_lt b (2 ^ 63) then ends (a / power s) (b / power s) else all)
unsigned_row Cut a b c d = (if nat_lt b (2 ^ 32) then ends a b else ends 0 (2 ^ 32 - 1))

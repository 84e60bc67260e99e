-- The table's known bits: value and unknown after, of (v1, m1) and the source's (v2, m2).
use Rattle.std.specs.Prelude.{ℕ, ◌-◌, ◌^◌, bit_and, bit_or, bit_xor}
use Rattle.abstract_num.specs.Masks.{clear}
use Rattle.abstract_num.specs.Meaning.{row_value}
use Rattle.abstract_num.specs.declared.row.Row.{Row}
use Rattle.abstract_num.specs.declared.row.Row.TheVariants.{Add, Sub, Mul, Div, Mod, And, Or, Xor, LshBy, RshBy, Rsh}
use Rattle.abstract_num.specs.declared.row.Row.TheVariants.{ArshBy, Arsh, SignedLshBy, SignedArshBy, Cut}

-- the value, and of the unknown bits those that it doesn't have
abbrev pub value_first : ℕ → ℕ → ℕ × ℕ
value_first v m = (v, clear m v)

-- the unknown bits, and of the value those that aren't unknown
abbrev pub unknown_first : ℕ → ℕ → ℕ × ℕ
unknown_first m v = (clear v m, m)

-- no bit is known
abbrev pub unknown : ℕ × ℕ
unknown = (0, 2 ^ 64 - 1)

-- both shifted the same way
abbrev pub shifted : Row → ℕ → ℕ → ℕ × ℕ
shifted r v m = (row_value r v 0, row_value r m 0)

-- the table; of the other rows' numbers no bit is known
abbrev pub bits_row : Row → ℕ → ℕ → ℕ → ℕ → ℕ × ℕ
bits_row And v1 m1 v2 m2 = value_first (bit_and v1 v2) (bit_and (bit_or v1 m1) (bit_or v2 m2))
bits_row Or v1 m1 v2 m2 = value_first (bit_or v1 v2) (bit_or m1 m2)
bits_row Xor v1 m1 v2 m2 = unknown_first (bit_or m1 m2) (bit_xor v1 v2)
bits_row (LshBy s) v1 m1 v2 m2 = shifted (LshBy s) v1 m1
bits_row (RshBy s) v1 m1 v2 m2 = shifted (RshBy s) v1 m1
bits_row (ArshBy s) v1 m1 v2 m2 = shifted (ArshBy s) v1 m1
bits_row (SignedLshBy s) v1 m1 v2 m2 = shifted (SignedLshBy s) v1 m1
bits_row (SignedArshBy s) v1 m1 v2 m2 = shifted (SignedArshBy s) v1 m1
bits_row Cut v1 m1 v2 m2 = shifted Cut v1 m1
bits_row Add v1 m1 v2 m2 = unknown
bits_row Sub v1 m1 v2 m2 = unknown
bits_row Mul v1 m1 v2 m2 = unknown
bits_row Div v1 m1 v2 m2 = unknown
bits_row Mod v1 m1 v2 m2 = unknown
bits_row Rsh v1 m1 v2 m2 = unknown
bits_row Arsh v1 m1 v2 m2 = unknown

-- Proved; nothing here need be believed.
-- What a row computes is below 2 ^ 64.
use Rattle.std.specs.Prelude.{ℕ, ◌%◌, ◌^◌, ◌<◌}
use Rattle.std.proofs.Common.{arith}
use Rattle.std.proofs.Math.Nat.{div-le_self}
use Rattle.std.proofs.lemmas.Nat.{and_le_l, or_lt, xor_lt, shr_le}
use Rattle.abstract_num.specs.proved.Shifts.{arsh_lt}
use Rattle.abstract_num.specs.Meaning.{row_value}
use Rattle.abstract_num.specs.declared.row.Row.{Row}
use Rattle.abstract_num.specs.declared.row.Row.TheVariants.{Add, Sub, Mul, Div, Mod, And, Or, Xor, LshBy, RshBy, Rsh}
use Rattle.abstract_num.specs.declared.row.Row.TheVariants.{ArshBy, Arsh, SignedLshBy, SignedArshBy, Cut}

pub row_value_fits : (r : Row) (m n : ℕ) → m < 2 ^ 64 → n < 2 ^ 64 → row_value r m n < 2 ^ 64
row_value_fits Add m n p q = omega arith
row_value_fits Sub m n p q = omega arith
row_value_fits Mul m n p q = omega arith
row_value_fits Div m n p q = let h = div-le_self m n in grind arith
row_value_fits Mod m n p q = grind arith
row_value_fits And m n p q = omega (arith, and_le_l m n)
row_value_fits Or m n p q = or_lt 64 m n p q
row_value_fits Xor m n p q = xor_lt 64 m n p q
row_value_fits (LshBy k) m n p q = omega arith
row_value_fits (RshBy k) m n p q = omega (arith, shr_le m (k % 64))
row_value_fits Rsh m n p q = omega (arith, shr_le m (n % 64))
row_value_fits (ArshBy k) m n p q = arsh_lt (k % 64) m p
row_value_fits Arsh m n p q = arsh_lt (n % 64) m p
row_value_fits (SignedLshBy k) m n p q = omega arith
row_value_fits (SignedArshBy k) m n p q = arsh_lt (k % 64) m p
row_value_fits Cut m n p q = omega arith

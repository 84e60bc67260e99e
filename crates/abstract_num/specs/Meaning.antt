-- What the rows compute and the facts say, of two numbers below 2 ^ 64; an operation is the
-- machine's.
use Rattle.std.specs.Prelude.{ℕ, ◌≡◌, ◌≢◌, ◌^◌, ◌<◌, ◌≤◌, ◌<ℤ◌, ◌≤ℤ◌, bit_and}
use Rattle.std.specs.Int.{w64}
use Rattle.bpf_decode.specs.Arithmetic.{computed, mov_value}
use Rattle.bpf_decode.specs.declared.operation.Arithmetic.TheVariants as op
use Rattle.bpf_decode.specs.declared.operation.OpWidth.TheVariants.{Bits32}
use Rattle.abstract_num.specs.Signed.{signed, signed_half}
use Rattle.abstract_num.specs.declared.row.Row.{Row}
use Rattle.abstract_num.specs.declared.row.Row.TheVariants.{Add, Sub, Mul, Div, Mod, And, Or, Xor, LshBy, RshBy, Rsh}
use Rattle.abstract_num.specs.declared.row.Row.TheVariants.{ArshBy, Arsh, SignedLshBy, SignedArshBy, Cut}
use Rattle.abstract_num.specs.declared.fact.Fact.{Fact}
use Rattle.abstract_num.specs.declared.fact.Fact.TheVariants.{Same, Above, AtLeast, SignedAbove, SignedAtLeast}
use Rattle.abstract_num.specs.declared.fact.Fact.TheVariants.{HalfAbove, HalfAtLeast, Meets, Not, NoneOf}

-- what each row computes
abbrev pub row_value : Row → ℕ → ℕ → ℕ
row_value Add m n = computed op.Add w64 m n
row_value Sub m n = computed op.Sub w64 m n
row_value Mul m n = computed op.Mul w64 m n
row_value Div m n = computed op.Div w64 m n
row_value Mod m n = computed op.Mod w64 m n
row_value And m n = computed op.And w64 m n
row_value Or m n = computed op.Or w64 m n
row_value Xor m n = computed op.Xor w64 m n
row_value (LshBy k) m n = computed op.Lsh w64 m k
row_value (RshBy k) m n = computed op.Rsh w64 m k
row_value Rsh m n = computed op.Rsh w64 m n
row_value (ArshBy k) m n = computed op.Arsh w64 m k
row_value Arsh m n = computed op.Arsh w64 m n
row_value (SignedLshBy k) m n = computed op.Lsh w64 m k
row_value (SignedArshBy k) m n = computed op.Arsh w64 m k
row_value Cut m n = mov_value Bits32 m

-- what each fact says of the first number and the second
abbrev pub IsFact : Fact → ℕ → ℕ → Type 0
IsFact Same m n = m ≡ n
IsFact Above m n = n < m
IsFact AtLeast m n = n ≤ m
IsFact SignedAbove m n = signed n <ℤ signed m
IsFact SignedAtLeast m n = signed n ≤ℤ signed m
IsFact HalfAbove m n = signed_half n <ℤ signed_half m
IsFact HalfAtLeast m n = signed_half n ≤ℤ signed_half m
IsFact Meets m n = bit_and m n ≢ 0
IsFact (Not c) m n = (m ≢ c) × (c < 2 ^ 64)
IsFact (NoneOf c) m n = bit_and m c ≡ 0

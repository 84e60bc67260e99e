-- Masks.
use Rattle.std.specs.Prelude.{ℕ, bit_and, bit_xor}

-- n with the bits of m cleared, `n & !m`
abbrev pub clear : ℕ → ℕ → ℕ
clear n m = bit_xor n (bit_and n m)

-- A number in plain numbers: the unsigned range [low, high], the signed range [least, greatest],
-- the bits of value that unknown leaves known, and the half: the range [half_least, half_greatest]
-- of the low 32 bits as a signed number.
use Rattle.std.specs.Prelude.{◌≡◌, ℕ, ℤ, pos, negsuc, ◌-◌, ◌^◌, ◌<◌, ◌≤◌, ◌≤ℤ◌, min, max, bit_or, bit_xor, Option, Some}
use Rattle.std.specs.Prelude.{None, MatchOption, IsSomeAnd}
use Rattle.std.specs.Int.{int_min, int_max}
use Rattle.abstract_num.specs.Signed.{signed, signed_half}
use Rattle.abstract_num.specs.Masks.{clear}
use Rattle.abstract_num.specs.declared.urange.URange.{URange}
use Rattle.abstract_num.specs.declared.srange.SRange.{SRange}
use Rattle.abstract_num.specs.declared.bits.Bits.{Bits}
use Rattle.abstract_num.specs.declared.half.Half.{Half}
use Rattle.abstract_num.specs.declared.product.Product.{Product}

-- an abstract number: the ends of its ranges and of its half, the value of its known bits, and a
-- mask of the unknown ones
pub record Plain : Type 0 where
  pub low : ℕ
  pub high : ℕ
  pub least : ℤ
  pub greatest : ℤ
  pub value : ℕ
  pub unknown : ℕ
  pub half_least : ℤ
  pub half_greatest : ℤ

-- n is below 2 ^ 64, lies in both ranges, agrees with the known bits, and has a low half that lies
-- in the half
pub record Holds (x : Plain) (n : ℕ) : Type 0 where
  pub fits : n < 2 ^ 64
  pub above : x.low ≤ n
  pub below : n ≤ x.high
  pub at_least : x.least ≤ℤ signed n
  pub at_most : signed n ≤ℤ x.greatest
  pub agrees : clear n x.unknown ≡ x.value
  pub half_at_least : x.half_least ≤ℤ signed_half n
  pub half_at_most : signed_half n ≤ℤ x.half_greatest

-- every number
abbrev pub any : Plain
any =
    record {
      low = 0;
      high = 2 ^ 64 - 1;
      least = negsuc (2 ^ 63 - 1);
      greatest = pos (2 ^ 63 - 1);
      value = 0;
      unknown = 2 ^ 64 - 1;
      half_least = negsuc (2 ^ 31 - 1);
      half_greatest = pos (2 ^ 31 - 1);
    }

-- n alone
abbrev pub constant : ℕ → Plain
constant n =
    record {
      low = n;
      high = n;
      least = signed n;
      greatest = signed n;
      value = n;
      unknown = 0;
      half_least = signed_half n;
      half_greatest = signed_half n;
    }

-- hulls of the ranges and the halves; a bit is known if both know it and agree
abbrev pub join : Plain → Plain → Plain
join x y =
    let m = bit_or (bit_or x.unknown y.unknown) (bit_xor x.value y.value) in
    record {
      low = min x.low y.low;
      high = max x.high y.high;
      least = int_min x.least y.least;
      greatest = int_max x.greatest y.greatest;
      value = clear x.value m;
      unknown = m;
      half_least = int_min x.half_least y.half_least;
      half_greatest = int_max x.half_greatest y.half_greatest;
    }

-- each range and the half inside the other's, and each bit that y knows known, and the same, in x
pub record Below (x y : Plain) : Type 0 where
  pub low : y.low ≤ x.low
  pub high : x.high ≤ y.high
  pub least : y.least ≤ℤ x.least
  pub greatest : x.greatest ≤ℤ y.greatest
  pub knows : clear x.unknown y.unknown ≡ 0
  pub agrees : clear x.value y.unknown ≡ y.value
  pub half_least : y.half_least ≤ℤ x.half_least
  pub half_greatest : x.half_greatest ≤ℤ y.half_greatest

-- the number of the code
abbrev pub Number : Type 0
Number = Product URange (Product SRange (Product Bits Half))

-- how contracts see a number of the code
abbrev pub view : Number → Plain
view x =
    record {
      low = x.first.low;
      high = x.first.high;
      least = x.second.first.low;
      greatest = x.second.first.high;
      value = x.second.second.first.value;
      unknown = x.second.second.first.unknown;
      half_least = x.second.second.second.low;
      half_greatest = x.second.second.second.high;
    }

-- the code's answer is what the table gives, nothing or a number
abbrev pub Gives : Option Plain → Option Number → Type 0
Gives table r = MatchOption r (table ≡ None) (λ z. table ≡ Some (view z))

-- the same of two numbers
abbrev pub GivesBoth : Option (Plain × Plain) → Option (Number × Number) → Type 0
GivesBoth table r = MatchOption r (table ≡ None) (λ s. table ≡ Some (view s.0, view s.1))

-- n is one of what is left
abbrev pub Kept : Option Number → ℕ → Type 0
Kept r n = IsSomeAnd r (λ z. Holds (view z) n)

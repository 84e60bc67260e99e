-- The laws of the number's join and order.
use Rattle.std.specs.Prelude.{◌≡◌, ℕ}
use Rattle.abstract_num.specs.Parts.{joined_urange, joined_srange, joined_bits, joined_half}
use Rattle.abstract_num.specs.Plain.{Number, Holds, Below, view}

-- the join of two numbers of the code, part by part
abbrev pub joined : Number → Number → Number
joined x y =
    record {
      first = joined_urange x.first y.first;
      second = record {
        first = joined_srange x.second.first y.second.first;
        second = record {
          first = joined_bits x.second.second.first y.second.second.first;
          second = joined_half x.second.second.second y.second.second.second;
        };
      };
    }

-- The join is commutative, associative and idempotent:
abbrev pub JoinCommutes : Type 0
JoinCommutes = (x y : Number) → joined x y ≡ joined y x

abbrev pub JoinAssociates : Type 0
JoinAssociates = (x y z : Number) → joined (joined x y) z ≡ joined x (joined y z)

abbrev pub JoinOfSame : Type 0
JoinOfSame = (x : Number) → joined x x ≡ x

-- It is above the first and so, as it commutes, above both.
abbrev pub JoinIsAbove : Type 0
JoinIsAbove = (x y : Number) → Below (view x) (view (joined x y))

-- The order is reflexive and transitive, and a greater number holds what a smaller one does:
abbrev pub BelowIsReflexive : Type 0
BelowIsReflexive = (x : Number) → Below (view x) (view x)

abbrev pub BelowIsTransitive : Type 0
BelowIsTransitive = (x y z : Number) → Below (view x) (view y) → Below (view y) (view z) → Below (view x) (view z)

abbrev pub BelowHolds : Type 0
BelowHolds = (x y : Number) → Below (view x) (view y) → (n : ℕ) → Holds (view x) n → Holds (view y) n

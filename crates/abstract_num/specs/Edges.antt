-- What the edges of a comparison leave of its two numbers.
use Rattle.std.specs.Prelude.{ℕ, ◌^◌, nat_lt, ◌&&◌, ◌||◌, Bool, true, false, if◌then◌else◌, Option, Some, None}
use Rattle.std.specs.Prelude.{option_map, option_and_then}
use Rattle.bpf_decode.specs.declared.operation.OpWidth.{OpWidth}
use Rattle.bpf_decode.specs.declared.operation.OpWidth.TheVariants.{Bits32, Bits64}
use Rattle.bpf_decode.specs.declared.operation.Comparison.{Comparison}
use Rattle.bpf_decode.specs.declared.operation.Comparison.TheVariants as is
use Rattle.abstract_num.specs.Plain.{Plain}
use Rattle.abstract_num.specs.Tighten.{tighten, with_any_half}
use Rattle.abstract_num.specs.Transfer.{is_constant, cut}
use Rattle.abstract_num.specs.UnsignedFacts.{unsigned_fact, crosses}
use Rattle.abstract_num.specs.SignedFacts.{signed_fact, crosses as signs_cross}
use Rattle.abstract_num.specs.BitsFacts.{bits_fact, denied}
use Rattle.abstract_num.specs.HalfFacts.{half_fact, crosses as halves_cross}
use Rattle.abstract_num.specs.declared.precision.Precision.{Precision}
use Rattle.abstract_num.specs.declared.precision.Precision.TheVariants.{Whole, Halves}
use Rattle.abstract_num.specs.declared.fact.Fact.{Fact}
use Rattle.abstract_num.specs.declared.fact.Fact.TheVariants.{Same, Above, AtLeast, SignedAbove, SignedAtLeast}
use Rattle.abstract_num.specs.declared.fact.Fact.TheVariants.{HalfAbove, HalfAtLeast, Meets, Not, NoneOf}
use Rattle.abstract_num.specs.declared.fact.Edge.{Edge}
use Rattle.abstract_num.specs.declared.fact.Edge.TheVariants.{Ahead, Turned, Apart, Disjoint}

-- How the first and the second number stand to one another if a comparison holds, and if it
-- doesn't.
abbrev pub edge_of : Comparison → Bool → Edge
edge_of is.Equal true = Ahead Same
edge_of is.Equal false = Apart
edge_of is.NotEqual true = Apart
edge_of is.NotEqual false = Ahead Same
edge_of is.Greater true = Ahead Above
edge_of is.Greater false = Turned AtLeast
edge_of is.GreaterEqual true = Ahead AtLeast
edge_of is.GreaterEqual false = Turned Above
edge_of is.Less true = Turned Above
edge_of is.Less false = Ahead AtLeast
edge_of is.LessEqual true = Turned AtLeast
edge_of is.LessEqual false = Ahead Above
edge_of is.SignedGreater true = Ahead SignedAbove
edge_of is.SignedGreater false = Turned SignedAtLeast
edge_of is.SignedGreaterEqual true = Ahead SignedAtLeast
edge_of is.SignedGreaterEqual false = Turned SignedAbove
edge_of is.SignedLess true = Turned SignedAbove
edge_of is.SignedLess false = Ahead SignedAtLeast
edge_of is.SignedLessEqual true = Turned SignedAtLeast
edge_of is.SignedLessEqual false = Ahead SignedAbove
edge_of is.SharesBits true = Ahead Meets
edge_of is.SharesBits false = Disjoint

-- the first number and the second
abbrev pub Pair : Type 0
Pair = Plain × Plain

-- nothing is left of a part
abbrev pub leaves_nothing : Fact → Plain → Plain → Bool
leaves_nothing f x y =
    crosses (unsigned_fact f x.low x.high y.low y.high)
    || (signs_cross (signed_fact f x.least x.greatest y.least y.greatest)
    || (denied f x.value x.unknown y.value y.unknown
    || halves_cross (half_fact f x.half_least x.half_greatest y.half_least y.half_greatest)))

-- what a fact leaves of both, part by part
abbrev pub left_of : Fact → Plain → Plain → Pair
left_of f x y =
    let u = unsigned_fact f x.low x.high y.low y.high in
    let s = signed_fact f x.least x.greatest y.least y.greatest in
    let b = bits_fact f x.value x.unknown y.value y.unknown in
    let h = half_fact f x.half_least x.half_greatest y.half_least y.half_greatest in (
      record {
        low = u.0.0;
        high = u.0.1;
        least = s.0.0;
        greatest = s.0.1;
        value = b.0.0;
        unknown = b.0.1;
        half_least = h.0.0;
        half_greatest = h.0.1;
      },
      record {
        low = u.1.0;
        high = u.1.1;
        least = s.1.0;
        greatest = s.1.1;
        value = b.1.0;
        unknown = b.1.1;
        half_least = h.1.0;
        half_greatest = h.1.1;
      },
    )

-- what a fact leaves, none if nothing is left of a part
abbrev pub by_fact : Fact → Plain → Plain → Option Pair
by_fact f x y = (if leaves_nothing f x y then None else Some (left_of f x y))

-- the two the other way round, and the first of them
abbrev pub turned : Pair → Pair
turned s = (s.1, s.0)

abbrev pub first_of : Pair → Plain
first_of s = s.0

-- x, other than y if that is constant
abbrev pub other_than : Plain → Plain → Option Plain
other_than x y = (if is_constant y then option_map first_of (by_fact (Not y.low) x y) else Some x)

-- both, if something is left of each
abbrev pub both : Option Plain → Option Plain → Option Pair
both a b = option_and_then (λ x. option_map (λ y. (x, y)) b) a

-- what an edge leaves, none if nothing is left of a part
abbrev pub by_edge : Edge → Plain → Plain → Option Pair
by_edge (Ahead f) x y = by_fact f x y
by_edge (Turned f) x y = option_map turned (by_fact f y x)
by_edge Apart x y = both (other_than x y) (other_than y x)
by_edge Disjoint x y = (if is_constant y then by_fact (NoneOf y.low) x y else Some (x, y))

-- whether a comparison reads its numbers as signed
abbrev pub is_signed : Comparison → Bool
is_signed is.SignedGreater = true
is_signed is.SignedGreaterEqual = true
is_signed is.SignedLess = true
is_signed is.SignedLessEqual = true
is_signed _ = false

-- Below this the low halves compare as the whole numbers do.
abbrev pub short_end : Comparison → ℕ
short_end comparison = (if is_signed comparison then 2 ^ 31 else 2 ^ 32)

-- of whole numbers a comparison of 32 bits tells nothing of a number that may be longer
abbrev pub tells : OpWidth → Comparison → Plain → Plain → Bool
tells Bits64 comparison x y = true
tells Bits32 comparison x y = nat_lt x.high (short_end comparison) && nat_lt y.high (short_end comparison)

-- what a comparison leaves of whole numbers along an edge
abbrev pub refined : OpWidth → Comparison → Bool → Plain → Plain → Option Pair
refined bits comparison taken x y =
    (if tells bits comparison x y then by_edge (edge_of comparison taken) x y else Some (x, y))

-- both tightened once
abbrev pub tightened : Precision → Pair → Option Pair
tightened precision s = both (tighten precision s.0) (tighten precision s.1)

-- the signed facts, of the halves
abbrev pub half_fact_of : Fact → Fact
half_fact_of SignedAbove = HalfAbove
half_fact_of SignedAtLeast = HalfAtLeast
half_fact_of f = f

-- an edge whose fact is of the halves
abbrev pub half_edge : Edge → Edge
half_edge (Ahead f) = Ahead (half_fact_of f)
half_edge (Turned f) = Turned (half_fact_of f)
half_edge Apart = Apart
half_edge Disjoint = Disjoint

-- what an edge of a comparison of low halves leaves of two cuts, tightened
abbrev pub along_cuts : Comparison → Bool → Plain → Plain → Option Pair
along_cuts comparison taken x y =
    let edge = half_edge (edge_of comparison taken) in
    option_and_then (tightened Halves) (option_and_then
    (λ s. by_edge edge s.0 s.1) (both (cut Halves x) (cut Halves y)))

-- x becomes what is left of its cut, if it was below 2 ^ 32; else its half becomes that one's
abbrev pub put_back : Plain → Plain → Option Plain
put_back x c =
    (if nat_lt x.high (2 ^ 32) then Some c
    else tighten Halves (record x { half_least = c.half_least; half_greatest = c.half_greatest }))

-- both, by what is left of their cuts
abbrev pub put_both_back : Plain → Plain → Pair → Option Pair
put_both_back x y s = both (put_back x s.0) (put_back y s.1)

-- Along an edge. Of whole numbers no half is looked at; with halves a comparison of 32 bits is one
-- of the cuts.
abbrev pub along : Precision → OpWidth → Comparison → Bool → Plain → Plain → Option Pair
along Whole bits comparison taken x y =
    option_and_then (tightened Whole) (refined bits comparison taken (with_any_half x) (with_any_half y))
along Halves Bits64 comparison taken x y = option_and_then (tightened Halves) (by_edge (edge_of comparison taken) x y)
along Halves Bits32 comparison taken x y = option_and_then (put_both_back x y) (along_cuts comparison taken x y)

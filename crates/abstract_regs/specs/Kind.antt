-- What is known of a register: nothing, a number, or a pointer into a region, by the numbers'
-- tables.
use Rattle.std.specs.Prelude.{◌≡◌, ℕ, ◌+◌, Option, Some, None, Bool, true, false, if◌then◌else◌, nat_le}
use Rattle.std.specs.Option.{option_map}
use Rattle.bpf_decode.specs.declared.region.Region.{Region}
use Rattle.bpf_decode.specs.declared.region.Region.TheVariants.{Input, Output, Stack}
use Rattle.bpf_decode.specs.declared.value.Value.{Value}
use Rattle.bpf_decode.specs.declared.value.Value.TheVariants as values
use Rattle.bpf_decode.specs.declared.operation.OpWidth.{OpWidth}
use Rattle.bpf_decode.specs.declared.operation.OpWidth.TheVariants.{Bits32, Bits64}
use Rattle.bpf_decode.specs.declared.operation.Arithmetic.{Arithmetic}
use Rattle.bpf_decode.specs.declared.operation.Arithmetic.TheVariants.{Add, Sub}
use Rattle.bpf_decode.specs.declared.operation.SignedMove.{SignedMove}
use Rattle.bpf_decode.specs.declared.operation.ByteOrder.{ByteOrder}
use Rattle.bpf_decode.specs.declared.operation.EndWidth.{EndWidth}
use Rattle.bpf_decode.specs.declared.operation.Comparison.{Comparison}
use Rattle.abstract_num.specs.declared.precision.Precision.{Precision}
use Rattle.abstract_num.specs.Plain.{Plain, Holds, constant, join}
use Rattle.abstract_num.specs.Tighten.{tighten}
use Rattle.abstract_num.specs.Transfer.{transferred, copied, sign_extended, ordered}
use Rattle.abstract_num.specs.Edges.{along}

-- what is known of a register or a slot
pub data PlainKind : Type 0 where
  Unset : PlainKind
  Num : (n : Plain) → PlainKind
  -- the offset from the region's first byte
  Ptr : (r : Region) → (at : Plain) → PlainKind

-- The values that a register of a kind may have; an unset one may have any, or none.
abbrev pub HoldsKind : PlainKind → Option Value → Type 0
HoldsKind Unset c = Unit {0}
HoldsKind (Num k) None = ⊥
HoldsKind (Num k) (Some (values.Num n)) = Holds k n
HoldsKind (Num k) (Some (values.Ptr r at)) = ⊥
HoldsKind (Ptr r k) None = ⊥
HoldsKind (Ptr r k) (Some (values.Num n)) = ⊥
HoldsKind (Ptr r k) (Some (values.Ptr q at)) = (r ≡ q) × Holds k at

-- which of the three a kind is:
abbrev pub is_unset : PlainKind → Bool
is_unset Unset = true
is_unset (Num k) = false
is_unset (Ptr r k) = false

abbrev pub is_num : PlainKind → Bool
is_num Unset = false
is_num (Num k) = true
is_num (Ptr r k) = false

abbrev pub is_ptr : PlainKind → Bool
is_ptr Unset = false
is_ptr (Num k) = false
is_ptr (Ptr r k) = true

-- whether two regions are the same
abbrev pub same_region : Region → Region → Bool
same_region Input Input = true
same_region Input Output = false
same_region Input Stack = false
same_region Output Input = false
same_region Output Output = true
same_region Output Stack = false
same_region Stack Input = false
same_region Stack Output = false
same_region Stack Stack = true

-- a number joined with a pointer, two regions, and Unset with anything give Unset; nothing is
-- tightened
abbrev pub join_kind : PlainKind → PlainKind → PlainKind
join_kind Unset y = Unset
join_kind (Num k) Unset = Unset
join_kind (Num k) (Num l) = Num (join k l)
join_kind (Num k) (Ptr q l) = Unset
join_kind (Ptr r k) Unset = Unset
join_kind (Ptr r k) (Num l) = Unset
join_kind (Ptr r k) (Ptr q l) = if same_region r q then Ptr r (join k l) else Unset

-- What an instruction that no rule refuses computes; none if no number is left. Arithmetic of
-- numbers, or a pointer whose offset moves:
abbrev pub alu_kind : Precision → OpWidth → Arithmetic → PlainKind → PlainKind → Option PlainKind
alu_kind precision bits operation (Num k) (Num l) = option_map Num (transferred precision bits operation k l)
alu_kind precision bits operation (Ptr r k) (Num l) = option_map (Ptr r) (transferred precision bits operation k l)
alu_kind precision bits operation (Num k) (Ptr r l) = option_map (Ptr r) (transferred precision bits operation k l)
alu_kind precision bits operation (Ptr r k) (Ptr q l) = Some Unset
alu_kind precision bits operation Unset y = Some Unset
alu_kind precision bits operation (Num k) Unset = Some Unset
alu_kind precision bits operation (Ptr r k) Unset = Some Unset

-- 0 less the number
abbrev pub neg_kind : Precision → OpWidth → PlainKind → Option PlainKind
neg_kind precision bits Unset = Some Unset
neg_kind precision bits (Num k) = option_map Num (transferred precision bits Sub (constant 0) k)
neg_kind precision bits (Ptr r k) = Some Unset

-- a copy; of a pointer only one of 64 bits is a pointer
abbrev pub mov_kind : Precision → OpWidth → PlainKind → Option PlainKind
mov_kind precision bits Unset = Some Unset
mov_kind precision bits (Num k) = option_map Num (copied precision bits k)
mov_kind precision Bits64 (Ptr r k) = Some (Ptr r k)
mov_kind precision Bits32 (Ptr r k) = Some Unset

-- a copy with sign extension, and a change of byte order, both of numbers alone
abbrev pub signed_move_kind : Precision → SignedMove → PlainKind → Option PlainKind
signed_move_kind precision extension Unset = Some Unset
signed_move_kind precision extension (Num k) = option_map Num (sign_extended precision extension k)
signed_move_kind precision extension (Ptr r k) = Some Unset

abbrev pub end_kind : Precision → ByteOrder → EndWidth → PlainKind → Option PlainKind
end_kind precision order width Unset = Some Unset
end_kind precision order width (Num k) = option_map Num (ordered precision order width k)
end_kind precision order width (Ptr r k) = Some Unset

-- What an edge of a comparison leaves of both its kinds. A register that is compared with itself is
-- tightened and no more.
abbrev pub both_nums : Plain × Plain → PlainKind × PlainKind
both_nums s = (Num s.0, Num s.1)

abbrev pub same_num : Plain → PlainKind × PlainKind
same_num n = (Num n, Num n)

-- what is left of both; what isn't a number stays as it is
abbrev pub along_kinds : Precision → OpWidth → Comparison → Bool → Bool → PlainKind → PlainKind →
    Option (PlainKind × PlainKind)
along_kinds precision bits comparison taken true (Num k) (Num l) = option_map same_num (tighten precision k)
along_kinds precision bits comparison taken false (Num k) (Num l) =
    option_map both_nums (along precision bits comparison taken k l)
along_kinds precision bits comparison taken same Unset y = Some (Unset, y)
along_kinds precision bits comparison taken same (Num k) Unset = Some (Num k, Unset)
along_kinds precision bits comparison taken same (Num k) (Ptr q l) = Some (Num k, Ptr q l)
along_kinds precision bits comparison taken same (Ptr r k) y = Some (Ptr r k, y)

-- The last place of an access at a distance from an offset: the upper bound of their sum; none if
-- no place is left.
abbrev pub last_place : Precision → Plain → ℕ → Option Plain
last_place precision k distance = transferred precision Bits64 Add k (constant distance)

-- all of the w bytes at those places are among the first `size`
abbrev pub places_fit : Option Plain → ℕ → ℕ → Bool
places_fit None w size = true
places_fit (Some place) w size = nat_le (place.high + w) size

-- The last place of an access at a distance from an offset: the upper bound of their sum; none if
-- no place is left.
abbrev pub access_fits : Precision → Plain → ℕ → ℕ → ℕ → Bool
access_fits precision k distance w size = places_fit (last_place precision k distance) w size

-- a range of a length from an offset on is within the first `size` bytes
abbrev pub range_fits : Plain → Plain → ℕ → Bool
range_fits at len size = nat_le (at.high + len.high) size

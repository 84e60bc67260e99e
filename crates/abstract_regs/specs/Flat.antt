-- What a frame says of registers that are plain numbers: of a pointer, its address, wherever the
-- regions lie.
use Rattle.std.specs.Prelude.{◌≡◌, ℕ, ◌+◌, ◌%◌, ◌^◌, List, [], ◌∷◌, Option, Some, None, map}
use Rattle.std.specs.Option.{option_map}
use Rattle.bpf_decode.specs.declared.region.Region.{Region}
use Rattle.bpf_decode.specs.declared.value.Value.{Value}
use Rattle.bpf_decode.specs.declared.value.Value.TheVariants as values
use Rattle.abstract_num.specs.Plain.{Holds}
use Rattle.abstract_regs.specs.Kind.{PlainKind, Unset, Num, Ptr}
use Rattle.abstract_regs.specs.Frame.{HoldsEach}

-- where the regions lie
abbrev pub Bases : Type 0
Bases = Region → ℕ

-- the number that a value is: of a pointer, its offset from the region's base
abbrev pub number_of : Bases → Value → ℕ
number_of base (values.Num n) = n
number_of base (values.Ptr r at) = (base r + at) % 2 ^ 64

-- the registers as plain numbers; an unset one stays so
abbrev pub flat_registers : Bases → List (Option Value) → List (Option ℕ)
flat_registers base cs = map (option_map (number_of base)) cs

-- The numbers that a register of a kind may have: held ones, or a region's base plus a held offset.
-- An unset one may have any, or none.
abbrev pub HoldsFlat : Bases → PlainKind → Option ℕ → Type 0
HoldsFlat base Unset c = Unit {0}
HoldsFlat base (Num k) None = ⊥
HoldsFlat base (Num k) (Some n) = Holds k n
HoldsFlat base (Ptr r k) None = ⊥
HoldsFlat base (Ptr r k) (Some n) = (at : ℕ) × Holds k at × (n ≡ (base r + at) % 2 ^ 64)

-- the same of each register, in their order
abbrev pub HoldsFlatEach : Bases → List PlainKind → List (Option ℕ) → Type 0
HoldsFlatEach base [] cs = Unit {0}
HoldsFlatEach base (x ∷ xs) [] = ⊥
HoldsFlatEach base (x ∷ xs) (c ∷ cs) = HoldsFlat base x c × HoldsFlatEach base xs cs

-- Registers that a frame holds, it holds as plain numbers too, wherever the regions lie.
abbrev pub FlatRegistersHold : Type 0
FlatRegistersHold =
    (base : Bases) (kinds : List PlainKind) (cs : List (Option Value)) → HoldsEach kinds cs →
    HoldsFlatEach base kinds (flat_registers base cs)

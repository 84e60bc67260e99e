-- What a frame holds of values, it holds of their numbers.
use Rattle.std.proofs.Common.{◌+◌, ◌%◌, ◌^◌, [], ◌∷◌, Option, Some, None, ap, sym}
use Rattle.std.specs.Option.{option_map}
use Rattle.bpf_decode.specs.declared.region.Region.{Region}
use Rattle.bpf_decode.specs.declared.value.Value.{Value}
use Rattle.bpf_decode.specs.declared.value.Value.TheVariants as values
use Rattle.abstract_regs.specs.Kind.{PlainKind, Unset, Num, Ptr, HoldsKind}
use Rattle.abstract_regs.specs.Flat.{Bases, number_of, HoldsFlat, FlatRegistersHold}

flat_holds : (base : Bases) (x : PlainKind) (c : Option Value) → HoldsKind x c → HoldsFlat base x (option_map (number_of base) c)
flat_holds base Unset c h = tt
flat_holds base (Num k) None h = absurd h
flat_holds base (Num k) (Some (values.Num n)) h = h
flat_holds base (Num k) (Some (values.Ptr r at)) h = absurd h
flat_holds base (Ptr r k) None h = absurd h
flat_holds base (Ptr r k) (Some (values.Num n)) h = absurd h
flat_holds base (Ptr r k) (Some (values.Ptr q at)) h = (at, h.1, ap (λ (x : Region). (base x + at) % 2 ^ 64) (sym h.0))

pub flat_registers_hold : FlatRegistersHold
flat_registers_hold base [] cs h = tt
flat_registers_hold base (x ∷ xs) [] h = absurd h
flat_registers_hold base (x ∷ xs) (c ∷ cs) h = (flat_holds base x c h.0, flat_registers_hold base xs cs h.1)

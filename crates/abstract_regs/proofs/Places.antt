-- The entry frame, and accesses and ranges that fit.
use Rattle.std.proofs.Common.{◌≡◌, ℕ, zero, suc, ◌+◌, ◌%◌, ◌^◌, ◌≤◌, List, Option, Some, None, true, refl, inl, sym, subst, arith}
use Rattle.std.specs.Prelude.{replicate}
use Rattle.std.proofs.lemmas.Bool.{leb-true}
use Rattle.bpf_decode.specs.declared.operation.OpWidth.TheVariants.{Bits64}
use Rattle.bpf_decode.specs.declared.operation.Arithmetic.TheVariants.{Add}
use Rattle.bpf_decode.specs.declared.value.Value.{Value}
use Rattle.bpf_decode.specs.declared.value.Value.TheVariants as values
use Rattle.abstract_num.specs.Plain.{Plain, constant}
use Rattle.abstract_num.specs.Tighten.{tighten}
use Rattle.abstract_num.specs.Transfer.{ranged}
use Rattle.abstract_num.specs.Keeping.{HeldIn, ConstantsFit, ConstantHolds, ArithmeticKeeps, RangeKeeps}
use Rattle.abstract_regs.specs.Kind.{HoldsKind, Num, places_fit, last_place}
use Rattle.abstract_regs.specs.Frame.{number_kind, HoldsEach}
use Rattle.abstract_regs.specs.Link.{no_link, HoldsLink, NameBelow}
use Rattle.abstract_regs.specs.Links.{slot_place}
use Rattle.abstract_regs.specs.Moves.{value_at, LinksAre}
use Rattle.abstract_regs.proofs.LinkJoins.{none_in}
use Rattle.abstract_regs.specs.Laws.{EntryHolds, AccessesFit, RangesFit}

number_held : (o : Option Plain) (n : ℕ) → HeldIn o n → HoldsKind (number_kind o) (Some (values.Num n))
number_held None n h = tt
number_held (Some k) n h = h

zeros_hold : ConstantHolds → (k : ℕ) → HoldsEach (replicate k (Num (constant 0))) (replicate k (Some (values.Num 0)))
zeros_hold constants zero = tt
zeros_hold constants (suc k) = (constants 0 (omega arith), zeros_hold constants k)

free_links : (k : ℕ) (cs vs : List (Option Value)) → LinksAre (replicate k no_link) cs vs (λ j. 0)
free_links k cs vs = record {
  registers = λ r few. subst (λ l. HoldsLink (λ j. 0) l (value_at cs r)) (sym (none_in k r)) tt;
  slots = λ j. subst (λ l. HoldsLink (λ j. 0) l (value_at vs j)) (sym (none_in k (slot_place j))) tt;
}

pub entry_holds : ConstantHolds → RangeKeeps → EntryHolds
entry_holds constants ranges precision in_cap stack count places n p q le =
    let zero_held = constants 0 (omega arith) in
    let few = number_held (tighten precision (ranged 0 in_cap)) n (ranges precision 0 in_cap n (omega arith) (omega arith) le) in
    record {
      registers = (tt, ((refl, zero_held), (few, ((refl, zero_held), (tt, (tt, (tt, (tt, (tt, (tt, ((refl, constants stack q), tt)))))))))));
      slots = zeros_hold constants count;
      links = λ cs vs. (λ j. 0, free_links places cs vs);
      names = λ p place. subst (NameBelow p) (sym (none_in places place)) (inl refl);
    }

fits_at : (o : Option Plain) (at w size : ℕ) → HeldIn o at → places_fit o w size ≡ true → at + w ≤ size
fits_at None at w size h e = absurd h
fits_at (Some place) at w size h e = let le = leb-true (place.high + w) size e in omega (arith, le, h.below)

pub accesses_fit : ConstantHolds → ConstantsFit → ArithmeticKeeps → AccessesFit
accesses_fit constants fit sums precision k f distance w size small e at h =
    fits_at (last_place precision k distance) ((at + distance) % 2 ^ 64) w size
    (sums precision Bits64 Add k (constant distance) f (fit distance small) at distance h (constants distance small)) e

pub ranges_fit : RangesFit
ranges_fit k l size e at n h g = let le = leb-true (k.high + l.high) size e in omega (arith, le, h.below, g.below)

-- Slots that a frame holds, as the bytes that they are in a layout. The lemmas on cells and bytes
-- are the machine's own, which other crates don't see.
use Rattle.std.proofs.Common.{◌≡◌, ℕ, zero, suc, ◌+◌, ◌/◌, ◌%◌, ◌^◌, ◌<◌, List, [], ◌∷◌, Option, Some, None, Bool, true, false, refl, ap, ◌∙◌, sym, subst, arith, take, drop}
use Rattle.std.specs.Prelude.{map, ◌==◌, ◌&&◌}
use Rattle.std.proofs.Math.Nat.{pow-succ'}
use Rattle.std.proofs.lemmas.Bool.{and_parts, eqb-true}
use Rattle.std.proofs.lemmas.List.{take-map, drop-map}
use Rattle.std.proofs.lemmas.Option.{none-some, same_Some}
use Rattle.bpf_decode.specs.declared.region.Region.{Region}
use Rattle.bpf_decode.specs.declared.region.Region.TheVariants.{Input, Output, Stack}
use Rattle.bpf_decode.specs.declared.value.Value.{Value}
use Rattle.bpf_decode.specs.declared.value.Value.TheVariants as values
use Rattle.bpf_machine.specs.State.{◌>>=◌, only, le_value, le_bytes}
use Rattle.bpf_machine.specs.Flat.{Layout, base}
use Rattle.bpf_machine.specs.Typed.{Cell, equal_regions, Byte, PartOf, parts_from, are_parts, place_of, plain_bytes, number_or, address, byte_of}
use Rattle.bpf_machine.specs.Slots.{slot_of, slot_values}
use Rattle.abstract_num.specs.Plain.{Holds}
use Rattle.abstract_regs.specs.Kind.{PlainKind, Unset, Num, Ptr, HoldsKind}
use Rattle.abstract_regs.specs.Frame.{HoldsEach}
use Rattle.abstract_regs.specs.Flat.{HoldsFlat, HoldsFlatEach}
use Rattle.tests_verdict.specs.FlatSlots.{slot_numbers, FlatSlotsHold}

equal_means : (r q : Region) → equal_regions r q ≡ true → r ≡ q
equal_means Input Input h = refl
equal_means Input Output h = absurd cc
equal_means Input Stack h = absurd cc
equal_means Output Input h = absurd cc
equal_means Output Output h = refl
equal_means Output Stack h = absurd cc
equal_means Stack Input h = absurd cc
equal_means Stack Output h = absurd cc
equal_means Stack Stack h = refl

-- the number of w bytes of a number below 256 ^ w
le_value-le_bytes : (w n : ℕ) → n < 256 ^ w → le_value (le_bytes w n) ≡ n
le_value-le_bytes zero n h = omega (arith, h)
le_value-le_bytes (suc w) n h =
    let power = pow-succ' 256 w in
    let less : n / 256 < 256 ^ w = omega arith in
    let rest = le_value-le_bytes w (n / 256) less in
    omega arith

-- cells that are parts of one place in their order are those
parts_are : (r : Region) (at k n : ℕ) (cs : List Cell) → are_parts r at k n cs ≡ true → cs ≡ parts_from r at k n
parts_are r at k zero [] h = refl
parts_are r at k zero (c ∷ cs) h = absurd cc
parts_are r at k (suc n) [] h = absurd cc
parts_are r at k (suc n) (Byte b ∷ cs) h = absurd cc
parts_are r at k (suc n) (PartOf q b j ∷ cs) h =
    let both = and_parts (equal_regions r q && ((at == b) && (k == j))) (are_parts r at (k + 1) n cs) h in
    let first = and_parts (equal_regions r q) ((at == b) && (k == j)) both.0 in
    let second = and_parts (at == b) (k == j) first.1 in
    let region : q ≡ r = sym (equal_means r q first.0) in
    let place : b ≡ at = sym (eqb-true at b second.0) in
    let number : j ≡ k = sym (eqb-true k j second.1) in
    rw (region, place, number, parts_are r at (k + 1) n cs both.1) refl

module _ (lay : Layout) where
  address_small : (r : Region) (at : ℕ) → address lay (values.Ptr r at) < 256 ^ 8
  address_small r at = omega arith

  onto : (b : ℕ) (cs : List Cell) (o : Option (List ℕ)) (bytes : List ℕ) → (o >>= λ bs. Some (b ∷ bs)) ≡ Some bytes → ((bs : List ℕ) → o ≡ Some bs → map (byte_of lay) cs ≡ bs) → b ∷ map (byte_of lay) cs ≡ bytes
  onto b cs None bytes h more = absurd (none-some bytes h)
  onto b cs (Some bs) bytes h more = ap (λ (xs : List ℕ). b ∷ xs) (more bs refl) ∙ same_Some (b ∷ bs) bytes h

  -- cells that are bytes are those
  plain_image : (cs : List Cell) (bytes : List ℕ) → plain_bytes cs ≡ Some bytes → map (byte_of lay) cs ≡ bytes
  plain_image [] bytes h = same_Some [] bytes h
  plain_image (Byte b ∷ cs) bytes h = onto b cs (plain_bytes cs) bytes h (plain_image cs)
  plain_image (PartOf r at k ∷ cs) bytes h = absurd (none-some bytes h)

  placed : (r : Region) (at : ℕ) (cs : List Cell) (v : Value) (b : Bool) → b ≡ are_parts r at 0 8 cs → only b (Some (values.Ptr r at)) ≡ Some v → le_value (map (byte_of lay) cs) ≡ address lay v
  placed r at cs v false e h = absurd (none-some v h)
  placed r at cs v true e h =
      let are = parts_are r at 0 8 cs (sym e) in
      let is : values.Ptr r at ≡ v = same_Some (values.Ptr r at) v h in
      ap (λ (xs : List Cell). le_value (map (byte_of lay) xs)) are
      ∙ le_value-le_bytes 8 (address lay (values.Ptr r at)) (address_small r at)
      ∙ ap (address lay) is

  place_image : (cs : List Cell) (v : Value) → place_of cs ≡ Some v → le_value (map (byte_of lay) cs) ≡ address lay v
  place_image [] v h = absurd (none-some v h)
  place_image (Byte b ∷ cs) v h = absurd (none-some v h)
  place_image (PartOf r at k ∷ cs) v h = placed r at (PartOf r at k ∷ cs) v (are_parts r at 0 8 (PartOf r at k ∷ cs)) refl h

  number_image : (cs : List Cell) (v : Value) (o : Option (List ℕ)) → o ≡ plain_bytes cs → number_or o (place_of cs) ≡ Some v → le_value (map (byte_of lay) cs) ≡ address lay v
  number_image cs v None e h = place_image cs v h
  number_image cs v (Some bytes) e h =
      ap le_value (plain_image cs bytes (sym e)) ∙ ap (address lay) (same_Some (values.Num (le_value bytes)) v h)

  -- what a slot is, its bytes are
  slot_image : (cs : List Cell) (v : Value) → slot_of cs ≡ Some v → le_value (map (byte_of lay) cs) ≡ address lay v
  slot_image cs v h = number_image cs v (plain_bytes cs) refl h

  -- a value that is held, in a layout
  value_holds : (x : PlainKind) (c : Option Value) (n : ℕ) → ((v : Value) → c ≡ Some v → n ≡ address lay v) → HoldsKind x c → HoldsFlat (base lay) x (Some n)
  value_holds Unset c n e h = tt
  value_holds (Num k) None n e h = absurd h
  value_holds (Num k) (Some (values.Num m)) n e h = subst (λ i. Holds k i) (sym (e (values.Num m) refl)) h
  value_holds (Num k) (Some (values.Ptr r at)) n e h = absurd h
  value_holds (Ptr r k) None n e h = absurd h
  value_holds (Ptr r k) (Some (values.Num m)) n e h = absurd h
  value_holds (Ptr r k) (Some (values.Ptr q at)) n e h =
      (at, h.1, e (values.Ptr q at) refl ∙ ap (λ (x : Region). (base lay x + at) % 2 ^ 64) (sym h.0))

  slot_holds : (x : PlainKind) (cs : List Cell) → HoldsKind x (slot_of (take 8 cs)) → HoldsFlat (base lay) x (Some (le_value (take 8 (map (byte_of lay) cs))))
  slot_holds x cs h =
      value_holds x (slot_of (take 8 cs)) (le_value (take 8 (map (byte_of lay) cs)))
      (λ v e. ap le_value (take-map (byte_of lay) 8 cs) ∙ slot_image (take 8 cs) v e)
      h

  slots_hold : (kinds : List PlainKind) (count : ℕ) (cs : List Cell) → HoldsEach kinds (slot_values count cs) → HoldsFlatEach (base lay) kinds (slot_numbers count (map (byte_of lay) cs))
  slots_hold [] count cs h = tt
  slots_hold (x ∷ xs) zero cs h = absurd h
  slots_hold (x ∷ xs) (suc n) cs h =
      let rest = slots_hold xs n (drop 8 cs) h.1 in
      (slot_holds x cs h.0, subst (λ bytes. HoldsFlatEach (base lay) xs (slot_numbers n bytes)) (sym (drop-map (byte_of lay) 8 cs)) rest)

pub flat_slots_hold : FlatSlotsHold
flat_slots_hold lay kinds count m h = slots_hold lay kinds count m.stack h

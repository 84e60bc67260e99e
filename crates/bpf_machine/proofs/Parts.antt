-- Cells, and the bytes that they are in a layout.
use Rattle.std.proofs.Common.{◌≡◌, ℕ, zero, suc, ◌+◌, ◌/◌, ◌%◌, ◌^◌, ◌<◌, List, [], ◌∷◌, ◌++◌, Option, Some, None, Bool, true, false, refl, ap, ◌∙◌, sym, arith, length, take, drop}
use Rattle.std.specs.Prelude.{map, ◌==◌, ◌&&◌}
use Rattle.std.proofs.Math.Nat.{pow-succ'}
use Rattle.std.proofs.lemmas.Bool.{and_parts, eqb-true}
use Rattle.std.proofs.lemmas.List.{map-append, take-map, drop-map, length-map}
use Rattle.std.proofs.lemmas.Option.{none-some, same_Some}
use Rattle.bpf_decode.specs.declared.region.Region.{Region}
use Rattle.bpf_decode.specs.declared.region.Region.TheVariants.{Input, Output, Stack}
use Rattle.bpf_decode.specs.declared.value.Value.{Value}
use Rattle.bpf_decode.specs.declared.value.Value.TheVariants.{Num, Ptr}
use Rattle.object_store.specs.Object.{part}
use Rattle.bpf_machine.specs.State.{◌>>=◌, only, le_value, le_bytes, Memory, cells, written, put}
use Rattle.bpf_machine.specs.Helper.{bytes_in, write_room}
use Rattle.bpf_machine.specs.Flat.{Layout}
use Rattle.bpf_machine.specs.Typed.{Cell, equal_regions, Byte, PartOf, TypedMemory, as_cells, parts_from, parts_of, are_parts, place_of, plain_bytes, is_slot, number_or, value_of, cells_at, over, put_bytes, stored, typed_text, typed_room, plain, address, byte_of, image_memory}
use Rattle.bpf_machine.proofs.Sim.{Sim, Any, same, sim_some, sim_guard}

pub equal_means : (r q : Region) → equal_regions r q ≡ true → r ≡ q
equal_means Input Input h = refl
equal_means Input Output h = absurd cc
equal_means Input Stack h = absurd cc
equal_means Output Input h = absurd cc
equal_means Output Output h = refl
equal_means Output Stack h = absurd cc
equal_means Stack Input h = absurd cc
equal_means Stack Output h = absurd cc
equal_means Stack Stack h = refl

-- the number of w bytes of a number below 256 ^ w
pub le_value-le_bytes : (w n : ℕ) → n < 256 ^ w → le_value (le_bytes w n) ≡ n
le_value-le_bytes zero n h = omega (arith, h)
le_value-le_bytes (suc w) n h =
    let power = pow-succ' 256 w in
    let less : n / 256 < 256 ^ w = omega arith in
    let rest = le_value-le_bytes w (n / 256) less in
    omega arith

-- cells that are parts of one place in their order are those
parts_are : (r : Region) (at k n : ℕ) (cs : List Cell) → are_parts r at k n cs ≡ true → cs ≡ parts_from r at k n
parts_are r at k zero [] h = refl
parts_are r at k zero (c ∷ cs) h = absurd cc
parts_are r at k (suc n) [] h = absurd cc
parts_are r at k (suc n) (Byte b ∷ cs) h = absurd cc
parts_are r at k (suc n) (PartOf q b j ∷ cs) h =
    let both = and_parts (equal_regions r q && ((at == b) && (k == j))) (are_parts r at (k + 1) n cs) h in
    let first = and_parts (equal_regions r q) ((at == b) && (k == j)) both.0 in
    let second = and_parts (at == b) (k == j) first.1 in
    let region : q ≡ r = sym (equal_means r q first.0) in
    let place : b ≡ at = sym (eqb-true at b second.0) in
    let number : j ≡ k = sym (eqb-true k j second.1) in
    rw (region, place, number, parts_are r at (k + 1) n cs both.1) refl

module _ (lay : Layout) where
  address_small : (r : Region) (at : ℕ) → address lay (Ptr r at) < 256 ^ 8
  address_small r at = omega arith

  pub cells_image : (bytes : List ℕ) → map (byte_of lay) (as_cells bytes) ≡ bytes
  cells_image [] = refl
  cells_image (b ∷ bytes) = ap (λ (bs : List ℕ). b ∷ bs) (cells_image bytes)

  onto : (b : ℕ) (cs : List Cell) (o : Option (List ℕ)) (bytes : List ℕ) → (o >>= λ bs. Some (b ∷ bs)) ≡ Some bytes → ((bs : List ℕ) → o ≡ Some bs → map (byte_of lay) cs ≡ bs) → b ∷ map (byte_of lay) cs ≡ bytes
  onto b cs None bytes h more = absurd (none-some bytes h)
  onto b cs (Some bs) bytes h more = ap (λ (xs : List ℕ). b ∷ xs) (more bs refl) ∙ same_Some (b ∷ bs) bytes h

  pub plain_image : (cs : List Cell) (bytes : List ℕ) → plain_bytes cs ≡ Some bytes → map (byte_of lay) cs ≡ bytes
  plain_image [] bytes h = same_Some [] bytes h
  plain_image (Byte b ∷ cs) bytes h = onto b cs (plain_bytes cs) bytes h (plain_image cs)
  plain_image (PartOf r at k ∷ cs) bytes h = absurd (none-some bytes h)

  placed : (r : Region) (at : ℕ) (cs : List Cell) (v : Value) (b : Bool) → b ≡ are_parts r at 0 8 cs → only b (Some (Ptr r at)) ≡ Some v → le_value (map (byte_of lay) cs) ≡ address lay v
  placed r at cs v false e h = absurd (none-some v h)
  placed r at cs v true e h =
      let are = parts_are r at 0 8 cs (sym e) in
      let is : Ptr r at ≡ v = same_Some (Ptr r at) v h in
      ap (λ (xs : List Cell). le_value (map (byte_of lay) xs)) are
      ∙ le_value-le_bytes 8 (address lay (Ptr r at)) (address_small r at)
      ∙ ap (address lay) is

  place_image : (cs : List Cell) (v : Value) → place_of cs ≡ Some v → le_value (map (byte_of lay) cs) ≡ address lay v
  place_image [] v h = absurd (none-some v h)
  place_image (Byte b ∷ cs) v h = absurd (none-some v h)
  place_image (PartOf r at k ∷ cs) v h = placed r at (PartOf r at k ∷ cs) v (are_parts r at 0 8 (PartOf r at k ∷ cs)) refl h

  slot_image : (cs : List Cell) (v : Value) (b : Bool) → only b (place_of cs) ≡ Some v → le_value (map (byte_of lay) cs) ≡ address lay v
  slot_image cs v false h = absurd (none-some v h)
  slot_image cs v true h = place_image cs v h

  number_image : (p : Region × ℕ) (w : ℕ) (cs : List Cell) (v : Value) (o : Option (List ℕ)) → o ≡ plain_bytes cs → number_or o (only (is_slot p w) (place_of cs)) ≡ Some v → le_value (map (byte_of lay) cs) ≡ address lay v
  number_image p w cs v None e h = slot_image cs v (is_slot p w) h
  number_image p w cs v (Some bytes) e h =
      let is : Num (le_value bytes) ≡ v = same_Some (Num (le_value bytes)) v h in
      ap le_value (plain_image cs bytes (sym e)) ∙ ap (address lay) is

  -- the cells at a place are the bytes there
  pub cells_at_image : (m : TypedMemory) (r : Region) (at w : ℕ) → map (byte_of lay) (cells_at m r at w) ≡ part (cells (image_memory lay m) r) at w
  cells_at_image m Input at w = cells_image (part m.input at w)
  cells_at_image m Output at w = cells_image (part m.output at w)
  cells_at_image m Stack at w =
      sym (take-map (byte_of lay) w (drop at m.stack)) ∙ ap (take w) (sym (drop-map (byte_of lay) at m.stack))

  over_image : (cs : List Cell) (at : ℕ) (new : List Cell) → map (byte_of lay) (over cs at new) ≡ written (map (byte_of lay) cs) at (map (byte_of lay) new)
  over_image cs at new =
      map-append (byte_of lay) (take at cs) (new ++ drop (at + length new) cs)
      ∙ ap (λ (xs : List ℕ). map (byte_of lay) (take at cs) ++ xs) (map-append (byte_of lay) new (drop (at + length new) cs))
      ∙ ap (λ (xs : List ℕ). xs ++ (map (byte_of lay) new ++ map (byte_of lay) (drop (at + length new) cs))) (sym (take-map (byte_of lay) at cs))
      ∙ ap (λ (xs : List ℕ). take at (map (byte_of lay) cs) ++ (map (byte_of lay) new ++ xs)) (sym (drop-map (byte_of lay) (at + length new) cs))
      ∙ ap (λ (n : ℕ). take at (map (byte_of lay) cs) ++ (map (byte_of lay) new ++ drop (at + n) (map (byte_of lay) cs))) (sym (length-map new (byte_of lay)))

  abbrev with_stack : Memory → List ℕ → Memory
  with_stack m xs = record m { stack = xs }

  pub put_image : (m : TypedMemory) (r : Region) (at : ℕ) (bytes : List ℕ) → image_memory lay (put_bytes m r at bytes) ≡ put (image_memory lay m) r at bytes
  put_image m Input at bytes = refl
  put_image m Output at bytes = refl
  put_image m Stack at bytes =
      ap (with_stack (image_memory lay m)) (over_image m.stack at (as_cells bytes) ∙ ap (written (map (byte_of lay) m.stack) at) (cells_image bytes))

  pub put_place_image : (m : TypedMemory) (at : ℕ) (r : Region) (b : ℕ) → image_memory lay (record m { stack = over m.stack at (parts_of r b) }) ≡ put (image_memory lay m) Stack at (le_bytes 8 (address lay (Ptr r b)))
  put_place_image m at r b = ap (with_stack (image_memory lay m)) (over_image m.stack at (parts_of r b))

  pub plain_memory_image : (m : Memory) → image_memory lay (plain m) ≡ m
  plain_memory_image m = ap (with_stack m) (cells_image m.stack)

  -- ---- as the flat machine has them

  pub value_sim : (m : TypedMemory) (p : Region × ℕ) (w : ℕ) → Sim Any (address lay) (value_of p w (cells_at m p.0 p.1 w)) (Some (le_value (part (cells (image_memory lay m) p.0) p.1 w)))
  value_sim m p w = record {
    by = λ v e. (tt, ap (λ (n : ℕ). Some n) (ap le_value (sym (cells_at_image m p.0 p.1 w)) ∙ number_image p w (cells_at m p.0 p.1 w) v (plain_bytes (cells_at m p.0 p.1 w)) refl e));
  }

  pub bytes_sim : (m : TypedMemory) (p : Region × ℕ) (w : ℕ) → Sim Any same (plain_bytes (cells_at m p.0 p.1 w)) (Some (part (cells (image_memory lay m) p.0) p.1 w))
  bytes_sim m p w = record {
    by = λ bytes e. (tt, ap (λ (bs : List ℕ). Some bs) (sym (cells_at_image m p.0 p.1 w) ∙ plain_image (cells_at m p.0 p.1 w) bytes e));
  }

  pub text_sim : (m : TypedMemory) (p : Option (Region × ℕ)) (n : ℕ) → Sim Any same (typed_text m p n) (Some (bytes_in (image_memory lay m) p n))
  text_sim m None n = sim_some _ _ _ _ tt refl
  text_sim m (Some p) n = bytes_sim m p n

  pub room_image : (m : TypedMemory) (p : Option (Region × ℕ)) (bytes : List ℕ) → write_room (image_memory lay m) p bytes ≡ image_memory lay (typed_room m p bytes)
  room_image m None bytes = refl
  room_image m (Some p) bytes = sym (put_image m p.0 p.1 bytes)

  slot_is : (m : TypedMemory) (p : Region × ℕ) (w : ℕ) (r : Region) (at : ℕ) → is_slot p w ≡ true → put (image_memory lay m) p.0 p.1 (le_bytes w (address lay (Ptr r at))) ≡ image_memory lay (record m { stack = over m.stack p.1 (parts_of r at) })
  slot_is m p w r at h =
      let two = and_parts (equal_regions p.0 Stack && (w == 8)) (p.1 % 8 == 0) h in
      let one = and_parts (equal_regions p.0 Stack) (w == 8) two.0 in
      let region : p.0 ≡ Stack = equal_means p.0 Stack one.0 in
      let eight : w ≡ 8 = eqb-true w 8 one.1 in
      ap (λ (q : Region). put (image_memory lay m) q p.1 (le_bytes w (address lay (Ptr r at)))) region
      ∙ ap (λ (k : ℕ). put (image_memory lay m) Stack p.1 (le_bytes k (address lay (Ptr r at)))) eight
      ∙ sym (put_place_image m p.1 r at)

  pub stored_sim : (m : TypedMemory) (p : Region × ℕ) (w : ℕ) (v : Value) → Sim Any (image_memory lay) (stored m p w v) (Some (put (image_memory lay m) p.0 p.1 (le_bytes w (address lay v))))
  stored_sim m p w (Num n) = sim_some _ _ _ _ tt (sym (put_image m p.0 p.1 (le_bytes w n)))
  stored_sim m p w (Ptr r at) = sim_guard _ _ (is_slot p w) _ _ (λ yes. sim_some _ _ _ _ tt (slot_is m p w r at yes))

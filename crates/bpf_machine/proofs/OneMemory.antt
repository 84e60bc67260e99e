-- The regions' lists are one memory.
use Rattle.std.proofs.Common.{◌≡◌, ℕ, ◌+◌, ◌-◌, ◌<◌, ◌≤◌, List, Option, Some, None, Bool, true, false, refl, ap, ◌∙◌, sym, subst, arith, length, ◌⊎◌, inl, inr}
use Rattle.std.specs.Prelude.{nat_le, slice_get, if◌then◌else◌}
use Rattle.std.proofs.lemmas.Bool.{and_parts, leb-true, cases_lt}
use Rattle.std.proofs.lemmas.Option.{none-some, same_Some}
use Rattle.bpf_decode.specs.declared.access.SignedWidth.{SignedWidth}
use Rattle.bpf_decode.specs.Instruction.{signed_byte_count}
use Rattle.bpf_decode.specs.Arithmetic.{signed_load_value}
use Rattle.bpf_decode.specs.declared.region.Region.{Region}
use Rattle.bpf_decode.specs.declared.region.Region.TheVariants.{Input, Output, Stack}
use Rattle.bpf_machine.specs.declared.caps.Caps.{Caps}
use Rattle.object_store.specs.Object.{part}
use Rattle.bpf_machine.specs.State.{◌>>=◌, only, le_value, le_bytes, Memory, cells, written, put, may_store, size, State, set_reg}
use Rattle.bpf_machine.specs.Flat.{Layout, base, IsLayout, holds, find, load, load_signed}
use Rattle.bpf_machine.specs.Address.{byte_at, IsMemory, Reads, Writes, StandsAt, PlacesAreAddresses, NoByteElsewhere, LoadsAreOfAddresses, SignedLoadsAreOfAddresses, StoresAreAtAddresses}
use Rattle.bpf_machine.proofs.Cells.{part_at, part_length, length-le_bytes, written_at, written_below, written_above, length-written}
use Rattle.bpf_machine.proofs.Place.{find_at}

-- the place of w bytes at an address
pub record IsPlace (caps : Caps) (lay : Layout) (at w : ℕ) (p : Region × ℕ) : Type 0 where
  pub address : base lay p.0 + p.1 ≡ at
  pub inside : p.1 + w ≤ size caps p.0

place_of : (caps : Caps) (lay : Layout) (r : Region) (at w : ℕ) → holds caps lay r at w ≡ true → IsPlace caps lay at w (r, at - base lay r)
place_of caps lay r at w h =
    let two = and_parts (nat_le (base lay r) at) (nat_le (at + w) (base lay r + size caps r)) h in
    let low : base lay r ≤ at = leb-true _ _ two.0 in
    let high : at + w ≤ base lay r + size caps r = leb-true _ _ two.1 in
    record { address = omega arith; inside = omega arith }

picked : (caps : Caps) (lay : Layout) (at w : ℕ) (a b c : Bool) (p : Region × ℕ) → holds caps lay Input at w ≡ a → holds caps lay Output at w ≡ b → holds caps lay Stack at w ≡ c → (if a then Some (Input, at - lay.input) else if b then Some (Output, at - lay.output) else if c then Some (Stack, at - lay.stack) else None) ≡ Some p → IsPlace caps lay at w p
picked caps lay at w true b c p i o s e = subst (IsPlace caps lay at w) (same_Some _ _ e) (place_of caps lay Input at w i)
picked caps lay at w false true c p i o s e = subst (IsPlace caps lay at w) (same_Some _ _ e) (place_of caps lay Output at w o)
picked caps lay at w false false true p i o s e = subst (IsPlace caps lay at w) (same_Some _ _ e) (place_of caps lay Stack at w s)
picked caps lay at w false false false p i o s e = absurd (none-some p e)

pub find_place : (caps : Caps) (lay : Layout) (at w : ℕ) (p : Region × ℕ) → find caps lay at w ≡ Some p → IsPlace caps lay at w p
find_place caps lay at w p e =
    picked caps lay at w (holds caps lay Input at w) (holds caps lay Output at w) (holds caps lay Stack at w) p refl refl refl e

pub places_are_addresses : PlacesAreAddresses
places_are_addresses caps lay ok m r place h =
    ap (λ o. o >>= λ p. slice_get (cells m p.0) p.1) (find_at caps lay ok r place 1 (omega arith) (omega arith))

pub no_byte_elsewhere : NoByteElsewhere
no_byte_elsewhere caps lay m at out = by (find caps lay at 1) refl
  where
    by : (o : Option (Region × ℕ)) → find caps lay at 1 ≡ o → byte_at caps lay m at ≡ None
    by None e = ap (λ o. o >>= λ p. slice_get (cells m p.0) p.1) e
    by (Some p) e =
        let i = find_place caps lay at 1 p e in
        absurd (out p.0 (omega (arith, i.address), omega (arith, i.address, i.inside)))

module _ (caps : Caps) (lay : Layout) (ok : IsLayout caps lay) where
  pub reads : (m : Memory) (at w : ℕ) (p : Region × ℕ) → IsMemory caps m → find caps lay at w ≡ Some p → Reads caps lay m at w (part (cells m p.0) p.1 w)
  reads m at w p sized e =
      let i = find_place caps lay at w p e in
      let long : p.1 + w ≤ length (cells m p.0) = omega (arith, i.inside, sized.lengths p.0) in
      let count = part_length (cells m p.0) p.1 w long in
      record {
        count = count;
        stand = record {
          each = λ k h.
              let below : k < w = omega (arith, h, count) in
              let e : at + k ≡ base lay p.0 + (p.1 + k) = omega (arith, i.address) in
              ap (λ a. byte_at caps lay m a) e
              ∙ places_are_addresses caps lay ok m p.0 (p.1 + k) (omega (arith, i.inside))
              ∙ sym (part_at (cells m p.0) p.1 w k below);
        };
      }

  loads : (w dst at : ℕ) (s t : State ℕ) → IsMemory caps s.memory → load caps lay w dst at s ≡ Some t → (bytes : List ℕ) × Reads caps lay s.memory at w bytes × (set_reg s dst (le_value bytes) ≡ Some t)
  loads w dst at s t sized h = by (find caps lay at w) refl h
    where
      by : (o : Option (Region × ℕ)) → find caps lay at w ≡ o → (o >>= λ p. set_reg s dst (le_value (part (cells s.memory p.0) p.1 w))) ≡ Some t → (bytes : List ℕ) × Reads caps lay s.memory at w bytes × (set_reg s dst (le_value bytes) ≡ Some t)
      by None e h = absurd (none-some t h)
      by (Some p) e h = (part (cells s.memory p.0) p.1 w, reads s.memory at w p sized e, h)

  signed_loads : (width : SignedWidth) (dst at : ℕ) (s t : State ℕ) → IsMemory caps s.memory → load_signed caps lay width dst at s ≡ Some t → (bytes : List ℕ) × Reads caps lay s.memory at (signed_byte_count width) bytes × (set_reg s dst (signed_load_value width (le_value bytes)) ≡ Some t)
  signed_loads width dst at s t sized h = by (find caps lay at (signed_byte_count width)) refl h
    where
      by : (o : Option (Region × ℕ)) → find caps lay at (signed_byte_count width) ≡ o → (o >>= λ p. set_reg s dst (signed_load_value width (le_value (part (cells s.memory p.0) p.1 (signed_byte_count width))))) ≡ Some t → (bytes : List ℕ) × Reads caps lay s.memory at (signed_byte_count width) bytes × (set_reg s dst (signed_load_value width (le_value bytes)) ≡ Some t)
      by None e h = absurd (none-some t h)
      by (Some p) e h = (part (cells s.memory p.0) p.1 (signed_byte_count width), reads s.memory at (signed_byte_count width) p sized e, h)

pub loads_are_of_addresses : LoadsAreOfAddresses
loads_are_of_addresses caps lay ok w dst at s t sized h = loads caps lay ok w dst at s t sized h

pub signed_loads_are_of_addresses : SignedLoadsAreOfAddresses
signed_loads_are_of_addresses caps lay ok width dst at s t sized h = signed_loads caps lay ok width dst at s t sized h

-- a region's bytes after a write into a region
pub put_same : (m : Memory) (r : Region) (place : ℕ) (bytes : List ℕ) → cells (put m r place bytes) r ≡ written (cells m r) place bytes
put_same m Input place bytes = refl
put_same m Output place bytes = refl
put_same m Stack place bytes = refl

pub put_other : (m : Memory) (r q : Region) (place : ℕ) (bytes : List ℕ) → (r ≡ q) ⊎ (cells (put m r place bytes) q ≡ cells m q)
put_other m Input Input place bytes = inl refl
put_other m Input Output place bytes = inr refl
put_other m Input Stack place bytes = inr refl
put_other m Output Input place bytes = inr refl
put_other m Output Output place bytes = inl refl
put_other m Output Stack place bytes = inr refl
put_other m Stack Input place bytes = inr refl
put_other m Stack Output place bytes = inr refl
put_other m Stack Stack place bytes = inl refl

module _ (caps : Caps) (lay : Layout) (m : Memory) (sized : IsMemory caps m) (at : ℕ) (bytes : List ℕ) (r : Region) (place : ℕ) (i : IsPlace caps lay at (length bytes) (r, place)) where
  long : place + length bytes ≤ length (cells m r)
  long = omega (arith, i.inside, sized.lengths r)

  pub put_sized : IsMemory caps (put m r place bytes)
  put_sized = record { lengths = λ q. by q (put_other m r q place bytes) }
    where
      same : length (cells (put m r place bytes) r) ≡ size caps r
      same = ap length (put_same m r place bytes) ∙ length-written (cells m r) place bytes long ∙ sized.lengths r

      by : (q : Region) → (r ≡ q) ⊎ (cells (put m r place bytes) q ≡ cells m q) → length (cells (put m r place bytes) q) ≡ size caps q
      by q (inl e) = subst (λ x. length (cells (put m r place bytes) x) ≡ size caps x) e same
      by q (inr e) = ap length e ∙ sized.lengths q

  stands : IsLayout caps lay → StandsAt caps lay (put m r place bytes) at bytes
  stands ok = record {
    each = λ k h.
        let e : at + k ≡ base lay r + (place + k) = omega (arith, i.address) in
        ap (λ a. byte_at caps lay (put m r place bytes) a) e
        ∙ places_are_addresses caps lay ok (put m r place bytes) r (place + k) (omega (arith, i.inside))
        ∙ ap (λ xs. slice_get xs (place + k)) (put_same m r place bytes)
        ∙ written_at (cells m r) place bytes long k h;
  }

  -- at a place of the region that is at another address
  beside : (j a : ℕ) → IsPlace caps lay a 1 (r, j) → ((at ≤ a) × (a < at + length bytes) → ⊥) → slice_get (cells (put m r place bytes) r) j ≡ slice_get (cells m r) j
  beside j a q out = ap (λ xs. slice_get xs j) (put_same m r place bytes) ∙ elim (cases_lt j place) [
    | inl low ↦ written_below (cells m r) place bytes long j low
    | inr high ↦ elim (cases_lt j (place + length bytes)) [
      | inl in_it ↦ absurd (out (omega (arith, i.address, q.address), omega (arith, i.address, q.address)))
      | inr above ↦ written_above (cells m r) place bytes long j above
    ]
  ]

  elsewhere : (a : ℕ) → ((at ≤ a) × (a < at + length bytes) → ⊥) → byte_at caps lay (put m r place bytes) a ≡ byte_at caps lay m a
  elsewhere a out = by (find caps lay a 1) refl
    where
      at_place : (q : Region) (j : ℕ) → IsPlace caps lay a 1 (q, j) → (r ≡ q) ⊎ (cells (put m r place bytes) q ≡ cells m q) → slice_get (cells (put m r place bytes) q) j ≡ slice_get (cells m q) j
      at_place q j p (inl e) = subst (λ x. IsPlace caps lay a 1 (x, j) → slice_get (cells (put m r place bytes) x) j ≡ slice_get (cells m x) j) e (λ p. beside j a p out) p
      at_place q j p (inr e) = ap (λ xs. slice_get xs j) e

      by : (o : Option (Region × ℕ)) → find caps lay a 1 ≡ o → (find caps lay a 1 >>= λ p. slice_get (cells (put m r place bytes) p.0) p.1) ≡ (find caps lay a 1 >>= λ p. slice_get (cells m p.0) p.1)
      by None e =
          ap (λ o. o >>= λ p. slice_get (cells (put m r place bytes) p.0) p.1) e
          ∙ sym (ap (λ o. o >>= λ p. slice_get (cells m p.0) p.1) e)
      by (Some p) e =
          ap (λ o. o >>= λ p. slice_get (cells (put m r place bytes) p.0) p.1) e
          ∙ at_place p.0 p.1 (find_place caps lay a 1 p e) (put_other m r p.0 place bytes)
          ∙ sym (ap (λ o. o >>= λ p. slice_get (cells m p.0) p.1) e)

  pub writes : IsLayout caps lay → (s : State ℕ) → s.memory ≡ m → Writes caps lay at bytes s (record s { memory = put m r place bytes })
  writes ok s e = record {
    stand = stands ok;
    others = λ a out. elsewhere a out ∙ ap (λ x. byte_at caps lay x a) (sym e);
    lengths = put_sized;
    rest = refl;
  }

pub stores_are_at_addresses : StoresAreAtAddresses
stores_are_at_addresses caps lay ok w at n s t sized h = by (find caps lay at w) refl h
  where
    allowed : (p : Region × ℕ) (b : Bool) → IsPlace caps lay at w p → only b (Some (record s { memory = put s.memory p.0 p.1 (le_bytes w n) })) ≡ Some t → Writes caps lay at (le_bytes w n) s t
    allowed p true i h =
        let long = length-le_bytes w n in
        let j : IsPlace caps lay at (length (le_bytes w n)) (p.0, p.1) = record { address = i.address; inside = omega (arith, i.inside, long) } in
        subst (Writes caps lay at (le_bytes w n) s) (same_Some _ _ h)
        (writes caps lay s.memory sized at (le_bytes w n) p.0 p.1 j ok s refl)
    allowed p false i h = absurd (none-some t h)

    by : (o : Option (Region × ℕ)) → find caps lay at w ≡ o → (o >>= λ p. only (may_store p.0) (Some (record s { memory = put s.memory p.0 p.1 (le_bytes w n) }))) ≡ Some t → Writes caps lay at (le_bytes w n) s t
    by None e h = absurd (none-some t h)
    by (Some p) e h = allowed p (may_store p.0) (find_place caps lay at w p e) h

-- What helpers read and write, and the memory as a method begins, are those of one memory by
-- address.
use Rattle.std.proofs.Common.{◌≡◌, ℕ, ◌+◌, ◌-◌, ◌<◌, ◌≤◌, List, [], ◌∷◌, Option, Some, None, Bool, true, false, replicate, refl, ap, ◌∙◌, sym, subst, arith, length, length-append, inl, inr}
use Rattle.std.specs.Prelude.{slice_get, if◌then◌else◌, ◌==◌}
use Rattle.std.proofs.lemmas.Bool.{eqb-true, cases_lt}
use Rattle.std.proofs.lemmas.List.{length-replicate}
use Rattle.std.proofs.lemmas.Option.{none-some, same_Some, slice_get-get_or}
use Rattle.std.proofs.Math.ListN.{get_or-replicate}
use Rattle.bpf_decode.specs.declared.region.Region.{Region}
use Rattle.bpf_decode.specs.declared.region.Region.TheVariants.{Input, Output, Stack}
use Rattle.bpf_machine.specs.declared.caps.Caps.{Caps}
use Rattle.bpf_machine.specs.declared.limits.TheConstants.{STACK_SIZE}
use Rattle.bpf_machine.specs.State.{◌>>=◌, only, Memory, cells, may_store, size, opening, State}
use Rattle.bpf_machine.specs.Helper.{bytes_in, write_room}
use Rattle.bpf_machine.specs.Flat.{Layout, base, IsIn, IsLayout, find}
use Rattle.bpf_machine.specs.Address.{byte_at, IsMemory, Reads, Writes, Opens, RangesAreOfAddresses, RoomsAreAtAddresses, OpeningIsAtAddresses}
use Rattle.bpf_machine.proofs.Cells.{get_left, get_right}
use Rattle.bpf_machine.proofs.OneMemory.{IsPlace, find_place, reads, writes, places_are_addresses}

-- ---- ranges
no_bytes : (caps : Caps) (lay : Layout) (m : Memory) (at n : ℕ) → n ≡ 0 → Reads caps lay m at n []
no_bytes caps lay m at n e = record { count = sym e; stand = record { each = λ k h. absurd (omega arith) } }

pub ranges_are_of_addresses : RangesAreOfAddresses
ranges_are_of_addresses caps lay ok at n m place sized h = by (n == 0) refl h
  where
    found : (o : Option (Region × ℕ)) → find caps lay at n ≡ o → (o >>= λ p. Some (Some p)) ≡ Some place → Reads caps lay m at n (bytes_in m place n)
    found None e h = absurd (none-some place h)
    found (Some p) e h = subst (λ q. Reads caps lay m at n (bytes_in m q n)) (same_Some _ _ h) (reads caps lay ok m at n p sized e)

    by : (b : Bool) → (n == 0) ≡ b → (if b then Some None else (find caps lay at n >>= λ p. Some (Some p))) ≡ Some place → Reads caps lay m at n (bytes_in m place n)
    by true e h = subst (λ q. Reads caps lay m at n (bytes_in m q n)) (same_Some _ _ h) (no_bytes caps lay m at n (eqb-true n 0 e))
    by false e h = found (find caps lay at n) refl h

-- no bytes change nothing
wrote_none : (caps : Caps) (lay : Layout) (at : ℕ) (s : State ℕ) → IsMemory caps s.memory → Writes caps lay at [] s (record s { memory = s.memory })
wrote_none caps lay at s sized = record {
  stand = record { each = λ k h. absurd (omega arith) };
  others = λ a out. refl;
  lengths = sized;
  rest = refl;
}

none_long : (bytes : List ℕ) (n : ℕ) → length bytes ≤ n → n ≡ 0 → [] ≡ bytes
none_long [] n h e = refl
none_long (b ∷ bytes) n h e = absurd (omega arith)

pub rooms_are_at_addresses : RoomsAreAtAddresses
rooms_are_at_addresses caps lay ok at n s place bytes sized h short = by (n == 0) refl h
  where
    allowed : (p : Region × ℕ) (b : Bool) → IsPlace caps lay at n p → only b (Some (Some p)) ≡ Some place → Writes caps lay at bytes s (record s { memory = write_room s.memory place bytes })
    allowed p true i h =
        let j : IsPlace caps lay at (length bytes) (p.0, p.1) = record { address = i.address; inside = omega (arith, i.inside, short) } in
        subst (λ q. Writes caps lay at bytes s (record s { memory = write_room s.memory q bytes })) (same_Some _ _ h)
        (writes caps lay s.memory sized at bytes p.0 p.1 j ok s refl)
    allowed p false i h = absurd (none-some place h)

    found : (o : Option (Region × ℕ)) → find caps lay at n ≡ o → (o >>= λ p. only (may_store p.0) (Some (Some p))) ≡ Some place → Writes caps lay at bytes s (record s { memory = write_room s.memory place bytes })
    found None e h = absurd (none-some place h)
    found (Some p) e h = allowed p (may_store p.0) (find_place caps lay at n p e) h

    by : (b : Bool) → (n == 0) ≡ b → (if b then Some None else (find caps lay at n >>= λ p. only (may_store p.0) (Some (Some p)))) ≡ Some place → Writes caps lay at bytes s (record s { memory = write_room s.memory place bytes })
    by true e h =
        subst (λ q. Writes caps lay at bytes s (record s { memory = write_room s.memory q bytes })) (same_Some _ _ h)
        (subst (λ bs. Writes caps lay at bs s (record s { memory = s.memory })) (none_long bytes n short (eqb-true n 0 e)) (wrote_none caps lay at s sized))
    by false e h = found (find caps lay at n) refl h

-- ---- the memory as a method begins
zero_at : (n k : ℕ) → k < n → slice_get {X = ℕ} (replicate n 0) k ≡ Some 0
zero_at n k h =
    let l : length {A = ℕ} (replicate n 0) ≡ n = length-replicate n 0 in
    slice_get-get_or {X = ℕ} (replicate n 0) k 0 (omega (arith, l)) ∙ ap (λ (b : ℕ). Some b) (get_or-replicate {A = ℕ} n k 0 0 h)

module _ (caps : Caps) (lay : Layout) (ok : IsLayout caps lay) (input : List ℕ) (fits : length input ≤ caps.in_cap) where
  gap : length {A = ℕ} (replicate (caps.in_cap - length input) 0) ≡ caps.in_cap - length input
  gap = length-replicate (caps.in_cap - length input) 0

  sized : (r : Region) → length (cells (opening caps input) r) ≡ size caps r
  sized Input = length-append input (replicate (caps.in_cap - length input) 0) ∙ omega (arith, gap, fits)
  sized Output = length-replicate {A = ℕ} caps.out_cap 0
  sized Stack = length-replicate {A = ℕ} STACK_SIZE 0

  -- a place of no input has a 0
  zero_cell : (r : Region) (place : ℕ) → place < size caps r → (r ≡ Input → length input ≤ place) → slice_get (cells (opening caps input) r) place ≡ Some 0
  zero_cell Input place h past =
      let low : length input ≤ place = past refl in
      get_right input (replicate (caps.in_cap - length input) 0) place (place - length input) (omega arith)
      ∙ zero_at (caps.in_cap - length input) (place - length input) (omega (arith, h, low))
  zero_cell Output place h past = zero_at caps.out_cap place h
  zero_cell Stack place h past = zero_at STACK_SIZE place h

  input_stands : (k : ℕ) → k < length input → byte_at caps lay (opening caps input) (base lay Input + k) ≡ slice_get input k
  input_stands k h =
      places_are_addresses caps lay ok (opening caps input) Input k (omega (arith, fits))
      ∙ get_left input (replicate (caps.in_cap - length input) 0) k h

  zero_stands : (r : Region) (at : ℕ) → IsIn caps lay r at → ((base lay Input ≤ at) × (at < base lay Input + length input) → ⊥) → byte_at caps lay (opening caps input) at ≡ Some 0
  zero_stands r at i out =
      let e : at ≡ base lay r + (at - base lay r) = omega (arith, i.0) in
      let inside : at - base lay r < size caps r = omega (arith, i.0, i.1) in
      ap (λ a. byte_at caps lay (opening caps input) a) e
      ∙ places_are_addresses caps lay ok (opening caps input) r (at - base lay r) inside
      ∙ zero_cell r (at - base lay r) inside (λ same. past same)
    where
      past : r ≡ Input → length input ≤ at - base lay r
      past same =
          let b : base lay r ≡ base lay Input = ap (base lay) same in
          elim (cases_lt (at - base lay r) (length input)) [
            | inl low ↦ absurd (out (omega (arith, b, i.0), omega (arith, b, i.0, low)))
            | inr high ↦ high
          ]

  opens : Opens caps lay (opening caps input) input
  opens = record { lengths = record { lengths = sized }; begins = record { each = input_stands }; zeros = zero_stands }

pub opening_is_at_addresses : OpeningIsAtAddresses
opening_is_at_addresses caps lay ok input fits = opens caps lay ok input fits

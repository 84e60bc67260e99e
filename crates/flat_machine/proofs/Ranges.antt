-- Arguments that are ranges: one after the other is taken.
use Rattle.std.proofs.Common.{◌≡◌, ℕ, ◌+◌, Option, Some, None, Bool, refl, ap, ◌∙◌, sym}
use Rattle.bpf_decode.specs.declared.region.Region.{Region}
use Rattle.bpf_machine.specs.declared.caps.Caps.{Caps}
use Rattle.bpf_machine.specs.State.{◌>>=◌, State, reg}
use Rattle.bpf_machine.specs.Flat.{Layout, range}
use Rattle.flat_machine.specs.inner.FlatState.{range_at}

abbrev paired : {P : Type 0} → P → ℕ → Option (P × ℕ)
paired p n = Some (p, n)

with_length : {P B : Type 0} (place : Option P) (n : ℕ) (f : P → ℕ → Option B) → (place >>= λ p. f p n) ≡ ((place >>= λ p. paired p n) >>= λ r. f r.0 r.1)
with_length None n f = refl
with_length (Some p) n f = refl

in_turn : {P B : Type 0} (at n : Option ℕ) (place : ℕ → ℕ → Option P) (f : P → ℕ → Option B) → (at >>= λ a. n >>= λ k. place a k >>= λ p. f p k) ≡ ((at >>= λ a. n >>= λ k. place a k >>= λ p. paired p k) >>= λ r. f r.0 r.1)
in_turn None n place f = refl
in_turn (Some a) None place f = refl
in_turn (Some a) (Some k) place f = with_length (place a k) k f

module _ (caps : Caps) (lay : Layout) (s : State ℕ) where
  -- what follows a range
  then_range : {B : Type 0} (writes : Bool) (k : ℕ) (f : Option (Region × ℕ) → ℕ → Option B) → (reg s k >>= λ at. reg s (k + 1) >>= λ n. range caps lay writes at n >>= λ p. f p n) ≡ (range_at caps lay s writes k >>= λ r. f r.0 r.1)
  then_range writes k f =
      in_turn (reg s k) (reg s (k + 1)) (λ at n. range caps lay writes at n) f

  -- a second range, in registers 3 and 4, and what the first one adds to it
  abbrev second : {B C : Type 0} → Bool → (Option (Region × ℕ) → ℕ → C) → (Option (Region × ℕ) → ℕ → C → B) → Option (Region × ℕ) → ℕ → Option B
  second v h k p n =
      (reg s 3 >>= λ to. reg s 4 >>= λ m. range caps lay v to m >>= λ q. Some (h q m)) >>= λ g. Some (k p n g)

  taken : {B C : Type 0} (v : Bool) (h : Option (Region × ℕ) → ℕ → C) (k : C → B) (y : Option (Option (Region × ℕ) × ℕ)) → y ≡ range_at caps lay s v 3 → (y >>= λ q. Some (k (h q.0 q.1))) ≡ ((reg s 3 >>= λ to. reg s 4 >>= λ m. range caps lay v to m >>= λ q. Some (h q m)) >>= λ g. Some (k g))
  taken v h k None hy =
      ap (λ o. (o >>= λ q. Some (h q.0 q.1)) >>= λ g. Some (k g)) hy ∙ ap (λ o. o >>= λ g. Some (k g)) (sym (then_range v 3 (λ q m. Some (h q m))))
  taken v h k (Some q) hy =
      ap (λ o. (o >>= λ q. Some (h q.0 q.1)) >>= λ g. Some (k g)) hy ∙ ap (λ o. o >>= λ g. Some (k g)) (sym (then_range v 3 (λ q m. Some (h q m))))

  -- two ranges, the first in registers 1 and 2
  pub two_ranges : {B C : Type 0} (w v : Bool) (h : Option (Region × ℕ) → ℕ → C) (k : Option (Region × ℕ) → ℕ → C → B) (x y : Option (Option (Region × ℕ) × ℕ)) → x ≡ range_at caps lay s w 1 → y ≡ range_at caps lay s v 3 → (x >>= λ r. y >>= λ q. Some (k r.0 r.1 (h q.0 q.1))) ≡ (reg s 1 >>= λ at. reg s 2 >>= λ n. range caps lay w at n >>= λ p. second v h k p n)
  two_ranges w v h k None y hx hy =
      ap (λ o. o >>= λ r. second v h k r.0 r.1) hx ∙ sym (then_range w 1 (second v h k))
  two_ranges w v h k (Some r) y hx hy =
      taken v h (k r.0 r.1) y hy ∙ (ap (λ o. o >>= λ t. second v h k t.0 t.1) hx ∙ sym (then_range w 1 (second v h k)))

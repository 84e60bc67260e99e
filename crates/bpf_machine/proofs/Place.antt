-- An access within a region is found at its address.
use Rattle.std.proofs.Common.{◌≡◌, ℕ, ◌+◌, ◌-◌, ◌%◌, ◌^◌, ◌<◌, ◌≤◌, Some, true, refl, ap, ◌∙◌, sym, arith, add_assoc}
use Rattle.std.specs.Prelude.{nat_le}
use Rattle.std.proofs.Math.Nat.{mod-add-mod, add-mod-mod, mod-eq_of_lt}
use Rattle.std.proofs.lemmas.Bool.{and_parts, and_from, leb-true, le-leb, false_from_ne_true, cond-true, cond-false}
use Rattle.bpf_decode.specs.declared.region.Region.{Region}
use Rattle.bpf_decode.specs.declared.region.Region.TheVariants.{Input, Output, Stack}
use Rattle.bpf_decode.specs.declared.value.Value.{Value}
use Rattle.bpf_decode.specs.declared.value.Value.TheVariants.{Num, Ptr}
use Rattle.bpf_machine.specs.declared.caps.Caps.{Caps}
use Rattle.bpf_machine.specs.State.{size}
use Rattle.bpf_machine.specs.Flat.{Layout, base, holds, find, IsIn, IsLayout}
use Rattle.bpf_machine.specs.Typed.{locate, address}
use Rattle.bpf_machine.proofs.Sim.{Sim, sim_none, sim_some, sim_guard, sim_eq}

pub shift : (b o d m : ℕ) → ((b + o) % m + d) % m ≡ (b + (o + d) % m) % m
shift b o d m = mod-add-mod (b + o) m d ∙ ap (λ x. x % m) (add_assoc b o d) ∙ sym (add-mod-mod b (o + d) m)

module _ (caps : Caps) (lay : Layout) (ok : IsLayout caps lay) where
  inside : (r : Region) (at w : ℕ) → holds caps lay r at w ≡ true → 0 < w → IsIn caps lay r at
  inside r at w h pos =
      let two = and_parts (nat_le (base lay r) at) (nat_le (at + w) (base lay r + size caps r)) h in
      let low : base lay r ≤ at = leb-true _ _ two.0 in
      let high : at + w ≤ base lay r + size caps r = leb-true _ _ two.1 in
      (low, omega arith)

  found : (r : Region) (o w : ℕ) → o + w ≤ size caps r → holds caps lay r (base lay r + o) w ≡ true
  found r o w h =
      and_from _ _ (le-leb (base lay r) (base lay r + o) (omega arith)) (le-leb (base lay r + o + w) (base lay r + size caps r) (omega arith))

  within : (r : Region) (o w : ℕ) → 0 < w → o + w ≤ size caps r → IsIn caps lay r (base lay r + o)
  within r o w pos h = (omega arith, omega arith)

  past : (b o : ℕ) → b + o - b ≡ o
  past b o = omega arith

  pub find_at : (r : Region) (o w : ℕ) → 0 < w → o + w ≤ size caps r → find caps lay (base lay r + o) w ≡ Some (r, o)
  find_at Input o w pos h =
      cond-true _ _ _ (found Input o w h) ∙ ap (λ n. Some (Input, n)) (past lay.input o)
  find_at Output o w pos h =
      let not_input = false_from_ne_true (holds caps lay Input (lay.output + o) w) (λ e. ok.input_output _ (inside Input _ w e pos) (within Output o w pos h)) in
      cond-false _ _ _ not_input ∙ cond-true _ _ _ (found Output o w h) ∙ ap (λ n. Some (Output, n)) (past lay.output o)
  find_at Stack o w pos h =
      let not_input = false_from_ne_true (holds caps lay Input (lay.stack + o) w) (λ e. ok.input_stack _ (inside Input _ w e pos) (within Stack o w pos h)) in
      let not_output = false_from_ne_true (holds caps lay Output (lay.stack + o) w) (λ e. ok.output_stack _ (inside Output _ w e pos) (within Stack o w pos h)) in
      cond-false _ _ _ not_input ∙ cond-false _ _ _ not_output ∙ cond-true _ _ _ (found Stack o w h) ∙ ap (λ n. Some (Stack, n)) (past lay.stack o)

  -- the address of a place that is in bounds
  address_at : (r : Region) (o d : ℕ) → (o + d) % 2 ^ 64 ≤ size caps r → ((base lay r + o) % 2 ^ 64 + d) % 2 ^ 64 ≡ base lay r + (o + d) % 2 ^ 64
  address_at r o d h =
      let small : base lay r + (o + d) % 2 ^ 64 < 2 ^ 64 = omega (arith, ok.fits r) in
      shift (base lay r) o d (2 ^ 64) ∙ mod-eq_of_lt small

  pub find_sim : (v : Value) (d w : ℕ) → 0 < w → Sim (λ p. p.1 + w ≤ size caps p.0) (λ p. p) (locate caps v d w) (find caps lay ((address lay v + d) % 2 ^ 64) w)
  find_sim (Num n) d w pos = sim_none _ _ _
  find_sim (Ptr r o) d w pos = sim_guard _ _ _ _ _ (λ yes.
      let h : (o + d) % 2 ^ 64 + w ≤ size caps r = leb-true _ _ yes in
      sim_eq _ _ _ _ _ (ap (λ a. find caps lay a w) (address_at r o d (omega arith)) ∙ find_at r ((o + d) % 2 ^ 64) w pos h) (sim_some _ _ (r, (o + d) % 2 ^ 64) _ h refl))

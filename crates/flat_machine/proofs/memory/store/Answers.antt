use Rattle.std.proofs.Common.{◌≡◌, ℕ, zero, suc, ◌/◌, ◌%◌, ◌≤◌, ◌∷◌, take, refl, ap, arith}
use Rattle.std.proofs.lemmas.Grind.{common_steps}
use Rattle.bpf_machine.specs.State.{le_bytes}
use Rattle.flat_machine.proofs.memory.store.Goals as goal

take-le_bytes : (w k n : ℕ) → w ≤ k → take w (le_bytes k n) ≡ le_bytes w n
take-le_bytes zero k n h = refl
take-le_bytes (suc w) zero n h = absurd (omega arith)
take-le_bytes (suc w) (suc k) n h = ap (λ t. n % 256 ∷ t) (take-le_bytes w k (n / 256) (omega arith))

pub returns-then-is_writable-clause-store : goal.returns-then-is_writable-clause-store
returns-then-is_writable-clause-store c =
    let e = take-le_bytes c.args.w 8 c.args.value c.requires.short in
    grind (arith, common_steps, e)

pub slice_bounds-put_bytes-end : goal.slice_bounds-put_bytes-end
slice_bounds-put_bytes-end c = grind (arith, common_steps)

pub returns-else-is_writable-clause-store : goal.returns-else-is_writable-clause-store
returns-else-is_writable-clause-store c = grind (arith, common_steps)

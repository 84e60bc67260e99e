use Rattle.std.proofs.Common.{ℕ, ◌+◌, ◌*◌, ◌^◌, ◌<◌, ◌≤◌, arith, rules}
use Rattle.std.proofs.Math.Nat.{pow-le-pow_right}
use Rattle.flat_machine.proofs.memory.+read_number.Goals as goal

product_fits : (n r : ℕ) → r < 256 ^ n → n ≤ 7 → 256 * r + 255 < 2 ^ 64
product_fits n r h le =
    let p : 256 ^ n ≤ 256 ^ 7 = pow-le-pow_right {n = 256} (omega arith) le in
    omega arith

pub overflow_mul-result : goal.overflow_mul-result
overflow_mul-result t c =
    let h = c.read_number.ensures.small in
    let f = product_fits _ c.read_number.result h (search rules) in
    omega arith

pub overflow_add-result : goal.overflow_add-result
overflow_add-result t c =
    let h = c.read_number.ensures.small in
    let f = product_fits _ c.read_number.result h (search rules) in
    omega arith

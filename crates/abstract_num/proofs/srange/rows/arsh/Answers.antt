use Rattle.std.proofs.Common.{rules, ap, ◌∙◌, ◌%◌, ◌^◌, FitsSigned, ℤ, w64}
use Rattle.std.specs.Int.{cast_signed, cast_unsigned}
use lib.Signed.{shr_z}
use Rattle.std.proofs.lemmas.Int.{to_z-of_z}
use Rattle.std.proofs.lemmas.Nat.{pow_pos}
use Rattle.abstract_num.specs.proved.Scaled.{shr_fits, shr_mono}
use Rattle.abstract_num.proofs.srange.rows.arsh.Goals as goal

pub invariant_of-result : goal.invariant_of-result
invariant_of-result c =
    let t = 2 ^ (c.args.by % 64) in
    let a : FitsSigned w64 c.args.left.low = search rules in
    let b : FitsSigned w64 c.args.left.high = search rules in
    let low = ap (λ (z : ℤ). cast_signed w64 (cast_unsigned w64 (shr_z z t))) (to_z-of_z w64 c.args.left.low a) ∙ to_z-of_z w64 (shr_z c.args.left.low t) (shr_fits t c.args.left.low a) in
    let high = ap (λ (z : ℤ). cast_signed w64 (cast_unsigned w64 (shr_z z t))) (to_z-of_z w64 c.args.left.high b) ∙ to_z-of_z w64 (shr_z c.args.left.high t) (shr_fits t c.args.left.high b) in
    record { ordered = rw (low, high) (shr_mono t c.args.left.low c.args.left.high (pow_pos (c.args.by % 64)) c.args.left.ordered) }

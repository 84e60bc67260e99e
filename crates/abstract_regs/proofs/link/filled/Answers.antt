use Rattle.std.proofs.Common.{refl, subst, sym, ℕ, ◌≡◌, ◌^◌, ◌-◌}
use Rattle.abstract_num.specs.UnsignedRows.{digits}
use Rattle.std.proofs.lemmas.Nat.{leading_le}
use Rattle.std.proofs.lemmas.Nat.Bits.{ones_shr}
use Rattle.std.specs.Int.Count.{count_leading_zeros}
use Rattle.abstract_regs.proofs.link.filled.Goals as goal

pub returns-then-n-eq0 : goal.returns-then-n-eq0
unfolding count_leading_zeros
returns-then-n-eq0 c = subst (λ (x : ℕ). 0 ≡ 2 ^ digits x - 1) (sym c.if-n-eq0.true) refl

pub returns-else-n-eq0 : goal.returns-else-n-eq0
returns-else-n-eq0 c = ones_shr 64 (count_leading_zeros 64 c.args.n) (leading_le 64 c.args.n)

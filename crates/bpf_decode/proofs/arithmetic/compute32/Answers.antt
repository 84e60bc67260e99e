use Rattle.std.proofs.Common.{refl, arith}
use Rattle.std.proofs.lemmas.Grind.{common_steps}
use Rattle.std.specs.Int.{w32}
use Rattle.std.proofs.lemmas.Bool.{ne_eqb}
use Rattle.std.proofs.lemmas.Int.{to_z-of_z}
use Rattle.bpf_decode.proofs.arithmetic.compute32.Goals as goal

pub returns-then-n-eq0 : goal.returns-then-n-eq0
returns-then-n-eq0 c = rw (c.in-Div.is, c.if-n-eq0.true) refl

pub returns-else-n-eq0 : goal.returns-else-n-eq0
returns-else-n-eq0 c = rw (c.in-Div.is, ne_eqb c.args.n 0 c.if-n-eq0.false) refl

pub returns-then-n-eq0-2 : goal.returns-then-n-eq0-2
returns-then-n-eq0-2 c = rw (c.in-SignedDiv.is, c.if-n-eq0-2.true) refl

pub returns-then-n-eq0-3 : goal.returns-then-n-eq0-3
returns-then-n-eq0-3 c = rw (c.in-Mod.is, c.if-n-eq0-3.true) refl

pub returns-else-n-eq0-3 : goal.returns-else-n-eq0-3
returns-else-n-eq0-3 c = rw (c.in-Mod.is, ne_eqb c.args.n 0 c.if-n-eq0-3.false) refl

pub returns-then-n-eq0-4 : goal.returns-then-n-eq0-4
returns-then-n-eq0-4 c = rw (c.in-SignedMod.is, c.if-n-eq0-4.true) refl

pub returns-else-n-eq0-4 : goal.returns-else-n-eq0-4
returns-else-n-eq0-4 c =
    rw (c.in-SignedMod.is, ne_eqb c.args.n 0 c.if-n-eq0-4.false, c.cast_unsigned-else-n-eq0-4.ensures, to_z-of_z w32 c.wrapping_rem.result (record { sfits = c.wrapping_rem.type_inv }), c.wrapping_rem.ensures, to_z-of_z w32 c.cast_signed-else-n-eq0-4.result (record { sfits = c.cast_signed-else-n-eq0-4.type_inv }), to_z-of_z w32 c.cast_signed-else-n-eq0-4-2.result (record { sfits = c.cast_signed-else-n-eq0-4-2.type_inv }), c.cast_signed-else-n-eq0-4.ensures, c.cast_signed-else-n-eq0-4-2.ensures) refl

pub returns-else-n-eq0-2 : goal.returns-else-n-eq0-2
returns-else-n-eq0-2 c = grind (arith, common_steps)

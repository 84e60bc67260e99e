use Rattle.std.proofs.Common.{◌≡◌, ◌≤◌, length, arith, sym, subst}
use Rattle.part_data.specs.Known.{KnownData, Agrees, known_by}
use Rattle.part_data.proofs.KeptBytes.{written_known, written_from_same}
use Rattle.part_data.proofs.Agreed.{some_bytes, written_agrees}
use Rattle.part_data.proofs.part_data.PartData.write.Goals as goal

pub returns-clause-agrees : goal.returns-clause-agrees
returns-clause-agrees c = λ all a.
    let s = c.self.inside in
    let at = c.args.at in
    let text = c.args.text.now in
    let d : KnownData = record { size = s.size; low = s.low; blocks = s.blocks } in
    let d' : KnownData = record { size = c.max-self-inside.result; low = s.low; blocks = c.write.new.self } in
    let v : d ≡ c.args.self.now = c.self.view_is in
    let A : KnownData → Type 0 = λ k. Agrees k all in
    let some : 1 ≤ length text = some_bytes text (sym c.if-is_empty.ensures) in
    let w = written_from_same (known_by s.low s.blocks) (known_by s.low c.fill.new.self) (known_by s.low c.write.new.self) at text c.in_ok-fill.ensures.known
    (written_known s.low c.fill.new.self c.write.new.self at text c.write.ensures
    (λ n low from to. c.in_ok-fill.ensures.all n (omega (arith, c.max-first.ensures, low, from)) (omega (arith, c.div_ceil.ensures, to)))) in
    written_agrees d d' at text some c.max-self-inside.ensures w c.self.invariant.1 all (subst A (sym v) a)

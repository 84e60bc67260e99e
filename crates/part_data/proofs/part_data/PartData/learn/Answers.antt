use Rattle.std.proofs.Common.{◌≡◌, refl, sym, subst}
use Rattle.part_data.specs.Known.{KnownData, Agrees}
use Rattle.part_data.proofs.KeptBytes.{learned_known}
use Rattle.part_data.proofs.Agreed.{learned_agrees}
use Rattle.part_data.proofs.part_data.PartData.learn.Goals as goal

pub returns-clause-agrees : goal.returns-clause-agrees
returns-clause-agrees c = λ all a is.
    let s = c.self.inside in
    let d : KnownData = record { size = s.size; low = s.low; blocks = s.blocks } in
    let d' : KnownData = record { size = s.size; low = s.low; blocks = c.put.new.self } in
    let v : d ≡ c.args.self.now = c.self.view_is in
    let A : KnownData → Type 0 = λ k. Agrees k all in
    let e = c.in_ok-put.ensures in
    learned_agrees d d' c.args.block c.args.bytes.now refl (learned_known s.low c.args.block c.args.bytes.now s.blocks c.put.new.self e.here e.others) all (subst A (sym v) a) is

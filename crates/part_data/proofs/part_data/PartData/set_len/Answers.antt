use Rattle.std.proofs.Common.{◌≡◌, refl, sym, subst}
use Rattle.part_data.specs.Known.{KnownData, Agrees}
use Rattle.part_data.proofs.KeptBytes.{cut_known}
use Rattle.part_data.proofs.Agreed.{cut_agrees, extended_agrees}
use Rattle.part_data.proofs.part_data.PartData.set_len.Goals as goal

pub returns-clause-agrees : goal.returns-clause-agrees
returns-clause-agrees c = λ all a.
    let s = c.self.inside in
    let d : KnownData = record { size = s.size; low = s.low; blocks = s.blocks } in
    let d' : KnownData = record { size = c.args.len; low = c.min-self-inside.result; blocks = c.truncate.new.self } in
    let v : d ≡ c.args.self.now = c.self.view_is in
    let A : KnownData → Type 0 = λ k. Agrees k all in
    let cut = cut_known s.low c.min-self-inside.result c.div_ceil-end.result c.args.len s.blocks c.clear_tail.new.self c.truncate.new.self
    c.min-self-inside.ensures c.div_ceil-end.ensures c.clear_tail.ensures c.truncate.ensures.below c.truncate.ensures.from in
    cut_agrees d d' c.args.len refl c.self.invariant.1 cut all (subst A (sym v) a)

pub returns-then-len-self-clause-agrees : goal.returns-then-len-self-clause-agrees
returns-then-len-self-clause-agrees c = λ all a.
    let s = c.self.inside in
    let d : KnownData = record { size = s.size; low = s.low; blocks = s.blocks } in
    let d' : KnownData = record { size = c.args.len; low = s.low; blocks = s.blocks } in
    let v : d ≡ c.args.self.now = c.self.view_is in
    let A : KnownData → Type 0 = λ k. Agrees k all in
    extended_agrees d d' c.args.len refl c.self.invariant.1 (λ p. refl) all (subst A (sym v) a)

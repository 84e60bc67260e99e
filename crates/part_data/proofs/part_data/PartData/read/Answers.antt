use Rattle.std.proofs.Common.{◌≡◌, ◌++◌, length, drop, arith, ap, sym, ◌∙◌, subst}
use Rattle.std.proofs.lemmas.List.{length-take}
use Rattle.object_store.specs.Object.{part}
use Rattle.part_data.specs.Known.{KnownData, Agrees, AreKnown}
use Rattle.part_data.proofs.Positions.{length-part}
use Rattle.part_data.proofs.Agreed.{copied_agrees}
use Rattle.part_data.proofs.part_data.PartData.read.Goals as goal

pub returns-clause-bytes : goal.returns-clause-bytes
returns-clause-bytes c = λ all a.
    let s = c.self.inside in
    let d : KnownData = record { size = s.size; low = s.low; blocks = s.blocks } in
    let v : d ≡ c.args.self.now = c.self.view_is in
    let n = length c.args.out.now in
    let A : KnownData → Type 0 = λ k. Agrees k all in
    let K : KnownData → Type 0 = λ k. AreKnown k c.args.at n in
    let a' : Agrees d all = subst A (sym v) a in
    let same = copied_agrees d all c.copy.new.out c.args.at n c.self.invariant.1 a' (subst K (sym v) c.requires)
    (omega (arith, c.copy.auto.out, c.min.ensures, c.min-count.ensures, length-take c.min-count.result c.args.out.now)) c.copy.ensures in
    let count : c.min-count.result ≡ length (part all c.args.at n) = omega (arith, c.min.ensures, c.min-count.ensures, a'.length, length-part all c.args.at n) in
    ap (λ l. l ++ drop c.min-count.result c.args.out.now) same ∙ ap (λ k. part all c.args.at n ++ drop k c.args.out.now) count

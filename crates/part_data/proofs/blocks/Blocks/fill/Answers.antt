use Rattle.std.proofs.Common.{arith, ap, sym, ◌∙◌}
use Rattle.std.specs.Option.{is_some}
use Rattle.part_data.specs.Known.{block_at, known_by}
use Rattle.part_data.proofs.KeptBytes.{fills_known, fills_more, stays_more}
use Rattle.part_data.proofs.blocks.Blocks.fill.Goals as goal
use Rattle.part_data.proofs.blocks.Blocks.fill.Goals.{then-not-has+in_ok-put, else-not-has}

pub loop-n-preserved : goal.loop-n-preserved
loop-n-preserved c =
    let low = c.args.low in
    let n = c.loop-n.n in
    let old = c.loop-n.self in
    elim c.if-not-has.branch [
      | then-not-has+in_ok-put w ↦
          let new = w.put.new.self in
          let e = w.in_ok-put.ensures in
          record {
            known = λ p.
                ap (λ s. known_by low s p) w.self-is
                ∙ fills_known low n old new (omega (arith, c.requires, c.loop-n.auto.n)) (sym w.if-not-has.ensures) e.here e.others p
                ∙ c.loop-n.invariant.known p;
            all = λ q from to. ap (λ s. is_some (block_at s q)) w.self-is ∙ fills_more c.args.first n old new _ e.here e.others c.loop-n.invariant.all q from to;
          }
      | else-not-has w ↦
          record {
            known = λ p. ap (λ s. known_by low s p) w.self-is ∙ c.loop-n.invariant.known p;
            all = λ q from to. ap (λ s. is_some (block_at s q)) w.self-is ∙ stays_more c.args.first n old (sym w.if-not-has.ensures) c.loop-n.invariant.all q from to;
          }
    ]

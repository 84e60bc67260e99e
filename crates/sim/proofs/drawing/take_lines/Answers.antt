use Rattle.std.proofs.Common.{◌+◌, arith, refl}
use Rattle.sim.proofs.Picturing.{bad_at, none_bad, none_done, one_done}
use Rattle.sim.proofs.drawing.take_lines.Goals as goal

pub loop-line-init : goal.loop-line-init
loop-line-init g c = record { number = refl; going = none_done _ _ c.args.lines.now c.args.world.now c.requires.first }

pub loop-line-preserved : goal.loop-line-preserved
loop-line-preserved g c = record {
  number = omega arith;
  going = one_done _ _ c.args.lines.now c.loop-line.line-index (c.loop-line.line-index + 1) _ c.loop-line.number (c.loop-line.number + 1) _ _ _
      c.loop-line-test.true (omega arith) (omega arith) c.loop-line.invariant.going c.in_ok-take_line.ensures c.if-branch.false;
}

pub returns-then-branch : goal.returns-then-branch
returns-then-branch g c =
    bad_at _ _ c.args.lines.now c.loop-line.line-index _ c.loop-line.number (c.loop-line.number + 1) _ _ _
    c.loop-line-test.true (omega arith) c.loop-line.invariant.going c.in_ok-take_line.ensures c.if-branch.true

pub returns : goal.returns
returns g c = none_bad _ _ c.args.lines.now c.loop-line.line-index c.loop-line.number c.loop-line.world (omega arith) c.loop-line.invariant.going

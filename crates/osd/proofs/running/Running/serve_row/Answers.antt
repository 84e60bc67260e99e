use Rattle.osd.proofs.Sending.{only_none, only_several}
use Rattle.osd.proofs.running.Running.serve_row.Goals as goal

pub loop-init : goal.loop-init
loop-init g c = only_none _ _

pub loop-preserved : goal.loop-preserved
loop-preserved g c = only_several _ _ _ _ c.loop.invariant c.serve_one.ensures

pub returns-then-not-serve_one : goal.returns-then-not-serve_one
returns-then-not-serve_one g c = only_several _ _ _ _ c.loop.invariant c.serve_one.ensures

use Rattle.std.proofs.Common.{◌∙◌}
use Rattle.osd.proofs.Sending.{only_same, only_from, only_until}
use Rattle.osd.proofs.running.Running.take_turn.Goals as goal

pub returns-then-is_empty : goal.returns-then-is_empty
returns-then-is_empty g c = only_same _ _ _ c.worker.view_is

pub returns-then-not-claim : goal.returns-then-not-claim
returns-then-not-claim g c = only_same _ _ _ c.worker.view_is

pub returns : goal.returns
returns g c = only_until _ _ _ _ (c.set_claimed-2.ensures ∙ c.worker-2.view_is) (only_from _ _ _ _ (c.set_claimed.ensures ∙ c.worker.view_is) c.serve_row-row.ensures)

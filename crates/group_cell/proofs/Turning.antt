-- What a turn comes to.
use Rattle.std.proofs.Common.{◌≡◌, ℕ, ◌≤◌, List, length, ap, sym, ◌∙◌, subst}
use Rattle.std.specs.List.{Contains}
use Rattle.pg_log.specs.Requests.{ClientRequest}
use Rattle.pg_log.specs.Log.{Classes}
use Rattle.group_world.specs.Node.{NodeState, committed_list}
use Rattle.group_world.specs.Rules.{local_step}
use Rattle.group_world.specs.World.{IsTrueOf}
use Rattle.group_world.specs.declared.message.Packet.{Packet}
use Rattle.group_world.specs.declared.event.Event.{Event}
use Rattle.group_world.specs.Told.{RepliesAreCommitted}

-- the replies among the messages of a step that is done are true of what the node has committed
pub replies_true : (law : RepliesAreCommitted) (classes : Classes) (n : ℕ) (s : NodeState) (event : Event) (t : NodeState) (sent : List Packet) (written : List ClientRequest) → s.committed ≤ length s.log
    → t ≡ (local_step classes n s event).node → sent ≡ (local_step classes n s event).sent → written ≡ committed_list t → (p : Packet) → Contains sent p → IsTrueOf classes written p.message.kind
replies_true law classes n s event t sent written within state same list p has =
    let o = local_step classes n s event in
    subst (λ (w : List ClientRequest). IsTrueOf classes w p.message.kind) {x = committed_list o.node} (sym (list ∙ ap committed_list state))
    (law classes n s event within p (subst (λ (l : List Packet). Contains l p) same has))

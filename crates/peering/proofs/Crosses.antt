-- A node may go to another thread. Its parts are proved one by one, since a search of all of them
-- at once takes too long.
use denote.Param.Send.{IsSend, AllSend, sendable, view_send, recorded_send, struct_send}
use denote.RattleType.{RattleType}
use denote.Struct.Declared.{shape}
use denote.Struct.Struct.{Struct}
use Rattle.std.proofs.Crossing as crossing
use Rattle.group_world.specs.contracts.group_map.GroupMap as map
use Rattle.pg_log.specs.contracts.group.Group as group
use Rattle.pg_log.specs.contracts.requests.Requests as requests
use Rattle.pg_log.specs.declared.classes.Classes.{Ghosts}
use Rattle.peering.specs.contracts.node.GroupNode as node
use Rattle.peering.specs.contracts.node.GroupNode.TheInside as inside

pub node_sends : (C : RattleType) (classes : Ghosts C.Denot) → IsSend map.the_row → IsSend (group.the_row C classes) → IsSend requests.the_row → IsSend (node.the_row C classes)
node_sends C classes m g r =
    let T = inside.the_type C classes in
    let parts : AllSend (shape T).fields = (
      search (crossing.crosses, sendable) depth 8,
      (
        search (crossing.crosses, sendable) depth 8,
        (
          search (crossing.crosses, sendable) depth 8,
          (
            m,
            (
              search (crossing.crosses, sendable) depth 8,
              (g, (r, (search (crossing.crosses, sendable) depth 8, (search (crossing.crosses, sendable) depth 8, (search (crossing.crosses, sendable) depth 8, tt))))),
            ),
          ),
        ),
      ),
    ) in
    let f : IsSend (inside.the_row C classes) = recorded_send (Struct (shape T)) T.D T.to T.to_one (struct_send (shape T) parts) in
    view_send _ _ _ _ _ f

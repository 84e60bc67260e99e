-- An entry and a group may go to another thread. Each part is proved by itself, since one search
-- over all of them is too long.
use denote.Param.Send.{IsSend, AllSend, sendable, view_send, recorded_send, struct_send}
use denote.RattleType.{RattleType}
use denote.Struct.Declared.{shape}
use denote.Struct.Struct.{Struct}
use Rattle.std.proofs.Crossing as crossing
use Rattle.std.proofs.MapsCrossing as maps
use Rattle.object_store.specs.contracts.objects.Objects as objects
use Rattle.pg_log.specs.contracts.entry.Entry as entry
use Rattle.pg_log.specs.contracts.group.Group as group
use Rattle.pg_log.specs.contracts.group.Group.TheInside as inside
use Rattle.interp.specs.contracts.room.Room as room
use Rattle.pg_log.specs.contracts.group.log.Log as log
use Rattle.pg_log.specs.contracts.places.Places as places
use Rattle.pg_log.specs.contracts.request.Request as request
use Rattle.pg_log.specs.declared.classes.Classes.{Ghosts}
use Rattle.txn.specs.contracts.change.Change as change

pub entry_sends : IsSend request.the_row → IsSend change.the_row → IsSend entry.the_row
entry_sends r c =
    let T = entry.the_type in
    let parts : AllSend (shape T).fields = (r, (search (crossing.crosses, sendable) depth 8, (search (crossing.crosses, sendable) depth 8, (c, tt)))) in
    recorded_send (Struct (shape T)) T.D T.to T.to_one (struct_send (shape T) parts)

room_sends : IsSend (room.the_field).row
room_sends =
    let T = room.the_type in
    let parts : AllSend (shape T).fields = (search (crossing.crosses, sendable) depth 8, (search (crossing.crosses, sendable) depth 8, tt)) in
    struct_send (shape T) parts

log_sends : IsSend entry.the_row → IsSend objects.the_row → IsSend (log.the_field).row
log_sends e o =
    let T = log.the_type in
    let p : IsSend (places.the_field).row = search (maps.crosses, crossing.crosses, sendable) depth 20 in
    let v = crossing.Vec-send entry.the_row e in
    let parts : AllSend (shape T).fields = (search (crossing.crosses, sendable) depth 8, (v, (o, (p, (room_sends, tt))))) in
    struct_send (shape T) parts

pub group_sends : (C : RattleType) (classes : Ghosts C.Denot) → IsSend entry.the_row → IsSend objects.the_row → IsSend (group.the_row C classes)
group_sends C classes e o =
    let T = inside.the_type C classes in
    let parts : AllSend (shape T).fields = (search (crossing.crosses, sendable) depth 8, (log_sends e o, tt)) in
    let f : IsSend (inside.the_row C classes) = recorded_send (Struct (shape T)) T.D T.to T.to_one (struct_send (shape T) parts) in
    view_send _ _ _ _ _ f

-- A session may go to another thread. Each part is proved by itself, since one search over all of
-- them is too long.
use denote.Ref.{NamedLft}
use denote.Param.Send.{IsSend, IsSync, AllSend, sendable, view_send, recorded_send, struct_send}
use denote.RattleType.{RattleType}
use denote.Struct.Declared.{shape}
use denote.Struct.Struct.{Struct}
use Rattle.std.proofs.Crossing as crossing
use Rattle.commit_board.specs.contracts.tokens.Seen as seen
use Rattle.pg_log.specs.contracts.request.Request as request
use Rattle.osd.specs.contracts.running.Running as running
use Rattle.osd.specs.contracts.sends.Sends as sends
use Rattle.rados_client.specs.contracts.connection.Connection as connection
use Rattle.rados_client.specs.contracts.connection.Connection.TheInside as connection_inside
use Rattle.rados_client.specs.contracts.session.Session as session
use Rattle.rados_client.specs.contracts.session.Session.TheInside as session_inside
use Rattle.osd.specs.declared.name.ClusterName as cluster_name
use Rattle.group_cell.specs.declared.board_name.BoardName as board_name
use Rattle.pg_log.specs.declared.classes.Classes as class_names

module _ (life : NamedLft) (N R : RattleType) (q : cluster_name.Ghosts N.Denot) (b : board_name.Ghosts N.Denot) (k : class_names.Ghosts N.Denot) where
  pub connection_sends : IsSync (running.the_row N R q b k) → IsSend (sends.the_row N q b k) → IsSend seen.the_row → IsSend (connection.the_row life N R q b k)
  connection_sends y s n =
      let T = connection_inside.the_type life N R q b k in
      let parts : AllSend (shape T).fields = (search (y, crossing.crosses, sendable) depth 8, (n, (s, (search (crossing.crosses, sendable) depth 8, tt)))) in
      let f : IsSend (connection_inside.the_row life N R q b k) = recorded_send (Struct (shape T)) T.D T.to T.to_one (struct_send (shape T) parts) in
      view_send _ _ _ _ _ f

  pub session_sends : IsSend (connection.the_row life N R q b k) → IsSend request.the_row → IsSend (session.the_row life N R q b k)
  session_sends c r =
      let T = session_inside.the_type life N R q b k in
      let parts : AllSend (shape T).fields =
      (search (crossing.crosses, sendable) depth 8, (search (crossing.crosses, sendable) depth 8, (search (r, crossing.crosses, sendable) depth 8, (c, tt)))) in
      let f : IsSend (session_inside.the_row life N R q b k) = recorded_send (Struct (shape T)) T.D T.to T.to_one (struct_send (shape T) parts) in
      view_send _ _ _ _ _ f

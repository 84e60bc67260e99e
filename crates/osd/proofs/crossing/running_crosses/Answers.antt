use denote.Param.{param}
use denote.Param.Send.{IsSync, AllSync, sendable, view_sync, recorded_sync, struct_sync}
use denote.Struct.Declared.{shape}
use denote.Struct.Struct.{Struct}
use Rattle.std.proofs.Crossing as crossing
use Rattle.osd.specs.contracts.running.Running.TheInside as inside
use Rattle.osd.specs.declared.name.ClusterName as cluster_name
use Rattle.group_cell.specs.declared.board_name.BoardName as board_name
use Rattle.pg_log.specs.declared.classes.Classes as class_names
use Rattle.osd.proofs.crossing.running_crosses.Goals as goal

-- its fields one by one, since a search of all of them at once is too long
pub returns-clause-shared : goal.returns-clause-shared
returns-clause-shared g c =
    let N = param 0 g.row.N in
    let R = param 1 g.row.R in
    let q : cluster_name.Ghosts N.Denot = record { queues = g.N.ClusterName.queues; config = g.N.ClusterName.config } in
    let b : board_name.Ghosts N.Denot = record { board = g.N.BoardName.board } in
    let k : class_names.Ghosts N.Denot = record { classes = g.N.Classes.classes } in
    let T = inside.the_type N R q b k in
    let locked = c.locked_crosses.ensures in
    let places = c.places_cross.ensures in
    let parts : AllSync (shape T).fields = (
      search (crossing.crosses, sendable) depth 8,
      (
        search (c.type_bounds.sync-R, crossing.crosses, sendable) depth 8,
        (
          search (crossing.crosses, sendable) depth 12,
          (
            c.board_crosses.ensures.shared,
            (
              c.table_crosses.ensures.shared,
              (
                search (c.queues_cross.ensures.shared, crossing.crosses, sendable) depth 8,
                (
                  crossing.Vec-sync _ locked.node,
                  (
                    crossing.Vec-sync _ places.mailbox,
                    (
                      search (locked.desk, crossing.crosses, sendable) depth 8,
                      (
                        search (locked.monitors, crossing.crosses, sendable) depth 8,
                        (
                          search (locked.newest, crossing.crosses, sendable) depth 8,
                          (
                            crossing.Vec-sync _ places.worker,
                            (
                              search (crossing.crosses, sendable) depth 12,
                              (
                                search (crossing.crosses, sendable) depth 20,
                                (
                                  search (crossing.crosses, sendable) depth 20,
                                  (
                                    search (crossing.crosses, sendable) depth 20,
                                    tt,
                                  ),
                                ),
                              ),
                            ),
                          ),
                        ),
                      ),
                    ),
                  ),
                ),
              ),
            ),
          ),
        ),
      ),
    ) in
    let f : IsSync (inside.the_row N R q b k) = recorded_sync (Struct (shape T)) T.D T.to T.to_one (struct_sync (shape T) parts) in
    view_sync _ _ _ _ _ f

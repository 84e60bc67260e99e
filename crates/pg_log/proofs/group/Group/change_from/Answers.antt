use Rattle.std.proofs.Common.{arith}
use Rattle.pg_log.proofs.Adopted.{entries_long}
use Rattle.pg_log.proofs.group.Group.change_from.Goals as goal

pub change_end-requires-clause-within : goal.change_end-requires-clause-within
change_end-requires-clause-within g c =
    (omega (arith, c.if-at-eq0.false), entries_long c.self.inside.log.entries.items c.args.self.now c.args.at c.self.view_is c.requires.within.0, c.requires.within.1)

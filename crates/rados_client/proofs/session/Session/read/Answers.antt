use Rattle.std.specs.Prelude.{codes}
use Rattle.std.specs.Int.{w64, to_le_bytes}
use Rattle.rados_client.proofs.Calling.{two_parts}
use Rattle.rados_client.proofs.session.Session.read.Goals as goal

pub returns : goal.returns
returns g c =
    two_parts g.N.Classes.classes c.args.self.now c.call.new.self c.args.object.now c.new.result 1 (codes "read") c.to_le_bytes.result c.to_le_bytes-2.result
    (to_le_bytes w64 c.args.offset) (to_le_bytes w64 c.args.length) c.call.result c.new.ensures c.to_le_bytes.ensures c.to_le_bytes-2.ensures c.call.ensures

use Rattle.pg_log.proofs.Carried.{carried}
use Rattle.pg_log.proofs.group.Group.with_classes_added.Goals as goal

pub invariant_of-result : goal.invariant_of-result
invariant_of-result g c =
    carried g.C.Classes.classes g.D.Classes.classes c.requires c.self.inside.log.entries.items c.self.inside.log.objects c.self.inside.log.places c.self.invariant

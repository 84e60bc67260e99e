use Rattle.std.proofs.Common.{subst}
use Rattle.object_store.specs.Object.{PlainObject}
use Rattle.object_store.specs.Limits.{IsAnyObject}
use Rattle.txn.specs.Staging.{kept}
use Rattle.parts.specs.Known.{KnownObject, Stands}
use Rattle.parts.proofs.Some.{some_object}
use Rattle.parts.proofs.staged_part.StagedPart.some_object.Goals as goal

pub returns : goal.returns
returns c =
    let s = c.self.inside in
    let k : KnownObject = record { present = s.is_there; bytes = s.bytes; xattrs = s.xattrs; keys = s.keys; list = kept s.list } in
    subst (λ (x : KnownObject). (o : PlainObject) × IsAnyObject o × Stands x o) c.self.view_is
    (some_object k c.size-size.ensures.within c.within.ensures c.within-2.ensures c.within-3.ensures c.self.invariant)

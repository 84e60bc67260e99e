use Rattle.std.proofs.Common.{Some}
use Rattle.part_bytes.specs.View.{content_view}
use Rattle.parts.specs.Agreed.{KnowsAll, KnowsContent, AgreesPart}
use Rattle.parts.specs.Known.{Stands}
use Rattle.object_store.specs.Object.{PlainObject}
use Rattle.loop_objects.proofs.Entire.{agrees, is_part, knows_all, on_ok}
use Rattle.loop_objects.proofs.whole.whole_of.Goals as goal

pub of-requires : goal.of-requires
of-requires c = is_part c.args.object.now (content_view c.in_ok-part.part) c.within.ensures c.in_ok-part.ensures

pub returns-clause-stands : goal.returns-clause-stands
returns-clause-stands c =
    on_ok c.of.result (λ k. (o : PlainObject) → AgreesPart (Some (content_view c.in_ok-part.part)) o → Stands k o) (λ k. Stands k (Some c.args.object.now))
    (λ k h. h (Some c.args.object.now) (agrees c.args.object.now (content_view c.in_ok-part.part) c.within.ensures c.in_ok-part.ensures)) c.of.ensures.stands

pub returns-clause-known : goal.returns-clause-known
returns-clause-known c =
    on_ok c.of.result (KnowsContent (content_view c.in_ok-part.part)) KnowsAll
    (knows_all c.args.object.now (content_view c.in_ok-part.part) c.within.ensures c.in_ok-part.ensures) c.of.ensures.known

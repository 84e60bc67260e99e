use Rattle.std.proofs.Common.{◌+◌, ◌∙◌, ap, arith, subst, sym}
use Rattle.std.specs.Option.{option_copied}
use Rattle.object_store.specs.Names.{PlainObjects, stored}
use Rattle.pg_log.specs.declared.entry.Entry.{Entry}
use Rattle.sim.proofs.Making.{Making, all_made, none_made, one_made}
use Rattle.sim.proofs.objects.objects_of.Goals as goal

pub loop-entry-init : goal.loop-entry-init
loop-entry-init g c =
    let es = c.args.entries.now in
    subst (λ (o : PlainObjects). Making g.C.Classes.classes es es o) (sym c.new-made.ensures) (none_made _ es c.requires)

pub loop-entry-preserved : goal.loop-entry-preserved
loop-entry-preserved g c =
    let so_far = c.loop-entry.made in
    let put : Entry → PlainObjects = λ e. stored so_far e.request.object e.change.after in
    one_made _ c.args.entries.now c.args.entries.now c.loop-entry.entry-index (c.loop-entry.entry-index + 1) _ so_far _
    c.loop-entry-test.true (omega arith) c.loop-entry.invariant
    (c.in_ok-store.ensures.ok ∙ ap (λ n. stored so_far n (option_copied c.after.result)) c.object.ensures ∙ ap (stored so_far _) c.after.ensures ∙ ap put c.entry-item.is)

pub returns : goal.returns
returns g c = all_made _ c.args.entries.now c.args.entries.now c.loop-entry.entry-index c.loop-entry.made (omega arith) c.loop-entry.invariant

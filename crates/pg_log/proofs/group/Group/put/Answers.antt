use Rattle.std.proofs.Common.{◌≡◌, ◌∙◌, ap, sym, refl, length, rules, arith}
use Rattle.std.proofs.lemmas.Grind.{common_steps}
use Rattle.object_store.specs.Names.{stored}
use Rattle.pg_log.specs.Entries.{requests_of, Keeps}
use Rattle.pg_log.proofs.Kept.{keeps_push, keeps_same, on_err, on_ok, length-requests}
use Rattle.pg_log.proofs.Room.{room_twice}
use Rattle.pg_log.proofs.group.Group.put.Goals as goal

pub returns-then-is_err-clause-stays : goal.returns-then-is_err-clause-stays
returns-then-is_err-clause-stays g c =
    let es = c.args.log.now.entries.items in
    let xs = requests_of es in
    let r = c.args.entry.now.request in
    let n = length-requests es xs refl in
    let at : c.len-place.result ≡ length xs = omega arith in
    let put = c.in_ok-add.ensures.ok xs r c.requires.kept.indexed c.client-client.ensures c.number-number.ensures at in
    let back = c.remove.ensures.places xs r put c.client-client.ensures in
    let same = on_err c.apply-applied.result (sym c.is_err.ensures.value ∙ c.if-is_err.true) c.apply-applied.ensures.err in
    keeps_same g.C.Classes.classes es es c.args.log.now.objects c.apply-applied.new.objects c.args.log.now.places c.remove.new.self c.requires.kept refl same back

pub returns-in_err-add-clause-stays : goal.returns-in_err-add-clause-stays
returns-in_err-add-clause-stays g c =
    let es = c.args.log.now.entries.items in
    let fact : Keeps g.C.Classes.classes es c.args.log.now.objects c.add.new.self = keeps_same g.C.Classes.classes es es c.args.log.now.objects c.args.log.now.objects c.args.log.now.places c.add.new.self c.requires.kept refl refl
    (c.in_err-add.ensures.err (requests_of es) c.requires.kept.indexed) in
    search (rules, fact)

pub returns-clause-ok : goal.returns-clause-ok
returns-clause-ok g c =
    let es = c.args.log.now.entries.items in
    let xs = requests_of es in
    let e = c.args.entry.now in
    let n = length-requests es xs refl in
    let at : c.len-place.result ≡ length xs = omega arith in
    let put = c.in_ok-add.ensures.ok xs e.request c.requires.kept.indexed c.client-client.ensures c.number-number.ensures at in
    let next = on_ok c.apply-applied.result (sym c.is_err.ensures.value ∙ c.if-is_err.false) c.apply-applied.ensures.ok in
    let named : c.apply-applied.new.objects ≡ stored c.args.log.now.objects e.request.object e.change.after = next ∙ ap (λ n. stored c.args.log.now.objects n e.change.after) c.object-name.ensures in
    keeps_push g.C.Classes.classes es c.args.log.now.objects c.apply-applied.new.objects c.args.log.now.places c.add.new.self e c.requires.kept c.requires.next.legal c.requires.next.safe c.requires.next.outcome named put

pub returns-then-is_err-clause-room : goal.returns-then-is_err-clause-room
returns-then-is_err-clause-room g c = room_twice c.args.log.now.places c.add.new.self c.remove.new.self c.add.ensures.room c.remove.ensures.room

pub returns-clause-room : goal.returns-clause-room
returns-clause-room g c = grind (arith, common_steps)

pub apply-applied-requires : goal.apply-applied-requires
apply-applied-requires g c = grind (arith, common_steps)

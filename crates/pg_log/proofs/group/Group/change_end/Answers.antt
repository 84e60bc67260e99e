use Rattle.std.proofs.Common.{◌≡◌, ◌∙◌, ap, sym, subst, List, ◌++◌, take, drop, length, arith}
use Rattle.std.proofs.lemmas.Grind.{common_steps}
use Rattle.std.proofs.lemmas.List.{length-take-le, take-append-drop}
use Rattle.pg_log.specs.Requests.{ClientRequest}
use Rattle.pg_log.specs.Log.{fold}
use Rattle.pg_log.specs.Places.{ArePlaces, HasRoom}
use Rattle.pg_log.specs.Entries.{requests_of}
use Rattle.pg_log.specs.declared.entry.Entry.{Entry}
use Rattle.pg_log.proofs.Kept.{keeps_same}
use Rattle.pg_log.proofs.Adopted.{requests_of-take, requests_of-drop, keeps_beginning, cut_again, cut_entries, prefix_long}
use Rattle.pg_log.proofs.Room.{own_room, room_later}
use Rattle.pg_log.proofs.group.Group.change_end.Goals as goal

pub undo_from-requires-clause-folded : goal.undo_from-requires-clause-folded
undo_from-requires-clause-folded g c =
    c.in-Ok.ensures.value ∙ c.requires.kept.folded ∙ sym (ap (λ (w : List Entry). fold g.C.Classes.classes (requests_of w)) c.deref.ensures.value)

pub extend-requires-clause-kept : goal.extend-requires-clause-kept
extend-requires-clause-kept g c =
    let classes = g.C.Classes.classes in
    let es = c.args.log.now.entries.items in
    let xs = requests_of es in
    let k = c.args.at in
    let before = c.swap.ensures.x_after ∙ c.in_ok-undo_from.ensures.ok ∙ ap (λ (w : List Entry). fold classes (take k (requests_of w))) c.deref.ensures.value in
    let tail : c.deref-2.result.now ≡ drop k es = c.deref-2.ensures.value ∙ c.in_ok-tail.ensures.tail in
    let P : List ClientRequest → Type 0 = ArePlaces c.args.log.now.places in
    let whole = subst P (sym (take-append-drop k xs) ∙ ap (λ (w : List ClientRequest). take k xs ++ w) (sym (requests_of-drop es k) ∙ sym (ap requests_of tail))) c.requires.kept.indexed in
    keeps_beginning classes es c.split_off.new.self.items c.args.log.now.objects c.swap.new.x c.args.log.now.places c.take_back.new.self k c.requires.kept
    c.in_ok-tail.ensures.items before (c.take_back.ensures.places (take k xs) whole)

pub extend-requires-clause-begun : goal.extend-requires-clause-begun
extend-requires-clause-begun g c = ap requests_of c.in_ok-tail.ensures.items ∙ requests_of-take c.args.log.now.entries.items c.args.at ∙ c.requires.common

pub put_back-requires-clause-room : goal.put_back-requires-clause-room
put_back-requires-clause-room g c =
    let es = c.args.log.now.entries.items in
    let k = c.args.at in
    let same = cut_again es c.split_off.new.self.items c.extend.new.log.entries.items c.in_ok-tail.tail.items k c.requires.within.1 c.in_ok-tail.ensures.items c.in_ok-tail.ensures.tail c.extend.ensures.begun in
    let P : List ClientRequest → Type 0 = HasRoom c.extend.new.log.places in
    subst P (sym same)
    (room_later c.take_back.new.self c.extend.new.log.places _ (room_later c.args.log.now.places c.take_back.new.self _ (own_room c.args.log.now.places (requests_of es) c.requires.kept.indexed) c.take_back.ensures.room) c.extend.ensures.room)

pub returns-clause-kept : goal.returns-clause-kept
returns-clause-kept g c =
    let es = c.args.log.now.entries.items in
    let k = c.args.at in
    let same = cut_again es c.split_off.new.self.items c.extend.new.log.entries.items c.in_ok-tail.tail.items k c.requires.within.1 c.in_ok-tail.ensures.items c.in_ok-tail.ensures.tail c.extend.ensures.begun in
    let back = c.put_back.ensures.entries ∙ cut_entries es c.split_off.new.self.items c.extend.new.log.entries.items c.in_ok-tail.tail.items k c.requires.within.1 c.in_ok-tail.ensures.items c.in_ok-tail.ensures.tail c.extend.ensures.begun in
    let objects = c.put_back.ensures.objects ∙ c.swap-in-Err.ensures.x_after ∙ c.swap.ensures.y_after in
    let P : List ClientRequest → Type 0 = ArePlaces c.put_back.new.log.places in
    keeps_same g.C.Classes.classes es c.put_back.new.log.entries.items c.args.log.now.objects c.put_back.new.log.objects c.args.log.now.places c.put_back.new.log.places c.requires.kept back objects
    (subst P same c.put_back.ensures.places)

pub returns-clause-refused : goal.returns-clause-refused
returns-clause-refused g c =
    c.put_back.ensures.entries
    ∙ cut_entries c.args.log.now.entries.items c.split_off.new.self.items c.extend.new.log.entries.items c.in_ok-tail.tail.items c.args.at c.requires.within.1
    c.in_ok-tail.ensures.items c.in_ok-tail.ensures.tail c.extend.ensures.begun

pub put_back-requires-clause-fits : goal.put_back-requires-clause-fits
put_back-requires-clause-fits g c =
    let k = c.args.at in
    let es = c.args.log.now.entries.items in
    let cut : length c.split_off.new.self.items ≡ k = ap (λ (w : List Entry). length w) c.in_ok-tail.ensures.items ∙ length-take-le k es c.requires.within.1 in
    let longer = prefix_long c.split_off.new.self.items c.extend.new.log.entries.items c.extend.ensures.begun in
    omega (arith, cut, longer)

pub put_back-requires-clause-entries_room : goal.put_back-requires-clause-entries_room
put_back-requires-clause-entries_room g c = grind (arith, common_steps)

pub put_back-requires-clause-places : goal.put_back-requires-clause-places
put_back-requires-clause-places g c = c.extend.ensures.kept.indexed

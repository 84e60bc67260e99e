use Rattle.std.proofs.Common.{◌≡◌, ◌∙◌, ap, sym, subst, cond, List, ◌++◌, take, drop, arith}
use Rattle.std.proofs.lemmas.Grind.{common_steps}
use Rattle.std.proofs.lemmas.List.{take-append-drop}
use Rattle.pg_log.specs.declared.entry.Entry.{Entry}
use Rattle.pg_log.specs.Requests.{ClientRequest}
use Rattle.pg_log.specs.Places.{ArePlaces, HasRoom}
use Rattle.pg_log.specs.Entries.{requests_of}
use Rattle.pg_log.proofs.Adopted.{requests_of-take, requests_of-drop, requests_of-append, take_own, rest_of}
use Rattle.pg_log.proofs.Room.{room_later}
use Rattle.pg_log.proofs.group.adopt.put_back.Goals as goal

pub give_back-requires-clause-places : goal.give_back-requires-clause-places
give_back-requires-clause-places c =
    let es = c.args.log.now.entries.items in
    let k = c.args.at in
    let all : c.deref-2.result.now ≡ take k es ++ c.args.tail.now.items =
    c.deref-2.ensures.value ∙ c.append.ensures.items ∙ ap (λ b. cond b (c.truncate.new.self.items ++ c.args.tail.now.items) c.truncate.new.self.items) c.if-is_err.ensures.negation
    ∙ ap (λ (w : List Entry). w ++ c.args.tail.now.items) c.truncate.ensures.items in
    let P : List ClientRequest → Type 0 = ArePlaces c.take_back.new.self in
    let Q : List ClientRequest → Type 0 = ArePlaces c.args.log.now.places in
    let whole = sym (take-append-drop k (requests_of es)) ∙ ap (λ (w : List ClientRequest). take k (requests_of es) ++ w)
    (sym (requests_of-drop es k) ∙ sym (ap (λ (w : List Entry). requests_of (drop k w)) c.deref.ensures.value) ∙ ap requests_of (sym (rest_of c.deref.result.now k))) in
    let cut = c.take_back.ensures.places (take k (requests_of es)) (subst Q whole c.requires.places) in
    subst P (sym (ap (λ (w : List Entry). take k (requests_of w)) all ∙ take_own es c.args.tail.now.items k c.requires.fits)) cut

pub give_back-requires-clause-room : goal.give_back-requires-clause-room
give_back-requires-clause-room c =
    let es = c.args.log.now.entries.items in
    let k = c.args.at in
    let all : c.deref-2.result.now ≡ take k es ++ c.args.tail.now.items =
    c.deref-2.ensures.value ∙ c.append.ensures.items ∙ ap (λ b. cond b (c.truncate.new.self.items ++ c.args.tail.now.items) c.truncate.new.self.items) c.if-is_err.ensures.negation
    ∙ ap (λ (w : List Entry). w ++ c.args.tail.now.items) c.truncate.ensures.items in
    let P : List ClientRequest → Type 0 = HasRoom c.take_back.new.self in
    subst P (sym (ap requests_of all ∙ requests_of-append (take k es) c.args.tail.now.items ∙ ap (λ (w : List ClientRequest). w ++ requests_of c.args.tail.now.items) (requests_of-take es k)))
    (room_later c.args.log.now.places c.take_back.new.self _ c.requires.room c.take_back.ensures.room)

pub returns-clause-places : goal.returns-clause-places
returns-clause-places c =
    let es = c.args.log.now.entries.items in
    let k = c.args.at in
    let all : c.deref-2.result.now ≡ take k es ++ c.args.tail.now.items =
    c.deref-2.ensures.value ∙ c.append.ensures.items ∙ ap (λ b. cond b (c.truncate.new.self.items ++ c.args.tail.now.items) c.truncate.new.self.items) c.if-is_err.ensures.negation
    ∙ ap (λ (w : List Entry). w ++ c.args.tail.now.items) c.truncate.ensures.items in
    let P : List ClientRequest → Type 0 = ArePlaces c.give_back.new.self in
    subst P (ap requests_of all ∙ requests_of-append (take k es) c.args.tail.now.items ∙ ap (λ (w : List ClientRequest). w ++ requests_of c.args.tail.now.items) (requests_of-take es k))
    c.give_back.ensures

pub returns-clause-entries : goal.returns-clause-entries
returns-clause-entries c = grind (arith, common_steps)

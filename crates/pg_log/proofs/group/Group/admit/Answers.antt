use Rattle.std.proofs.Common.{sym, subst, List, ◌++◌, ◌∷◌, []}
use Rattle.std.proofs.lemmas.Result.{on_ok_weaker}
use Rattle.pg_log.specs.declared.entry.Entry.{Entry}
use Rattle.pg_log.specs.Entries.{Keeps, IsNextEntry, requests_of}
use Rattle.pg_log.proofs.group.Group.admit.Goals as goal

pub put-requires-clause-kept : goal.put-requires-clause-kept
put-requires-clause-kept g c =
    let R : List Entry → Type 0 = λ w. Keeps g.C.Classes.classes w c.args.log.now.objects c.args.log.now.places in
    subst R (sym c.reserve.ensures.items) c.requires.kept

pub put-requires-clause-next : goal.put-requires-clause-next
put-requires-clause-next g c =
    let R : List Entry → Type 0 = λ w. IsNextEntry g.C.Classes.classes (requests_of w) c.args.entry.now in
    subst R (sym c.reserve.ensures.items) c.requires.next

pub returns-clause-ok : goal.returns-clause-ok
returns-clause-ok g c =
    let R : List Entry → Type 0 = λ w. Keeps g.C.Classes.classes (w ++ c.args.entry.now ∷ []) c.put.new.log.objects c.put.new.log.places in
    on_ok_weaker c.put.result (λ h. subst R c.reserve.ensures.items h) c.put.ensures.ok

pub returns-clause-room : goal.returns-clause-room
returns-clause-room g c = c.put.ensures.room

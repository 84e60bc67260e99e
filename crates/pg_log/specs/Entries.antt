-- The entries of a group, and the invariant that ties them to its objects and its index.
use Rattle.std.specs.Prelude.{◌≡◌, ℕ, ℤ, List, [], ◌∷◌, ◌++◌, Option, Some, None, map, slice_get}
use Rattle.std.specs.Borrow.{Bor}
use Rattle.std.specs.FinMap as fin
use Rattle.std.specs.Int.{w64, cast_unsigned}
use Rattle.object_store.specs.Object.{PlainObject}
use Rattle.object_store.specs.Names.{PlainObjects, stored}
use Rattle.txn.specs.Versions.{Versions}
use Rattle.bpf_decode.specs.Class.{ClassMethod}
use Rattle.bpf_machine.specs.State.{Outcome}
use Rattle.bpf_machine.specs.Safe.{IsSafe}
use Rattle.pg_log.specs.declared.entry.Entry.{Entry}
use Rattle.pg_log.specs.declared.group.log.Log.{Log}
use Rattle.pg_log.specs.declared.places.Places.{Places}
use Rattle.pg_log.specs.Requests.{ClientRequest}
use Rattle.pg_log.specs.Log.{Classes, Reply, Legal, method_of, outcome_of_method, after, fold}
use Rattle.pg_log.specs.Places.{ArePlaces}

-- a reply and the object after a change, as a machine's outcome
abbrev pub outcome_made : ℤ → List ℕ → Versions → Outcome
outcome_made code output change = record { code = cast_unsigned w64 code; output = output; object = change.after }

-- The code, the output and the object after are the machine's outcome of a method on an object,
-- which is the object before.
pub record IsOutcome (method : Option ClassMethod) (object : PlainObject) (r : ClientRequest) (code : ℤ)
    (output : List ℕ) (change : Versions) : Type 0 where
  pub made : outcome_made code output change ≡ outcome_of_method method object r
  pub from_before : change.before ≡ object

-- The code, output and change are those of the request on these objects.
abbrev pub IsOutcomeOn : Classes → PlainObjects → ClientRequest → ℤ → List ℕ → Versions → Type 0
IsOutcomeOn classes objects r code output change =
    IsOutcome (method_of classes r) (fin.get objects r.object) r code output change

-- Each entry's reply and change are those of its request on the objects that the requests before it
-- made.
abbrev pub AreEntries : Classes → PlainObjects → List Entry → Type 0
AreEntries classes objects [] = Unit {0}
AreEntries classes objects (e ∷ es) =
    IsOutcomeOn classes objects e.request e.code e.output.items e.change ×
    AreEntries classes (after classes objects e.request) es

-- the log's requests
abbrev pub requests_of : List Entry → List ClientRequest
requests_of es = map (λ e. e.request) es

-- the objects with the one of that name as it was before the change
abbrev pub undone : PlainObjects → List ℕ → Versions → PlainObjects
undone objects name change = stored objects name change.before

-- The method that a request names is safe.
abbrev pub IsSafeRequest : Classes → ClientRequest → Type 0
IsSafeRequest classes r = (m : ClassMethod) → method_of classes r ≡ Some m → IsSafe m

-- The methods that a list's requests name are safe.
abbrev pub AreSafe : Classes → List ClientRequest → Type 0
AreSafe classes list = (i : ℕ) (r : ClientRequest) → slice_get list i ≡ Some r → IsSafeRequest classes r

-- a reply as the code gives it: a code and a borrow of the output
abbrev pub given_reply : Option (ℤ × Bor (List ℕ)) → Option Reply
given_reply None = None
given_reply (Some p) = Some (record { code = cast_unsigned w64 p.0; output = p.1.now })

-- An entry that may be kept after those of a list: its request may follow, its method is safe, and
-- reply and change are those of the request.
pub record IsNextEntry (classes : Classes) (xs : List ClientRequest) (e : Entry) : Type 0 where
  pub legal : Legal classes (xs ++ e.request ∷ [])
  pub safe : IsSafeRequest classes e.request
  pub outcome : IsOutcomeOn classes (fold classes xs) e.request e.code e.output.items e.change

-- The invariant of a group: a legal log of safe methods, the replies and changes of its requests,
-- the objects that they make, and their places in the index.
pub record Keeps (classes : Classes) (entries : List Entry) (objects : PlainObjects) (places : Places) : Type 0 where
  pub legal : Legal classes (requests_of entries)
  pub safe : AreSafe classes (requests_of entries)
  pub kept : AreEntries classes fin.empty entries
  pub folded : objects ≡ fold classes (requests_of entries)
  pub indexed : ArePlaces places (requests_of entries)

-- the invariant for a log
abbrev pub KeepsLog : Classes → Log → Type 0
KeepsLog classes log = Keeps classes log.entries.items log.objects log.places

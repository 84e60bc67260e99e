-- The lists of requests that are legal, and the effect of a list: the objects that it makes, and
-- the reply of each request.
use Rattle.std.specs.Prelude.{◌≡◌, ℕ, ◌<◌, ◌≤◌, List, [], ◌∷◌, Option, Some, None, slice_get, take, length}
use Rattle.std.specs.FinMap as map
use Rattle.bpf_decode.specs.Class.{ClassMethod}
use Rattle.object_store.specs.Object.{PlainObject}
use Rattle.object_store.specs.Names.{PlainObjects, stored}
use Rattle.bpf_machine.specs.State.{Outcome}
use Rattle.bpf_machine.specs.Safe.{call_outcome}
use Rattle.interp.specs.Plain.{method_named}
use Rattle.pg_log.specs.declared.group.TheConstants.{LOG_LIMIT}
use Rattle.pg_log.specs.Requests.{ClientRequest}

-- the loaded classes, by id
abbrev pub Classes : Type 0
Classes = List (List ClassMethod)

-- the reply to a request: the code, as a number below 2 ^ 64 that is read as a signed one, and the
-- output
pub record Reply : Type 0 where
  pub code : ℕ
  pub output : List ℕ

-- the request names a loaded class and a method of it, and its input is within the method's in_cap
pub record CanRun (classes : Classes) (r : ClientRequest) : Type 0 where
  pub class : List ClassMethod
  pub loaded : slice_get classes r.class ≡ Some class
  pub method : ClassMethod
  pub named : method_named class r.method ≡ Some method
  pub short : length r.input ≤ method.in_cap

-- of two requests of one client the later has the greater number
abbrev pub NumbersRise : List ClientRequest → Type 0
NumbersRise list =
    (i j : ℕ) (a b : ClientRequest) → i < j → slice_get list i ≡ Some a → slice_get list j ≡ Some b →
    a.client ≡ b.client → a.number < b.number

-- A legal list, which a log may hold: it isn't too long, each request can run, and numbers rise.
pub record Legal (classes : Classes) (list : List ClientRequest) : Type 0 where
  pub limit : length list ≤ LOG_LIMIT
  pub run : (i : ℕ) (r : ClientRequest) → slice_get list i ≡ Some r → CanRun classes r
  pub rise : NumbersRise list

-- the method that a request names, if its class is loaded and has it
abbrev pub method_in : Option (List ClassMethod) → List ℕ → Option ClassMethod
method_in None name = None
method_in (Some class) name = method_named class name

-- by the loaded classes
abbrev pub method_of : Classes → ClientRequest → Option ClassMethod
method_of classes r = method_in (slice_get classes r.class) r.method

-- the machine's outcome of a request's method on an object; without such a method the object stays,
-- with code 0 and no output
unfoldable pub outcome_of_method : Option ClassMethod → PlainObject → ClientRequest → Outcome
outcome_of_method None object r = record { code = 0; output = []; object = object }
outcome_of_method (Some m) object r = call_outcome m object r.client r.input

-- the outcome of a request on the object that it names
abbrev pub outcome : Classes → PlainObjects → ClientRequest → Outcome
outcome classes objects r = outcome_of_method (method_of classes r) (map.get objects r.object) r

-- the objects after a request
abbrev pub after : Classes → PlainObjects → ClientRequest → PlainObjects
after classes objects r = stored objects r.object (outcome classes objects r).object

-- the objects after these requests, one after the other
abbrev pub fold_from : Classes → PlainObjects → List ClientRequest → PlainObjects
fold_from classes objects [] = objects
fold_from classes objects (r ∷ rs) = fold_from classes (after classes objects r) rs

-- The objects of a list: none at first, then changed by each request in turn.
abbrev pub fold : Classes → List ClientRequest → PlainObjects
fold classes list = fold_from classes map.empty list

-- the reply of a request that runs on these objects
abbrev pub reply_to : Classes → PlainObjects → Option ClientRequest → Option Reply
reply_to classes objects None = None
reply_to classes objects (Some r) =
    Some (record { code = (outcome classes objects r).code; output = (outcome classes objects r).output })

-- The reply of the request at a place: its outcome on the objects that those before it make.
abbrev pub reply_at : Classes → List ClientRequest → ℕ → Option Reply
reply_at classes list k = reply_to classes (fold classes (take k list)) (slice_get list k)

-- The objects of a group are within the limits.
use Rattle.std.specs.Prelude.{ℕ, ◌<◌, ◌^◌, List}
use Rattle.std.specs.List.{AllByRecursion}
use Rattle.std.specs.FinMap as map
use Rattle.bpf_decode.specs.Class.{IsClass}
use Rattle.object_store.specs.Object.{IsObject, AreBytes}
use Rattle.object_store.specs.Names.{PlainObjects}
use Rattle.pg_log.specs.Requests.{ClientRequest}
use Rattle.pg_log.specs.Log.{Classes, Legal, fold}

-- a request within its type's ranges: a client's number of 32 bits, and an input of bytes
pub record IsRequest (r : ClientRequest) : Type 0 where
  pub client : r.client < 2 ^ 32
  pub bytes : AreBytes r.input

-- each object is absent, or within all limits
abbrev pub AreWithinLimits : PlainObjects → Type 0
AreWithinLimits objects = (name : List ℕ) → IsObject (map.get objects name)

-- a legal list makes such objects if its classes and requests are within their own limits
abbrev pub FoldsAreWithinLimits : Type 0
FoldsAreWithinLimits = (classes : Classes) (list : List ClientRequest) → AllByRecursion IsClass classes →
    Legal classes list → AllByRecursion IsRequest list → AreWithinLimits (fold classes list)

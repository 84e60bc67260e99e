-- The run of a request's method at the request's place in a list.
use Rattle.std.specs.Prelude.{◌≡◌, ℕ, ◌+◌, ◌≤◌, List, Some, slice_get, take, length}
use Rattle.std.specs.List.{AllByRecursion}
use Rattle.std.specs.FinMap as map
use Rattle.bpf_decode.specs.Class.{ClassMethod, IsClass}
use Rattle.object_store.specs.Names.{stored}
use Rattle.bpf_machine.specs.State.{Outcome}
use Rattle.bpf_machine.specs.Safe.{RunsTo}
use Rattle.pg_log.specs.Requests.{ClientRequest}
use Rattle.pg_log.specs.Log.{Classes, Legal, method_of, fold, reply_at}
use Rattle.pg_log.specs.Entries.{AreSafe}
use Rattle.pg_log.specs.Within.{IsRequest}

-- The request ran: in every layout of the regions its method's bytes ran on the object that the
-- requests before it left, to this outcome, in at most as many steps as the method has
-- instructions. Code and output are the reply at the place, and the object after is the one that is
-- left.
pub record RanAt (classes : Classes) (list : List ClientRequest) (k : ℕ) (r : ClientRequest) : Type 0 where
  pub method : ClassMethod
  pub named : method_of classes r ≡ Some method
  pub outcome : Outcome
  pub steps : ℕ
  pub few : steps ≤ length method.instructions
  pub runs : RunsTo method (map.get (fold classes (take k list)) r.object) r.client r.input outcome steps
  pub reply : reply_at classes list k ≡ Some (record { code = outcome.code; output = outcome.output })
  pub left : fold classes (take (k + 1) list) ≡ stored (fold classes (take k list)) r.object outcome.object

-- each request of a legal list of safe methods ran at its place
abbrev pub RepliesRun : Type 0
RepliesRun =
    (classes : Classes) (list : List ClientRequest) → AllByRecursion IsClass classes → AllByRecursion IsRequest list →
    Legal classes list → AreSafe classes list →
    (k : ℕ) (r : ClientRequest) → slice_get list k ≡ Some r → RanAt classes list k r

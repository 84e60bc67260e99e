-- The results of a look into the mailbox.
use Rattle.std.specs.Prelude.{⊤, List, Result, IfOk, IfErr}
use Rattle.pg_log.specs.Requests.{ClientRequest}
use Rattle.pg_log.specs.Log.{Classes}
use Rattle.rados_client.specs.declared.exec_error.ExecError.{ExecError}
use Rattle.rados_client.specs.declared.found.Found.{Found}
use Rattle.rados_client.specs.declared.found.Found.TheVariants as found
use Rattle.rados_client.specs.Session.{PlacedReply}
use Rattle.rados_client.specs.Promise.{IsAnswered, Says}

-- The result is true of the request, by the lists that are known then: a reply, or a refusal, which
-- is a node's.
abbrev pub IsFound : Classes → List (List ClientRequest) → ClientRequest → Found → Type 0
IsFound classes lists r found.Nothing = ⊤
IsFound classes lists r found.Later = ⊤
IsFound classes lists r (found.Refused e) = Says classes r ⊥ ⊥ e
IsFound classes lists r (found.Reply reply) = IsAnswered classes lists r reply

-- The answer that a look found is true of the request, by the lists that are known then. A node's
-- refusal never says that the tries are used up.
pub record IsAnswer (classes : Classes) (lists : List (List ClientRequest)) (r : ClientRequest)
    (result : Result PlacedReply ExecError) : Type 0 where
  pub ok : IfOk result (IsAnswered classes lists r)
  pub err : IfErr result (Says classes r ⊥ ⊥)

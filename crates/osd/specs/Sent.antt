-- What is added to a sender's pass.
use Rattle.std.specs.Prelude.{◌≡◌, ℕ, List, ◌++◌, All}
use Rattle.op_shards.specs.Passes.{Sender, at_shard}
use Rattle.op_shards.specs.declared.rule.Ranked.{Ranked}
use Rattle.carried.specs.declared.operation.Carried.{Carried}
use Rattle.carried.specs.declared.operation.Carried.TheVariants.{Request as ARequest, Map as AMap, Message as AMessage}
use Rattle.carried.specs.declared.operation.Operation.{Operation}

-- From the first state of a pass to the second, nothing that was accepted is lost, and each
-- operation that was accepted since then has the property P.
pub record OnlySent (s t : Sender Operation) (P : Operation → Type 0) : Type 0 where
  pub since : ℕ → List (Ranked Operation)
  pub kept : (shard : ℕ) → at_shard s.accepted shard ++ since shard ≡ at_shard t.accepted shard
  pub each : (shard : ℕ) → All (λ x. P x.op) (since shard)

-- any operation
abbrev pub IsAny : Operation → Type 0
IsAny op = Unit {0}

-- that operation
abbrev pub IsThat : Operation → Operation → Type 0
IsThat this op = op ≡ this

-- it is no request of a client
abbrev pub IsNoRequest : Carried → Type 0
IsNoRequest (ARequest r) = ⊥
IsNoRequest (AMap m) = Unit {0}
IsNoRequest (AMessage m) = Unit {0}

-- an operation for the group that brings no request of a client
abbrev pub IsInternalTo : ℕ → Operation → Type 0
IsInternalTo group op = (op.group ≡ group) × IsNoRequest op.carried

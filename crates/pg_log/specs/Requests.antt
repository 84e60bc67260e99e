-- A client's request, as contracts see it.
use Rattle.std.specs.Prelude.{ℕ, List, [], Option, Some, None, string_bytes}
use Rattle.std.specs.Arc.{arc_value}
use Rattle.std.specs.declared.sync.Arc.{Arc}
use Rattle.std.specs.declared.vec.Vec.{Vec}
use Rattle.pg_log.specs.declared.request_parts.RequestParts.{RequestParts}

-- Client and number identify a request. It names the object and the method by their names' bytes,
-- the class by its id in the table.
pub record ClientRequest : Type 0 where
  pub client : ℕ
  pub number : ℕ
  pub object : List ℕ
  pub class : ℕ
  pub method : List ℕ
  pub input : List ℕ

-- the request that the code keeps in these parts
abbrev pub said_by : RequestParts → ClientRequest
said_by p = record {
  client = p.client;
  number = p.number;
  object = p.object;
  class = p.class;
  method = string_bytes p.method;
  input = p.input.items;
}

-- the list that messages share by a pointer, which is empty if there is no pointer
abbrev pub listed : {Y Z : Type 0} → Option (Arc (Vec ClientRequest Y) Z) → List ClientRequest
listed None = []
listed (Some all) = (arc_value all).items

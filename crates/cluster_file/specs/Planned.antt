-- A call as a file plans it.
use Rattle.std.specs.Prelude.{ℕ, List}

-- A CALL: its client, its object, its class (by its id, and by its word in the file), its method
-- and its input.
pub record PlannedCall : Type 0 where
  pub client : ℕ
  pub object : List ℕ
  pub class : ℕ
  pub word : List ℕ
  pub method : List ℕ
  pub input : List ℕ

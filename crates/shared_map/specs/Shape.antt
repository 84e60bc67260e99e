-- What a tree is seen as.
use Rattle.std.specs.Prelude.{ℕ}
use Rattle.shared_map.specs.Entries.{Entries}

-- the entries in order, and how many of them stand on the longest way down
pub record Shape (V : Type 0) : Type 0 where
  pub entries : Entries V
  pub height : ℕ

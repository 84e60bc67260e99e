-- Entries with the same content, wherever they lie in memory.
use Rattle.std.specs.Prelude.{◌≡◌}
use Rattle.pg_log.specs.declared.entry.Entry.{Entry}

-- equal in each part; of the outputs the bytes count
pub record IsSameEntry (e f : Entry) : Type 0 where
  pub request : e.request ≡ f.request
  pub code : e.code ≡ f.code
  pub output : e.output.items ≡ f.output.items
  pub change : e.change ≡ f.change

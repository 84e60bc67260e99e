-- The edits of a helper, by its answer.
use Rattle.std.proofs.Common.{◌≡◌, ℕ, ◌^◌, ◌<◌, List, [], Bool, true, false, refl}
use Rattle.std.specs.Prelude.{nat_lt, if◌then◌else◌}
use Rattle.std.proofs.lemmas.Bool.{cond-true, lt-ltb}
use Rattle.txn.specs.Edits.{Edit}
use Rattle.helpers.specs.Edits.{if_done}

pub done : (n : ℕ) (es : List Edit) → n < 2 ^ 63 → if_done n es ≡ es
done n es h = cond-true (nat_lt n (2 ^ 63)) es [] (lt-ltb n (2 ^ 63) h)

abbrev no_edits : List Edit
no_edits = []

pub none : (n : ℕ) → if_done n no_edits ≡ no_edits
none n = by (nat_lt n (2 ^ 63))
  where
    by : (b : Bool) → (if b then no_edits else no_edits) ≡ no_edits
    by true = refl
    by false = refl

-- How what is known of an object goes on: what a helper that changes the object leaves known, and that it grows.
use Rattle.std.specs.Prelude.{◌≡◌, ℕ, ◌^◌, Bool, false, ◌&&◌, ◌||◌, nat_lt, nat_le, if◌then◌else◌, IsTrue, IsSome}
use Rattle.std.specs.Prelude.{List, is_some}
use Rattle.part_data.specs.Known.{KnownData, known, block_of, blocks_of}
use Rattle.part_names.specs.Order.{is_held}
use Rattle.part_names.specs.Known.{PlainNames}
use Rattle.parts.specs.Known.{KnownObject}

-- whether a helper that answers a number was done: it wasn't refused
abbrev pub is_done : ℕ → Bool
is_done answer = nat_lt answer (2 ^ 63)

-- What is known after a helper that answers a number: each position that was known, and those that it makes known if
-- it was done; and what it makes of the names.
pub record Learns (also : ℕ → Bool) (of_xattrs of_keys : PlainNames → PlainNames) (old new : KnownObject)
    (answer : ℕ) : Type 0 where
  pub bytes : (p : ℕ) → is_some (known new.bytes p) ≡ ((also p && is_done answer) || is_some (known old.bytes p))
  pub xattrs : new.xattrs ≡ (if is_done answer then of_xattrs old.xattrs else old.xattrs)
  pub keys : new.keys ≡ (if is_done answer then of_keys old.keys else old.keys)

-- no position becomes known, and names stay
abbrev pub no_position : ℕ → Bool
no_position p = false

abbrev pub as_before : PlainNames → PlainNames
as_before names = names

-- where data is cut to a length, the blocks past the last one become known
abbrev pub past_cut : KnownData → ℕ → ℕ → Bool
past_cut d len p = nat_lt len d.size && nat_le (blocks_of len) (block_of p)

-- What is known grows: each position that was known is, and each name that an interval held is held. A name that was
-- known since it was set may become unknown, as it is removed.
pub record Grows (old new : KnownObject) : Type 0 where
  pub bytes : (p : ℕ) → IsSome (known old.bytes p) → IsSome (known new.bytes p)
  pub xattrs : (name : List ℕ) → IsTrue (is_held old.xattrs.intervals name) →
      IsTrue (is_held new.xattrs.intervals name)
  pub keys : (name : List ℕ) → IsTrue (is_held old.keys.intervals name) → IsTrue (is_held new.keys.intervals name)

-- Of an object of which all is known nothing more is needed.
use Rattle.std.proofs.Common.{◌≡◌, ℕ, ◌*◌, ◌/◌, Bool, true, false, List, Option, Some, None, IsSome, is_some, arith}
use Rattle.std.specs.Prelude.{◌||◌}
use Rattle.std.specs.FinMap as fin
use Rattle.object_store.specs.declared.limits.Limits.{Limits}
use Rattle.bpf_decode.specs.Class.{ClassMethod}
use Rattle.helpers.specs.declared.helper.Helper.{Helper}
use Rattle.helpers.specs.declared.helper.Helper.TheVariants.{Stat, Read, Write, Truncate, Remove, GetXattr, SetXattr, RmXattr, MapGet, MapSet, MapRm, MapNext, OutLen, Create, Caller, Compare, Copy, XattrNext}
use Rattle.helpers.specs.Effect.{Given, number, text}
use Rattle.part_bytes.specs.declared.need.Need.{Need}
use Rattle.part_bytes.specs.declared.need.Need.TheVariants.{Blocks, Xattr, Key, KeyFrom, XattrFrom}
use Rattle.part_data.specs.Known.{known}
use Rattle.part_names.specs.Known.{PlainNames, is_known}
use Rattle.part_names.specs.Order.{is_held}
use Rattle.parts.specs.Agreed.{KnowsAll}
use Rattle.parts.specs.Grows.{Grows}
use Rattle.parts.specs.Known.{KnownObject}
use Rattle.parts.specs.Needs.{NeedsBlocks, NeedsXattr, NeedsKey, NeedsKeyFrom, NeedsXattrFrom}
use Rattle.parts.specs.declared.stop.Stop.{Stop}
use Rattle.parts.specs.declared.stop.Stop.TheVariants as stop
use Rattle.part_calls.specs.Needed.{NeededBy}
use Rattle.loop_calls.specs.ByBudget.{StopsByBudget}
use Rattle.loop_objects.specs.inner.Making.{IsNoNeed}

-- a name that an interval holds isn't unknown
held_known : (a b : Bool) → b ≡ true → (a || b) ≡ false → ⊥
held_known true b h e = absurd cc
held_known false true h e = absurd cc
held_known false false h e = absurd cc

not_unknown : (names : PlainNames) (name : List ℕ) → is_held names.intervals name ≡ true → is_known names name ≡ false → ⊥
not_unknown names name h e = held_known (is_some (fin.get names.entries name)) (is_held names.intervals name) h e

not_none : (o : Option ℕ) → IsSome o → o ≡ None → ⊥
not_none None h e = cc
not_none (Some x) h e = cc

module _ (k last : KnownObject) (all : KnowsAll k) (grows : Grows k last) where
  blocks_not : (at n : ℕ) (need : Need) → NeedsBlocks last at n need → ⊥
  blocks_not at n (Blocks first count) h =
      let here : (first * 4096) / 4096 ≡ first = omega arith in
      not_none (known last.bytes (first * 4096)) (grows.bytes (first * 4096) (all.bytes (first * 4096))) (h.1.first (first * 4096) here)
  blocks_not at n (Xattr name) h = h
  blocks_not at n (Key name) h = h
  blocks_not at n (KeyFrom place) h = h
  blocks_not at n (XattrFrom place) h = h

  xattr_not : (limits : Limits) (name : List ℕ) (need : Need) → NeedsXattr limits last name need → ⊥
  xattr_not limits name (Xattr needed) h = not_unknown last.xattrs name (grows.xattrs name (all.xattrs_held name)) h.0.unknown
  xattr_not limits name (Blocks first count) h = h
  xattr_not limits name (Key needed) h = h
  xattr_not limits name (KeyFrom place) h = h
  xattr_not limits name (XattrFrom place) h = h

  key_not : (limits : Limits) (key : List ℕ) (need : Need) → NeedsKey limits last key need → ⊥
  key_not limits key (Key needed) h = not_unknown last.keys key (grows.keys key (all.keys_held key)) h.0.unknown
  key_not limits key (Blocks first count) h = h
  key_not limits key (Xattr needed) h = h
  key_not limits key (KeyFrom place) h = h
  key_not limits key (XattrFrom place) h = h

  key_from_not : (limits : Limits) (key : List ℕ) (need : Need) → NeedsKeyFrom limits last key need → ⊥
  key_from_not limits key (KeyFrom place) h = not_unknown last.keys place.items (grows.keys place.items (all.keys_held place.items)) h.gap.unknown
  key_from_not limits key (Blocks first count) h = h
  key_from_not limits key (Xattr needed) h = h
  key_from_not limits key (Key needed) h = h
  key_from_not limits key (XattrFrom place) h = h

  xattr_from_not : (limits : Limits) (name : List ℕ) (need : Need) → NeedsXattrFrom limits last name need → ⊥
  xattr_from_not limits name (XattrFrom place) h = not_unknown last.xattrs place.items (grows.xattrs place.items (all.xattrs_held place.items)) h.gap.unknown
  xattr_from_not limits name (Blocks first count) h = h
  xattr_from_not limits name (Xattr needed) h = h
  xattr_from_not limits name (Key needed) h = h
  xattr_from_not limits name (KeyFrom place) h = h

  needed_not : (h : Helper) (g : Given) (need : Need) → NeededBy h last g need → ⊥
  needed_not Stat g need n = n
  needed_not Read g need n = blocks_not (number g 0) g.room need n
  needed_not Write g need n = n
  needed_not Truncate g need n = n
  needed_not Remove g need n = n
  needed_not GetXattr g need n = xattr_not g.limits (text g 0) need n
  needed_not SetXattr g need n = n
  needed_not RmXattr g need n = xattr_not g.limits (text g 0) need n
  needed_not MapGet g need n = key_not g.limits (text g 0) need n
  needed_not MapSet g need n = n
  needed_not MapRm g need n = key_not g.limits (text g 0) need n
  needed_not MapNext g need n = key_from_not g.limits (text g 0) need n
  needed_not OutLen g need n = n
  needed_not Create g need n = n
  needed_not Caller g need n = n
  needed_not Compare g need n = n
  needed_not Copy g need n = n
  needed_not XattrNext g need n = xattr_from_not g.limits (text g 0) need n

-- a call by a budget stops there for no need
pub no_need : (limits : Limits) (m : ClassMethod) (budget : ℕ) (k : KnownObject) (caller : ℕ) (input : List ℕ) → KnowsAll k → (why : Stop) → StopsByBudget limits m budget k caller input why → IsNoNeed why
no_need limits m budget k caller input all stop.NoMemory h = tt
no_need limits m budget k caller input all stop.Full h = tt
no_need limits m budget k caller input all (stop.Needs need) h = needed_not k h.known all h.grows h.helper h.given need h.stops

-- Of two calls on one object, one that knows more needs nothing that the other didn't.
use Rattle.std.specs.Prelude.{◌≡◌, ℕ, ◌+◌, ◌<◌, ◌≤◌, IsTrue, IsSome, List, Some}
use Rattle.bpf_decode.specs.Class.{ClassMethod}
use Rattle.object_store.specs.declared.limits.Limits.{Limits}
use Rattle.object_store.specs.Object.{PlainObject}
use Rattle.helpers.specs.declared.helper.Helper.{Helper}
use Rattle.helpers.specs.Effect.{Given}
use Rattle.helpers.specs.Table.{helper_of}
use Rattle.part_bytes.specs.declared.need.Need.{Need}
use Rattle.part_bytes.specs.declared.need.Need.TheVariants.{Blocks, Xattr, Key, KeyFrom, XattrFrom}
use Rattle.part_data.specs.Known.{IsBlockKnown, known}
use Rattle.part_names.specs.Order.{is_held}
use Rattle.part_names.specs.Known.{PlainNames, is_known}
use Rattle.parts.specs.Known.{KnownObject}
use Rattle.part_calls.specs.Needed.{NeededBy}
use Rattle.part_calls.specs.Parts.{Comes, EndsKnowing}

-- the intervals hold each name that those of the other hold, and each name is known that is there
pub record HasNamesOf (less more : PlainNames) : Type 0 where
  pub held : (name : List ℕ) → IsTrue (is_held less.intervals name) → IsTrue (is_held more.intervals name)
  pub known : (name : List ℕ) → IsTrue (is_known less name) → IsTrue (is_known more name)

-- and so is each position
pub record KnowsMore (less more : KnownObject) : Type 0 where
  pub bytes : (p : ℕ) → IsSome (known less.bytes p) → IsSome (known more.bytes p)
  pub xattrs : HasNamesOf less.xattrs more.xattrs
  pub keys : HasNamesOf less.keys more.keys

-- Where a run on an object ended with what was known of it, one that begins with more comes to no call of a helper that
-- needs more still.
abbrev pub MoreIsEnough : Type 0
MoreIsEnough =
    (limits : Limits) (m : ClassMethod) (o : PlainObject) (caller : ℕ) (input : List ℕ) (less more : KnownObject) →
    KnowsMore less more → (steps : ℕ) → EndsKnowing limits m less o caller input steps →
    (count id : ℕ) (helper : Helper) (given : Given) (last : KnownObject) → helper_of id ≡ Some helper →
    Comes limits m o caller input count id helper given more last → (need : Need) →
    NeededBy helper last given need → ⊥

-- Where both come to a call that needs more, the one that begins with more comes to it no earlier.
abbrev pub MoreStopsNoEarlier : Type 0
MoreStopsNoEarlier =
    (limits : Limits) (m : ClassMethod) (o : PlainObject) (caller : ℕ) (input : List ℕ) (less more : KnownObject) →
    KnowsMore less more → (steps id : ℕ) (helper : Helper) (given : Given) (known : KnownObject) →
    Comes limits m o caller input steps id helper given less known →
    (count other_id : ℕ) (other : Helper) (asked : Given) (last : KnownObject) → helper_of other_id ≡ Some other →
    Comes limits m o caller input count other_id other asked more last → (need : Need) →
    NeededBy other last asked need → steps ≤ count

-- What a need names is known: its blocks, or its name. Of the least name from a place on nothing is said: a run may
-- have removed it, and then needs the one after it.
abbrev pub HasNeeded : KnownObject → Need → Type 0
HasNeeded k (Blocks first count) = (b : ℕ) → first ≤ b → b < first + count → IsBlockKnown k.bytes b
HasNeeded k (Xattr name) = IsTrue (is_held k.xattrs.intervals name.items)
HasNeeded k (Key name) = IsTrue (is_held k.keys.intervals name.items)
HasNeeded k (KeyFrom place) = ⊥
HasNeeded k (XattrFrom place) = ⊥

-- Where one begins with more, and with what the other needed, it has that call behind it.
abbrev pub NeededOnce : Type 0
NeededOnce =
    (limits : Limits) (m : ClassMethod) (o : PlainObject) (caller : ℕ) (input : List ℕ) (less more : KnownObject) →
    KnowsMore less more → (steps id : ℕ) (helper : Helper) (given : Given) (known : KnownObject) →
    helper_of id ≡ Some helper → Comes limits m o caller input steps id helper given less known → (need : Need) →
    NeededBy helper known given need → HasNeeded more need →
    (count other_id : ℕ) (other : Helper) (asked : Given) (last : KnownObject) → helper_of other_id ≡ Some other →
    Comes limits m o caller input count other_id other asked more last → (next : Need) →
    NeededBy other last asked next → steps < count

-- Calls on one part of an object after the other, each with more: how often they need something.
use Rattle.std.specs.Prelude.{◌≡◌, ℕ, suc, ◌+◌, ◌<◌, ◌≤◌, Bool, true, false, not, if◌then◌else◌, IsTrue}
use Rattle.std.specs.Prelude.{List, [], ◌∷◌, Option, Some, None, length}
use Rattle.std.specs.FinMap as fin
use Rattle.bpf_decode.specs.Class.{ClassMethod}
use Rattle.bpf_decode.specs.Instruction.{slots}
use Rattle.shared_map.specs.Entries.{key_above}
use Rattle.object_store.specs.declared.limits.Limits.{Limits}
use Rattle.object_store.specs.Object.{Attributes, PlainObject, content_of}
use Rattle.bpf_machine.specs.Lists.{listed_host_entry}
use Rattle.bpf_machine.specs.Safe.{caps_of, first_layout}
use Rattle.part_bytes.specs.declared.need.Need.{Need}
use Rattle.part_bytes.specs.declared.need.Need.TheVariants.{Blocks, Xattr, Key, KeyFrom, XattrFrom}
use Rattle.part_names.specs.Order.{Interval, is_below, is_held}
use Rattle.parts.specs.Known.{KnownObject}
use Rattle.parts.specs.declared.stop.Stop.TheVariants as stop
use Rattle.part_calls.specs.Parts.{MayBe, StopsAtCall}
use Rattle.part_calls.specs.More.{HasNeeded, KnowsMore}
use Rattle.part_rounds.specs.Counts.{calls_in, removals_in}

-- ---- what was needed

-- the least name of a map from a place on
abbrev pub name_from : Attributes → List ℕ → Option (List ℕ)
name_from m place = if fin.contains_key m place then Some place else key_above m place

-- whether a string is one up to and with another; None is the end of all strings
abbrev pub is_upto : List ℕ → Option (List ℕ) → Bool
is_upto a None = true
is_upto a (Some last) = not (is_below last a)

-- intervals hold each string from a place on, up to and with the map's least name there: to the end, if there is none
abbrev pub HoldNext : Attributes → List Interval → List ℕ → Type 0
HoldNext m is place =
    (a : List ℕ) → is_below a place ≡ false → IsTrue (is_upto a (name_from m place)) → IsTrue (is_held is a)

-- a part has what a need names of an object: its blocks, its name, or the least name from its place on
abbrev pub HasNamedOf : PlainObject → KnownObject → Need → Type 0
HasNamedOf o k (Blocks first count) = HasNeeded k (Blocks first count)
HasNamedOf o k (Xattr name) = HasNeeded k (Xattr name)
HasNamedOf o k (Key name) = HasNeeded k (Key name)
HasNamedOf o k (KeyFrom place) = HoldNext (content_of o).omap k.keys.intervals place.items
HasNamedOf o k (XattrFrom place) = HoldNext (content_of o).xattrs k.xattrs.intervals place.items

-- ---- rounds

-- a round: the call on what a part says of the object comes to a helper call that needs something
pub record Round (limits : Limits) (m : ClassMethod) (o : PlainObject) (caller : ℕ) (input : List ℕ) : Type 0 where
  pub part : KnownObject
  pub may_be : MayBe part o
  pub need : Need
  pub stops : StopsAtCall limits m part caller input (stop.Needs need)

module _ {limits : Limits} {m : ClassMethod} {o : PlainObject} {caller : ℕ} {input : List ℕ} where
  -- the next round's part has all of the one before, and what was needed
  pub record IsNext (r s : Round limits m o caller input) : Type 0 where
    pub more : KnowsMore r.part s.part
    pub named : HasNamedOf o s.part r.need

  -- so it is from round to round
  abbrev pub AreNext : Round limits m o caller input → List (Round limits m o caller input) → Type 0
  AreNext r [] = Unit {0}
  AreNext r (s ∷ rounds) = IsNext r s × AreNext s rounds

  -- how many instructions the last round's run has made as it stops
  abbrev pub last_stop : Round limits m o caller input → List (Round limits m o caller input) → ℕ
  last_stop r [] = r.stops.steps
  last_stop r (s ∷ rounds) = last_stop s rounds

-- how many of the run's first n instructions on an object call helpers, and how many of these remove a name
abbrev pub calls_on : Limits → ClassMethod → PlainObject → ℕ → List ℕ → ℕ → ℕ
calls_on limits m o caller input n =
    calls_in (caps_of m) (slots m.instructions)
    (listed_host_entry limits (caps_of m) (first_layout (caps_of m)) o caller input) n

abbrev pub removals_on : Limits → ClassMethod → PlainObject → ℕ → List ℕ → ℕ → ℕ
removals_on limits m o caller input n =
    removals_in (caps_of m) (slots m.instructions)
    (listed_host_entry limits (caps_of m) (first_layout (caps_of m)) o caller input) n

-- There are at most as many rounds as the run on the object calls helpers up to the last stop, the call at which it
-- stops among them, and removes names before it.
abbrev pub RoundsAreFew : Type 0
RoundsAreFew =
    (limits : Limits) (m : ClassMethod) (o : PlainObject) (caller : ℕ) (input : List ℕ)
    (first : Round limits m o caller input) (more : List (Round limits m o caller input)) → AreNext first more →
    length (first ∷ more) ≤
    calls_on limits m o caller input (suc (last_stop first more)) +
    removals_on limits m o caller input (last_stop first more)

-- So there are at most as many as the whole run has helper calls and removals of names.
abbrev pub RoundsAreFewInRun : Type 0
RoundsAreFewInRun =
    (limits : Limits) (m : ClassMethod) (o : PlainObject) (caller : ℕ) (input : List ℕ)
    (first : Round limits m o caller input) (more : List (Round limits m o caller input)) → AreNext first more →
    (n : ℕ) → last_stop first more < n →
    length (first ∷ more) ≤ calls_on limits m o caller input n + removals_on limits m o caller input n

-- The same of calls of a class on parts that a host gives as bytes.
use Rattle.std.specs.Prelude.{◌≡◌, ℕ, suc, ◌+◌, ◌<◌, ◌≤◌, false, IsTrue, List, [], ◌∷◌, Some, length}
use Rattle.bpf_decode.specs.Class.{ClassMethod}
use Rattle.object_store.specs.declared.limits.Limits.{Limits}
use Rattle.object_store.specs.Object.{Attributes, PlainObject, content_of}
use Rattle.interp.specs.Plain.{method_named}
use Rattle.part_bytes.specs.Part.{Content, Names, PlainPart}
use Rattle.part_bytes.specs.declared.need.Need.{Need}
use Rattle.part_bytes.specs.declared.need.Need.TheVariants.{Blocks, Xattr, Key, KeyFrom, XattrFrom}
use Rattle.part_names.specs.Order.{is_below}
use Rattle.parts.specs.declared.stop.Stop.TheVariants as stop
use Rattle.class_calls.specs.Parts.{StopsOnPart}
use Rattle.class_calls.specs.OnParts.{HasNamed, HasPart, IsNameThere, IsPartOf}
use Rattle.part_rounds.specs.Rounds.{name_from, is_upto, calls_on, removals_on}

-- a part's intervals hold each string from a place on, up to and with the map's least name there
abbrev pub HasNext : (Content → Names) → Attributes → PlainPart → List ℕ → Type 0
HasNext names m p place =
    (a : List ℕ) → is_below a place ≡ false → IsTrue (is_upto a (name_from m place)) → IsNameThere names p a

-- a part has what a need names of an object
abbrev pub HasAllNamed : PlainObject → PlainPart → Need → Type 0
HasAllNamed o p (Blocks first count) = HasNamed p (Blocks first count)
HasAllNamed o p (Xattr name) = HasNamed p (Xattr name)
HasAllNamed o p (Key name) = HasNamed p (Key name)
HasAllNamed o p (KeyFrom place) = HasNext (λ c. c.keys) (content_of o).omap p place.items
HasAllNamed o p (XattrFrom place) = HasNext (λ c. c.xattrs) (content_of o).xattrs p place.items

-- a round: the call on bytes that are a part of the object stops, since it needs something
pub record ClassRound (class : List ClassMethod) (name : List ℕ) (caller : ℕ) (limits : Limits) (input : List ℕ)
    (o : PlainObject) : Type 0 where
  pub bytes : List ℕ
  pub part : PlainPart
  pub is_part : IsPartOf bytes part o
  pub need : Need
  pub stops : StopsOnPart class name bytes caller limits input (stop.Needs need)

module _ {class : List ClassMethod} {name : List ℕ} {caller : ℕ} {limits : Limits} {input : List ℕ}
    {o : PlainObject} where
  -- the next round's part has all of the one before, and what was needed
  pub record IsNextPart (r s : ClassRound class name caller limits input o) : Type 0 where
    pub more : HasPart r.part s.part
    pub named : HasAllNamed o s.part r.need

  -- so it is from round to round
  abbrev pub AreNextParts : ClassRound class name caller limits input o →
      List (ClassRound class name caller limits input o) → Type 0
  AreNextParts r [] = Unit {0}
  AreNextParts r (s ∷ rounds) = IsNextPart r s × AreNextParts s rounds

  -- how many instructions the last round's run has made as it stops
  abbrev pub last_part_stop : ClassRound class name caller limits input o →
      List (ClassRound class name caller limits input o) → ℕ
  last_part_stop r [] = r.stops.stops.steps
  last_part_stop r (s ∷ rounds) = last_part_stop s rounds

-- There are at most as many rounds as the method's run on the object calls helpers up to the last stop, the call at
-- which it stops among them, and removes names before it.
abbrev pub PartRoundsAreFew : Type 0
PartRoundsAreFew =
    (class : List ClassMethod) (name : List ℕ) (caller : ℕ) (limits : Limits) (input : List ℕ) (o : PlainObject)
    (m : ClassMethod) → method_named class name ≡ Some m →
    (first : ClassRound class name caller limits input o)
    (more : List (ClassRound class name caller limits input o)) → AreNextParts first more →
    length (first ∷ more) ≤
    calls_on limits m o caller input (suc (last_part_stop first more)) +
    removals_on limits m o caller input (last_part_stop first more)

-- So there are at most as many as the whole run has helper calls and removals of names.
abbrev pub PartRoundsAreFewInRun : Type 0
PartRoundsAreFewInRun =
    (class : List ClassMethod) (name : List ℕ) (caller : ℕ) (limits : Limits) (input : List ℕ) (o : PlainObject)
    (m : ClassMethod) → method_named class name ≡ Some m →
    (first : ClassRound class name caller limits input o)
    (more : List (ClassRound class name caller limits input o)) → AreNextParts first more →
    (n : ℕ) → last_part_stop first more < n →
    length (first ∷ more) ≤ calls_on limits m o caller input n + removals_on limits m o caller input n

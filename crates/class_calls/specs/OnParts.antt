-- Calls on several parts of one object, and on the whole of it.
use Rattle.std.specs.Prelude.{◌≡◌, ℕ, ◌+◌, ◌<◌, ◌≤◌, List, Some, None}
use Rattle.std.specs.Int.{w64, cast_unsigned}
use Rattle.bpf_decode.specs.Class.{ClassMethod}
use Rattle.object_store.specs.declared.limits.Limits.{Limits}
use Rattle.object_store.specs.Limits.{profile, IsAnyObject}
use Rattle.object_store.specs.Object.{PlainObject}
use Rattle.object_bytes.specs.Flat as flat
use Rattle.part_bytes.specs.Part.{Content, Names, PlainPart, Spells, IsHeld, Everything}
use Rattle.part_bytes.specs.declared.need.Need.{Need}
use Rattle.part_bytes.specs.declared.need.Need.TheVariants.{Blocks, Xattr, Key, KeyFrom, XattrFrom}
use Rattle.part_data.specs.Known.{blocks_of}
use Rattle.parts.specs.Agreed.{AgreesPart}
use Rattle.parts.specs.declared.stop.Stop.TheVariants as stop
use Rattle.part_calls.specs.declared.answer.PartAnswer.{PartAnswer}
use Rattle.class_calls.specs.declared.answer.Answer.{Answer}
use Rattle.class_calls.specs.declared.part_call.PartCallError.TheVariants as call
use Rattle.class_calls.specs.Answers.{IsAnsweredBy}
use Rattle.class_calls.specs.Parts.{HasBlock, IsAnsweredByPart, RefusesPart, StopsOnPart}

-- the bytes spell this part, with which an object agrees that a host may have
pub record IsPartOf (bytes : List ℕ) (p : PlainPart) (o : PlainObject) : Type 0 where
  pub formed : IsAnyObject o
  pub spelled : Spells bytes p
  pub agrees : AgreesPart p o

-- ---- one answer

-- two answers say the same: of the codes all 64 bits
pub record AreSameOnParts (a b : PartAnswer) : Type 0 where
  pub code : cast_unsigned w64 a.code ≡ cast_unsigned w64 b.code
  pub steps : a.steps ≡ b.steps
  pub output : a.output.items ≡ b.output.items
  pub edits : a.edits.items ≡ b.edits.items

-- so do an answer on a part and one on a whole object
pub record SaysAsWhole (a : PartAnswer) (b : Answer) : Type 0 where
  pub code : cast_unsigned w64 a.code ≡ cast_unsigned w64 b.code
  pub steps : a.steps ≡ b.steps
  pub output : a.output.items ≡ b.output.items
  pub edits : a.edits.items ≡ b.edits.items

-- Calls on two parts of one object, by one host's limits, have the same answer, where both have one.
abbrev pub PartsAreAnsweredAlike : Type 0
PartsAreAnsweredAlike =
    (class : List ClassMethod) (name part other : List ℕ) (caller : ℕ) (limits : Limits) (input : List ℕ)
    (p q : PlainPart) (o : PlainObject) → IsPartOf part p o → IsPartOf other q o → (a b : PartAnswer) →
    IsAnsweredByPart class name part caller limits input a →
    IsAnsweredByPart class name other caller limits input b → AreSameOnParts a b

-- By the limits of all objects it is the answer on the object's flat form.
abbrev pub PartsAreAnsweredAsWhole : Type 0
PartsAreAnsweredAsWhole =
    (class : List ClassMethod) (name part object : List ℕ) (caller : ℕ) (input : List ℕ)
    (p : PlainPart) (o : PlainObject) → IsPartOf part p o → flat.Spells object o → (a : PartAnswer) (b : Answer) →
    IsAnsweredByPart class name part caller profile input a → IsAnsweredBy class name object caller input b →
    SaysAsWhole a b

-- ---- where nothing is needed

-- a part has all of an object: the object is absent, or the part has each block and all names
abbrev pub HasAll : PlainPart → Type 0
HasAll None = Unit {0}
HasAll (Some p) =
    ((n : ℕ) → n < blocks_of p.size → HasBlock p.blocks n) ×
    (p.xattrs.intervals ≡ Everything) × (p.keys.intervals ≡ Everything)

-- a call on such a part needs nothing
abbrev pub AllIsEnough : Type 0
AllIsEnough =
    (class : List ClassMethod) (name part : List ℕ) (caller : ℕ) (limits : Limits) (input : List ℕ) (p : PlainPart) →
    Spells part p → HasAll p → (need : Need) → RefusesPart class name part caller limits input (call.Needs need) → ⊥

-- a part has each block and each interval of another, or more
pub record HasContent (less more : Content) : Type 0 where
  pub blocks : (n : ℕ) → HasBlock less.blocks n → HasBlock more.blocks n
  pub xattrs : (name : List ℕ) → IsHeld less.xattrs.intervals name → IsHeld more.xattrs.intervals name
  pub keys : (name : List ℕ) → IsHeld less.keys.intervals name → IsHeld more.keys.intervals name

abbrev pub HasPart : PlainPart → PlainPart → Type 0
HasPart None more = Unit {0}
HasPart (Some p) None = ⊥
HasPart (Some p) (Some q) = HasContent p q

-- Where a call on a part of an object is answered, one on a part of it that has more needs nothing.
abbrev pub MoreOfPartIsEnough : Type 0
MoreOfPartIsEnough =
    (class : List ClassMethod) (name part more : List ℕ) (caller : ℕ) (limits : Limits) (input : List ℕ)
    (p q : PlainPart) (o : PlainObject) → IsPartOf part p o → IsPartOf more q o → HasPart p q → (a : PartAnswer) →
    IsAnsweredByPart class name part caller limits input a → (need : Need) →
    RefusesPart class name more caller limits input (call.Needs need) → ⊥

-- Where both need something, the call on the part that has more comes to that helper call after as many instructions
-- as the other, or more.
abbrev pub MoreOfPartStopsNoEarlier : Type 0
MoreOfPartStopsNoEarlier =
    (class : List ClassMethod) (name part more : List ℕ) (caller : ℕ) (limits : Limits) (input : List ℕ)
    (p q : PlainPart) (o : PlainObject) → IsPartOf part p o → IsPartOf more q o → HasPart p q → (need other : Need) →
    (x : StopsOnPart class name part caller limits input (stop.Needs need)) →
    (y : StopsOnPart class name more caller limits input (stop.Needs other)) → x.stops.steps ≤ y.stops.steps

-- a part has what a need names: its blocks, or its name
abbrev pub IsBlockThere : PlainPart → ℕ → Type 0
IsBlockThere None n = ⊥
IsBlockThere (Some p) n = HasBlock p.blocks n

abbrev pub IsNameThere : (Content → Names) → PlainPart → List ℕ → Type 0
IsNameThere names None name = ⊥
IsNameThere names (Some p) name = IsHeld (names p).intervals name

abbrev pub HasNamed : PlainPart → Need → Type 0
HasNamed p (Blocks first count) = (n : ℕ) → first ≤ n → n < first + count → IsBlockThere p n
HasNamed p (Xattr name) = IsNameThere (λ c. c.xattrs) p name.items
HasNamed p (Key name) = IsNameThere (λ c. c.keys) p name.items
HasNamed p (KeyFrom place) = ⊥
HasNamed p (XattrFrom place) = ⊥

-- Where the part that has more has the blocks or the name that the other needed, its call comes to a later helper call.
-- Of the least name from a place on nothing is said: a run may have removed it, and then needs the one after it.
abbrev pub IsNeededOnce : Type 0
IsNeededOnce =
    (class : List ClassMethod) (name part more : List ℕ) (caller : ℕ) (limits : Limits) (input : List ℕ)
    (p q : PlainPart) (o : PlainObject) → IsPartOf part p o → IsPartOf more q o → HasPart p q → (need other : Need) →
    HasNamed q need → (x : StopsOnPart class name part caller limits input (stop.Needs need)) →
    (y : StopsOnPart class name more caller limits input (stop.Needs other)) → x.stops.steps < y.stops.steps

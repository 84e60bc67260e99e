-- What calls on a part of an object give: its bytes come from a host, and its limits.
use Rattle.std.specs.Prelude.{◌≡◌, ◌⊎◌, ◌↔◌, ℕ, ◌^◌, ◌<◌, ◌≤◌, List, [], ◌∷◌, Some, None, IfSome, length}
use Rattle.bpf_decode.specs.Class.{ClassMethod}
use Rattle.object_store.specs.declared.limits.Limits.{Limits}
use Rattle.object_store.specs.Object.{PlainObject}
use Rattle.helpers.specs.declared.helper.Helper.{Helper}
use Rattle.helpers.specs.Effect.{Given}
use Rattle.object_store.specs.Limits.{IsLimits, IsAnyObject}
use Rattle.part_bytes.specs.Part.{Block, Content, Names, PlainPart, Spells, IsHeld}
use Rattle.part_bytes.specs.declared.need.Need.{Need}
use Rattle.part_bytes.specs.declared.need.Need.TheVariants.{Blocks, Xattr, Key, KeyFrom, XattrFrom}
use Rattle.part_data.specs.Known.{blocks_of}
use Rattle.parts.specs.Known.{KnownObject, Stands}
use Rattle.parts.specs.Agreed.{AgreesPart, KnowsPart, HasAllNames}
use Rattle.parts.specs.Grows.{Grows}
use Rattle.parts.specs.declared.stop.Stop.{Stop}
use Rattle.parts.specs.declared.stop.Stop.TheVariants as stop
use Rattle.verifier.specs.Verified.{IsVerified}
use Rattle.interp.specs.Plain.{InputPasses, method_named}
use Rattle.part_calls.specs.Parts.{AnswersOn, AreCounted, MayBe, NeedsNoMore, StopsPart}
use Rattle.part_calls.specs.Needed.{NeededBy}
use Rattle.part_calls.specs.declared.answer.PartAnswer.{PartAnswer}
use Rattle.class_calls.specs.declared.part_call.PartCallError.{PartCallError}
use Rattle.class_calls.specs.declared.part_call.PartCallError.TheVariants as call

-- ---- what is asked

-- limits that a host may give to a call: a name may have a byte
pub record MayLimit (l : Limits) : Type 0 where
  pub within : IsLimits l
  pub xattr_names : 1 ≤ l.xattrs.length
  pub key_names : 1 ≤ l.keys.length

-- where the limits have a number of names, the part has them all
pub record HasCounted (l : Limits) (p : PlainPart) : Type 0 where
  pub xattrs : IfSome l.xattrs.count (λ _. HasAllNames (λ c. c.xattrs) p)
  pub keys : IfSome l.keys.count (λ _. HasAllNames (λ c. c.keys) p)

-- the bytes spell this part, and it has the names that the limits have a number of
pub record SpellsCounted (l : Limits) (bytes : List ℕ) (p : PlainPart) : Type 0 where
  pub spelled : Spells bytes p
  pub counted : HasCounted l p

-- what is known is what the part says: it stands for the objects that agree with the part, and for no other
pub record SaysPart (p : PlainPart) (k : KnownObject) : Type 0 where
  pub agree : (o : PlainObject) → AgreesPart p o ↔ Stands k o
  pub knows : KnowsPart p k

-- a part has the block of a number
abbrev pub HasBlock : List Block → ℕ → Type 0
HasBlock [] n = ⊥
HasBlock (b ∷ bs) n = (n ≡ b.0) ⊎ HasBlock bs n

-- a block is one of the object's, and none of the part's; no interval of a part's names holds a string. Of an object
-- that is absent all is known.
abbrev pub IsNoBlock : PlainPart → ℕ → Type 0
IsNoBlock None n = ⊥
IsNoBlock (Some p) n = (n < blocks_of p.size) × (HasBlock p.blocks n → ⊥)

abbrev pub IsNotHeld : (Content → Names) → PlainPart → List ℕ → Type 0
IsNotHeld names None name = ⊥
IsNotHeld names (Some p) name = IsHeld (names p).intervals name → ⊥

-- what is needed isn't in the part: its first block, its name or its place
abbrev pub IsNotIn : PlainPart → Need → Type 0
IsNotIn p (Blocks first count) = IsNoBlock p first
IsNotIn p (Xattr name) = IsNotHeld (λ c. c.xattrs) p name.items
IsNotIn p (Key name) = IsNotHeld (λ c. c.keys) p name.items
IsNotIn p (KeyFrom place) = IsNotHeld (λ c. c.keys) p place.items
IsNotIn p (XattrFrom place) = IsNotHeld (λ c. c.xattrs) p place.items

abbrev pub IsLacking : PlainPart → Stop → Type 0
IsLacking p stop.NoMemory = Unit {0}
IsLacking p stop.Full = Unit {0}
IsLacking p (stop.Needs need) = IsNotIn p need

-- ---- what is answered

-- What a class answers on a part: it is what the method, which is verified, answers on every object that agrees with
-- the part. What each helper on the way touched was known.
pub record IsAnsweredByPart (class : List ClassMethod) (name part : List ℕ) (caller : ℕ) (limits : Limits)
    (input : List ℕ) (answer : PartAnswer) : Type 0 where
  pub method : ClassMethod
  pub named : method_named class name ≡ Some method
  pub short : length input ≤ method.in_cap
  pub client : caller < 2 ^ 32
  pub limited : MayLimit limits
  pub plain : PlainPart
  pub spelled : SpellsCounted limits part plain
  pub verified : IsVerified method
  pub answers : (o : PlainObject) → AgreesPart plain o → IsAnyObject o → AnswersOn limits method o caller input answer
  pub known : KnownObject
  pub says : SaysPart plain known
  pub learns : NeedsNoMore limits method known caller input answer

-- ---- why nothing is answered

-- the caller's number is beyond 32 bits, or no host may give the limits, or no part is spelled that has the names
-- which they have a number of
abbrev pub SpellsNoPart : List ℕ → ℕ → Limits → Type 0
SpellsNoPart part caller limits =
    (2 ^ 32 ≤ caller) ⊎ ((MayLimit limits → ⊥) ⊎ ((p : PlainPart) → SpellsCounted limits part p → ⊥))

-- The method of that name takes the input, and the caller's number is beyond 32 bits, or no host may give the limits,
-- or no part is spelled that has the names which they have a number of.
pub record IsMalformedPart (class : List ClassMethod) (name part : List ℕ) (caller : ℕ) (limits : Limits)
    (input : List ℕ) : Type 0 where
  pub method : ClassMethod
  pub named : method_named class name ≡ Some method
  pub short : length input ≤ method.in_cap
  pub none : SpellsNoPart part caller limits

-- The call is well formed, and what the part says isn't enough: the run on each object that agrees stops for this. What
-- is needed isn't in the part.
pub record StopsOnPart (class : List ClassMethod) (name part : List ℕ) (caller : ℕ) (limits : Limits)
    (input : List ℕ) (why : Stop) : Type 0 where
  pub method : ClassMethod
  pub named : method_named class name ≡ Some method
  pub short : length input ≤ method.in_cap
  pub client : caller < 2 ^ 32
  pub limited : MayLimit limits
  pub plain : PlainPart
  pub spelled : SpellsCounted limits part plain
  pub known : KnownObject
  pub says : SaysPart plain known
  pub stops : StopsPart limits method known caller input why
  pub lacking : IsLacking plain why

-- why a class gives no answer on a part: the first that applies
abbrev pub RefusesPart : List ClassMethod → List ℕ → List ℕ → ℕ → Limits → List ℕ → PartCallError → Type 0
RefusesPart class name part caller limits input call.NoMethod = method_named class name ≡ None
RefusesPart class name part caller limits input call.InputTooLong = InputPasses class name input
RefusesPart class name part caller limits input call.Malformed = IsMalformedPart class name part caller limits input
RefusesPart class name part caller limits input call.NoMemory = Unit {0}
RefusesPart class name part caller limits input call.Full =
    StopsOnPart class name part caller limits input stop.Full
RefusesPart class name part caller limits input (call.Needs need) =
    StopsOnPart class name part caller limits input (stop.Needs need)

-- ---- the steps of the code

-- a stop is the refusal of its name
abbrev pub of_stop : Stop → PartCallError
of_stop stop.NoMemory = call.NoMemory
of_stop stop.Full = call.Full
of_stop (stop.Needs need) = call.Needs need

-- what a call begins with is what the bytes say
pub record IsStagedOf (l : Limits) (bytes : List ℕ) (k : KnownObject) : Type 0 where
  pub plain : PlainPart
  pub spelled : SpellsCounted l bytes plain
  pub says : SaysPart plain k
  pub counted : AreCounted l k
  pub list : k.list ≡ Some []
  pub some : (o : PlainObject) × MayBe k o

-- why bytes give nothing to begin with
abbrev pub RefusesBytes : Limits → List ℕ → PartCallError → Type 0
RefusesBytes l bytes call.NoMethod = ⊥
RefusesBytes l bytes call.InputTooLong = ⊥
RefusesBytes l bytes call.Malformed = (p : PlainPart) → SpellsCounted l bytes p → ⊥
RefusesBytes l bytes call.NoMemory = Unit {0}
RefusesBytes l bytes call.Full = ⊥
RefusesBytes l bytes (call.Needs need) = ⊥

-- What a call on a part begins with, of a method of that in_cap.
pub record BeginsPart (in_cap : ℕ) (part : List ℕ) (caller : ℕ) (limits : Limits) (input : List ℕ)
    (known : KnownObject) : Type 0 where
  pub short : length input ≤ in_cap
  pub client : caller < 2 ^ 32
  pub limited : MayLimit limits
  pub staged : IsStagedOf limits part known

-- why it doesn't begin: the first that applies
abbrev pub RefusesToBeginPart : ℕ → List ℕ → ℕ → Limits → List ℕ → PartCallError → Type 0
RefusesToBeginPart in_cap part caller limits input call.NoMethod = ⊥
RefusesToBeginPart in_cap part caller limits input call.InputTooLong = in_cap < length input
RefusesToBeginPart in_cap part caller limits input call.Malformed =
    (length input ≤ in_cap) × SpellsNoPart part caller limits
RefusesToBeginPart in_cap part caller limits input call.NoMemory = Unit {0}
RefusesToBeginPart in_cap part caller limits input call.Full = ⊥
RefusesToBeginPart in_cap part caller limits input (call.Needs need) = ⊥

-- ---- what is needed

-- What a run that began with what a part says needs of the object, as it knows more and more, isn't in the part.
abbrev pub NeedsAreLacking : Type 0
NeedsAreLacking =
    (p : PlainPart) (first last : KnownObject) → KnowsPart p first → Grows first last →
    (helper : Helper) (given : Given) (need : Need) → NeededBy helper last given need → IsNotIn p need

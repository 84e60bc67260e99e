-- What C is told of a call on a part of an object.
use Rattle.std.specs.Prelude.{◌≡◌, ◌⊎◌, ℕ, ℤ, negsuc, List, Option, Some, None, Result, Ok, Err, ◌==◌}
use Rattle.std.specs.Prelude.{if◌then◌else◌, length, min}
use Rattle.object_store.specs.Edits.{overlaid}
use Rattle.object_store.specs.declared.limits.Limits.{Limits}
use Rattle.object_store.specs.declared.limits.NameLimits.{NameLimits}
use Rattle.part_bytes.specs.Need.{need_bytes}
use Rattle.part_bytes.specs.declared.need.Need.{Need}
use Rattle.part_calls.specs.declared.answer.PartAnswer.{PartAnswer}
use Rattle.class_loops.specs.Held.{IsAnsweredByHeldPart, RefusesHeldPart}
use Rattle.class_loops.specs.declared.held.HeldClass.{HeldClass}
use Rattle.class_calls.specs.declared.answer.Answer.{Answer}
use Rattle.class_calls.specs.declared.part_call.PartCallError.{PartCallError}
use Rattle.class_calls.specs.declared.part_call.PartCallError.TheVariants as call
use Rattle.sillarnica.specs.declared.told.ToldAnswer.{ToldAnswer}
use Rattle.sillarnica.specs.declared.told_part.GivenLimits.{GivenLimits}
use Rattle.sillarnica.specs.declared.told_part.ToldWant.{ToldWant}
use Rattle.sillarnica.specs.Told.{Tells, TellsAnswer}

-- ---- what C gives

-- a number of names; the greatest of 32 bits says that there is no limit
abbrev pub count_of : ℕ → Option ℕ
count_of n = if n == 4294967295 then None else Some n

-- the limits of names by C's two numbers; a length of 255 stands for all greater ones, and is refused as they are
abbrev pub names_limits_of : ℕ → ℕ → NameLimits
names_limits_of count len = record { count = count_of count; length = min len 255 }

-- the limits that C gives
abbrev pub limits_of : GivenLimits → Limits
limits_of g = record {
  bytes = g.bytes;
  xattrs = names_limits_of g.xattrs g.xattr_name;
  keys = names_limits_of g.keys g.key_name;
}

-- ---- what C is told

-- what is behind the three pointers
pub record PartMemory : Type 0 where
  pub answer : ToldAnswer
  pub want : ToldWant
  pub out : List ℕ

-- code, steps, output and edits of an answer
abbrev pub answer_of : PartAnswer → Answer
answer_of a = record { code = a.code; steps = a.steps; output = a.output; edits = a.edits }

-- the need's spelling and its length
pub record TellsNeed (need : Need) (old new : ToldWant) : Type 0 where
  pub length : new.length ≡ length (need_bytes need)
  pub bytes : new.bytes ≡ overlaid (need_bytes need) old.bytes

-- The number of a refusal: -95, -7, -22, -12 or -28, and nothing is written; or -11 and the need.
abbrev pub TellsPartRefusal : PartCallError → ToldWant → ToldWant → ℤ → Type 0
TellsPartRefusal call.NoMethod old new result = (result ≡ negsuc 94) × (new ≡ old)
TellsPartRefusal call.InputTooLong old new result = (result ≡ negsuc 6) × (new ≡ old)
TellsPartRefusal call.Malformed old new result = (result ≡ negsuc 21) × (new ≡ old)
TellsPartRefusal call.NoMemory old new result = (result ≡ negsuc 11) × (new ≡ old)
TellsPartRefusal call.Full old new result = (result ≡ negsuc 27) × (new ≡ old)
TellsPartRefusal (call.Needs need) old new result = (result ≡ negsuc 10) × TellsNeed need old new

-- or -12, where there is no memory for the spelling
abbrev pub TellsRefusalOrMemory : PartCallError → ToldWant → ToldWant → ℤ → Type 0
TellsRefusalOrMemory e old new result =
    TellsPartRefusal e old new result ⊎ TellsPartRefusal call.NoMemory old new result

-- What a call answered is told: 0 and the answer, and the buffer begins with what it has to say; -34 and the answer,
-- which the buffer has no room for; or the number of the refusal.
abbrev pub TellsPartFound : Result PartAnswer PartCallError → PartMemory → PartMemory → ℤ → Type 0
TellsPartFound (Ok a) old new result =
    TellsAnswer (answer_of a) new.answer × Tells (answer_of a) old.out new.out result × (new.want ≡ old.want)
TellsPartFound (Err e) old new result =
    TellsRefusalOrMemory e old.want new.want result × (new.answer ≡ old.answer) × (new.out ≡ old.out)

-- ---- a call of a class

-- the class answers on the part, and the buffer begins with what it has to say if it has room
pub record IsCalledOnPart (held : HeldClass) (name part : List ℕ) (caller : ℕ) (limits : Limits)
    (input : List ℕ) (old new : PartMemory) (result : ℤ) : Type 0 where
  pub answer : PartAnswer
  pub answered : IsAnsweredByHeldPart held name part caller limits input answer
  pub told : TellsAnswer (answer_of answer) new.answer
  pub out : Tells (answer_of answer) old.out new.out result
  pub want : new.want ≡ old.want

-- why the class gives no answer on the part; answer and buffer stay
pub record TellsNoPartAnswer (held : HeldClass) (name part : List ℕ) (caller : ℕ) (limits : Limits)
    (input : List ℕ) (old new : PartMemory) (result : ℤ) : Type 0 where
  pub error : PartCallError
  pub refused : RefusesHeldPart held name part caller limits input error
  pub told : TellsPartRefusal error old.want new.want result
  pub answer : new.answer ≡ old.answer
  pub out : new.out ≡ old.out

-- one of both
abbrev pub TellsPartCall : HeldClass → List ℕ → List ℕ → ℕ → Limits → List ℕ → PartMemory → PartMemory → ℤ → Type 0
TellsPartCall held name part caller limits input old new result =
    IsCalledOnPart held name part caller limits input old new result
    ⊎ TellsNoPartAnswer held name part caller limits input old new result

-- as the class answers; -9 if the handle is closed, and nothing is written
abbrev pub TellsHeldPartCall : Option HeldClass → List ℕ → List ℕ → ℕ → Limits → List ℕ → PartMemory → PartMemory →
    ℤ → Type 0
TellsHeldPartCall None name part caller limits input old new result = (result ≡ negsuc 8) × (new ≡ old)
TellsHeldPartCall (Some held) name part caller limits input old new result =
    TellsPartCall held name part caller limits input old new result

-- What C is told: each answer with its condition, what is written then, and what stays as it was.
use Rattle.std.specs.Prelude.{◌≡◌, ◌⊎◌, Bool, true, false, ℕ, ℤ, pos, negsuc, ◌≤◌, ◌<◌, ◌++◌, List, Option, Some, None}
use Rattle.std.specs.Prelude.{Result, Ok, Err, if◌then◌else◌, nat_lt, length, take, slice_get}
use Rattle.std.specs.Borrow.{Bor}
use Rattle.bpf_decode.specs.Class.{ClassMethod, Class, IsImage}
use Rattle.bpf_decode.specs.ImageReading.{image_of}
use Rattle.bpf_decode.specs.Refusal.{number_of, slot_of, image_text_of}
use Rattle.bpf_decode.specs.declared.image_error.ImageError.{ImageError}
use Rattle.verifier.specs.Verified.{method_named}
use Rattle.verifier.specs.RuleNumber.{rule_number, refusal_text}
use Rattle.verifier.specs.declared.refusal.Refusal.{Refusal}
use Rattle.object_store.specs.Edits.{overlaid}
use Rattle.class_calls.specs.Answers.{IsLoaded, RefusesClass, IsAnsweredBy, RefusesMethod}
use Rattle.class_calls.specs.Needs.{AreEnough}
use Rattle.class_calls.specs.declared.answer.Answer.{Answer}
use Rattle.class_calls.specs.declared.answer.MethodError.{MethodError}
use Rattle.class_calls.specs.declared.answer.MethodError.TheVariants as method
use Rattle.class_loops.specs.Opened.{IsAcceptedByLoops, IsLoadedByLoops, IsTooLarge, RefusesClassByLoops}
use Rattle.class_loops.specs.Held.{IsAnsweredByHeld, methods_of}
use Rattle.class_loops.specs.declared.class.OverBudget.{OverBudget}
use Rattle.class_loops.specs.declared.held.HeldClass.{HeldClass}
use Rattle.class_loops.specs.declared.held.HeldClass.TheVariants.{Plain, Looped}
use Rattle.loop_heads.specs.declared.limits.TheConstants.{BUDGET_LIMIT}
use Rattle.footprint.specs.Parts as footprint
use Rattle.footprint.specs.Needed.{needed}
use Rattle.sillarnica.specs.declared.told.ToldRefusal.{ToldRefusal}
use Rattle.sillarnica.specs.declared.told.ToldAnswer.{ToldAnswer}
use Rattle.sillarnica.specs.declared.told.ToldMethod.{ToldMethod}

-- a slot as C sees it, -1 if there is none (or one that no method has room for)
abbrev pub slot_number : Option ℕ → ℤ
slot_number None = negsuc 0
slot_number (Some slot) = if nat_lt slot 9223372036854775808 then pos slot else negsuc 0

-- the image is refused, after as many methods, and the reason says so
pub record TellsImage (image : List ℕ) (why : ToldRefusal) : Type 0 where
  pub error : ImageError
  pub refused : image_of image ≡ Err error
  pub kind : why.kind ≡ 1
  pub number : why.number ≡ number_of error.error
  pub method : why.method ≡ error.methods
  pub slot : why.slot ≡ slot_number (slot_of error.error)

-- a rule refuses the class, and the reason says which and where
pub record TellsVerdict (image : List ℕ) (why : ToldRefusal) : Type 0 where
  pub refusal : Refusal
  pub refused : RefusesClass image refusal
  pub kind : why.kind ≡ 2
  pub number : why.number ≡ rule_number refusal.rule
  pub method : why.method ≡ refusal.method
  pub slot : why.slot ≡ slot_number (Some refusal.slot)

-- no rule refuses the image's class, and each method of it is safe
pub record IsAccepted (image : List ℕ) : Type 0 where
  pub class : List ClassMethod
  pub loaded : IsLoaded image class

-- why there is no class: 1 the image, 2 the verdict, -12 memory
abbrev pub TellsClass : List ℕ → ToldRefusal → ToldRefusal → ℤ → Type 0
TellsClass image old new result =
    ((result ≡ pos 1) × TellsImage image new)
    ⊎ (((result ≡ pos 2) × TellsVerdict image new)
    ⊎ ((result ≡ negsuc 11) × (new ≡ old)))

-- ---- the verdict: 0 if the class is safe, and nothing is written; else why it isn't
abbrev pub TellsVerify : List ℕ → ToldRefusal → ToldRefusal → ℤ → Type 0
TellsVerify image old new result = ((result ≡ pos 0) × IsAccepted image × (new ≡ old)) ⊎ TellsClass image old new result

-- ---- its line: as many bytes as fit, and how many it has
abbrev pub Writes : List ℕ → List ℕ → List ℕ → ℤ → Type 0
Writes line old new result = (result ≡ pos (length line)) × (new ≡ overlaid (take (length old) line) old)

-- the same, or -12 and nothing
abbrev pub WritesOrNot : List ℕ → List ℕ → List ℕ → ℤ → Type 0
WritesOrNot line old new result = Writes line old new result ⊎ ((result ≡ negsuc 11) × (new ≡ old))

-- the line says why the image is refused, or which rule refuses the class
pub record ExplainsImage (image old new : List ℕ) (result : ℤ) : Type 0 where
  pub error : ImageError
  pub refused : image_of image ≡ Err error
  pub written : Writes (image_text_of error) old new result

pub record ExplainsVerdict (image old new : List ℕ) (result : ℤ) : Type 0 where
  pub refusal : Refusal
  pub refused : RefusesClass image refusal
  pub written : Writes (refusal_text refusal) old new result

-- one of both, or -12 and nothing, if memory was refused
abbrev pub ExplainsClass : List ℕ → List ℕ → List ℕ → ℤ → Type 0
ExplainsClass image old new result =
    ExplainsImage image old new result
    ⊎ (ExplainsVerdict image old new result
    ⊎ ((result ≡ negsuc 11) × (new ≡ old)))

-- 0 and nothing for an accepted class, else its line
abbrev pub TellsExplain : List ℕ → List ℕ → List ℕ → ℤ → Type 0
TellsExplain image old new result =
    ((result ≡ pos 0) × IsAccepted image × (new ≡ old)) ⊎ ExplainsClass image old new result

-- ---- what a method declares
pub record Declared : Type 0 where
  pub flags : ℕ
  pub in_cap : ℕ
  pub out_cap : ℕ

-- the method of that name is in the image's class, and has these numbers
pub record Declares (image name : List ℕ) (told : Declared) : Type 0 where
  pub written : Class
  pub spelled : IsImage image written
  pub method : ClassMethod
  pub named : method_named written.methods name ≡ Some method
  pub flags : told.flags ≡ method.flags
  pub in_cap : told.in_cap ≡ method.in_cap
  pub out_cap : told.out_cap ≡ method.out_cap

-- the image's class has no such method
pub record SpellsNoMethod (image name : List ℕ) : Type 0 where
  pub written : Class
  pub spelled : IsImage image written
  pub none : method_named written.methods name ≡ None

-- the image is refused
pub record SpellsNoClass (image : List ℕ) : Type 0 where
  pub error : ImageError
  pub refused : image_of image ≡ Err error

-- 0 and the numbers; or 1 for such an image, -95 without such a method, -12 for want of memory, and
-- nothing is written
abbrev pub TellsMethod : List ℕ → List ℕ → Declared → Declared → ℤ → Type 0
TellsMethod image name old new result =
    ((result ≡ pos 0) × Declares image name new)
    ⊎ (((result ≡ pos 1) × SpellsNoClass image × (new ≡ old))
    ⊎ (((result ≡ negsuc 94) × SpellsNoMethod image name × (new ≡ old))
    ⊎ ((result ≡ negsuc 11) × (new ≡ old))))

-- ---- a method by its number, from 0 on: what it declares, its name, and the parts that it needs

-- what is behind the two pointers
pub record NamedMethod : Type 0 where
  pub method : ToldMethod
  pub name : List ℕ

-- the numbers are the method's, and of its name as many bytes are written as fit
pub record TellsOf (m : ClassMethod) (old new : NamedMethod) : Type 0 where
  pub flags : new.method.flags ≡ m.flags
  pub in_cap : new.method.in_cap ≡ m.in_cap
  pub out_cap : new.method.out_cap ≡ m.out_cap
  pub needs : new.method.needs ≡ footprint.number_of (needed m.instructions)
  pub name_len : new.method.name_len ≡ length m.name
  pub name : new.name ≡ overlaid (take (length old.name) m.name) old.name

-- 0 and the method; -95 past the last, and nothing is written
abbrev pub TellsMethodOf : List ClassMethod → ℕ → NamedMethod → NamedMethod → ℤ → Type 0
TellsMethodOf class n old new result =
    ((result ≡ pos 0) × (m : ClassMethod) × (slice_get class n ≡ Some m) × TellsOf m old new)
    ⊎ ((result ≡ negsuc 94) × (slice_get class n ≡ None) × (new ≡ old))

-- of an image's class
pub record TellsMethodOfImage (image : List ℕ) (n : ℕ) (old new : NamedMethod) (result : ℤ) : Type 0 where
  pub written : Class
  pub spelled : IsImage image written
  pub told : TellsMethodOf written.methods n old new result

-- the same, or 1 for such an image, -12 for want of memory, and nothing is written
abbrev pub TellsMethodAt : List ℕ → ℕ → NamedMethod → NamedMethod → ℤ → Type 0
TellsMethodAt image n old new result =
    TellsMethodOfImage image n old new result
    ⊎ (((result ≡ pos 1) × SpellsNoClass image × (new ≡ old))
    ⊎ ((result ≡ negsuc 11) × (new ≡ old)))

-- what the code finds
abbrev pub given : Option (Bor ClassMethod) → Option ClassMethod
given None = None
given (Some m) = Some m.now

-- ---- which parts of an object a method needs: these are enough, and the number says them
pub record Needs (image name : List ℕ) (result : ℤ) : Type 0 where
  pub written : Class
  pub spelled : IsImage image written
  pub method : ClassMethod
  pub named : method_named written.methods name ≡ Some method
  pub number : result ≡ pos (footprint.number_of (needed method.instructions))
  pub enough : AreEnough written.methods name (needed method.instructions)

-- or -95 without such a method or class, -12 for want of memory
abbrev pub TellsNeeds : List ℕ → List ℕ → ℤ → Type 0
TellsNeeds image name result =
    Needs image name result
    ⊎ (((result ≡ negsuc 94) × (SpellsNoClass image ⊎ SpellsNoMethod image name))
    ⊎ (result ≡ negsuc 11))

-- ---- a call of a class

-- what is behind the two pointers
pub record Memory : Type 0 where
  pub answer : ToldAnswer
  pub out : List ℕ

-- the output, and then the edits
abbrev pub written : Answer → List ℕ
written answer = answer.output.items ++ answer.edits.items

-- the numbers are the answer's
pub record TellsAnswer (answer : Answer) (told : ToldAnswer) : Type 0 where
  pub code : told.code ≡ answer.code
  pub steps : told.steps ≡ answer.steps
  pub output_len : told.output_len ≡ length answer.output.items
  pub edits_len : told.edits_len ≡ length answer.edits.items

-- whether the buffer has room, and what it is then
abbrev pub HasRoom : Answer → List ℕ → List ℕ → Bool → Type 0
HasRoom answer old new true = (length (written answer) ≤ length old) × (new ≡ overlaid (written answer) old)
HasRoom answer old new false = (length old < length (written answer)) × (new ≡ old)

-- 0 if the buffer has room, else -34
abbrev pub Tells : Answer → List ℕ → List ℕ → ℤ → Type 0
Tells answer old new result =
    ((result ≡ pos 0) × HasRoom answer old new true) ⊎ ((result ≡ negsuc 33) × HasRoom answer old new false)

-- the class answers, and the buffer begins with what it has to say if it has room
pub record IsCalled (class : List ClassMethod) (name object : List ℕ) (caller : ℕ) (input : List ℕ) (old new : Memory)
    (result : ℤ) : Type 0 where
  pub answer : Answer
  pub answered : IsAnsweredBy class name object caller input answer
  pub told : TellsAnswer answer new.answer
  pub out : Tells answer old.out new.out result

-- the number of a refusal: -95, -7, -22 or -12
abbrev pub refusal_number : MethodError → ℤ
refusal_number method.NoMethod = negsuc 94
refusal_number method.InputTooLong = negsuc 6
refusal_number method.Malformed = negsuc 21
refusal_number method.NoMemory = negsuc 11

-- what a call answered is told: 0 and the answer, and the buffer begins with what it has to say;
-- -34 and the answer, which the buffer has no room for; or the number of the refusal, and nothing
-- is written
abbrev pub TellsFound : Result Answer MethodError → Memory → Memory → ℤ → Type 0
TellsFound (Ok answer) old new result = TellsAnswer answer new.answer × Tells answer old.out new.out result
TellsFound (Err e) old new result = (result ≡ refusal_number e) × (new ≡ old)

-- why the class gives no answer
pub record TellsNoAnswer (class : List ClassMethod) (name object : List ℕ) (caller : ℕ) (input : List ℕ)
    (result : ℤ) : Type 0 where
  pub error : MethodError
  pub number : result ≡ refusal_number error
  pub refused : RefusesMethod class name object caller input error

-- 0, -34, or such an answer, and then nothing is written
abbrev pub TellsClassCall : List ClassMethod → List ℕ → List ℕ → ℕ → List ℕ → Memory → Memory → ℤ → Type 0
TellsClassCall class name object caller input old new result =
    IsCalled class name object caller input old new result
    ⊎ (TellsNoAnswer class name object caller input result × (new ≡ old))

-- ---- a call of an image's class, which is safe
pub record CallsClass (image name object : List ℕ) (caller : ℕ) (input : List ℕ) (old new : Memory)
    (result : ℤ) : Type 0 where
  pub class : List ClassMethod
  pub loaded : IsLoaded image class
  pub told : TellsClassCall class name object caller input old new result

-- as the class answers; or why there is none, and nothing else is written
abbrev pub TellsCall : List ℕ → List ℕ → List ℕ → ℕ → List ℕ → ToldRefusal → ToldRefusal → Memory → Memory → ℤ → Type 0
TellsCall image name object caller input why told old new result =
    (CallsClass image name object caller input old new result × (told ≡ why))
    ⊎ (TellsClass image why told result × (new ≡ old))

-- ---- a class that a handle holds, if it is open

-- 0: it holds the image's class. Else it is closed, and the answer says why
abbrev pub TellsOpen : List ℕ → ToldRefusal → ToldRefusal → Option HeldClass → ℤ → Type 0
TellsOpen image old new None result = TellsClass image old new result
TellsOpen image old new (Some (Plain class)) result = (result ≡ pos 0) × IsLoaded image class × (new ≡ old)
TellsOpen image old new (Some (Looped class)) result = ⊥

-- the class answers by the verdict that it was opened by, and the buffer begins with what it has to say if it has room
pub record IsHeldCalled (held : HeldClass) (name object : List ℕ) (caller : ℕ) (input : List ℕ) (old new : Memory)
    (result : ℤ) : Type 0 where
  pub answer : Answer
  pub answered : IsAnsweredByHeld held name object caller input answer
  pub told : TellsAnswer answer new.answer
  pub out : Tells answer old.out new.out result

-- 0, -34, or why there is no answer, and then nothing is written; -9 if the handle is closed
abbrev pub TellsHeldCall : Option HeldClass → List ℕ → List ℕ → ℕ → List ℕ → Memory → Memory → ℤ → Type 0
TellsHeldCall None name object caller input old new result = (result ≡ negsuc 8) × (new ≡ old)
TellsHeldCall (Some held) name object caller input old new result =
    IsHeldCalled held name object caller input old new result
    ⊎ (TellsNoAnswer (methods_of held) name object caller input result × (new ≡ old))

-- another handle of the class: 0 and it holds the same; -9 if the handle is closed, or -12, and the
-- other is closed
abbrev pub TellsCopy : Option HeldClass → Option HeldClass → ℤ → Type 0
TellsCopy None other result = (result ≡ negsuc 8) × (other ≡ None)
TellsCopy (Some held) other result =
    ((result ≡ pos 0) × (other ≡ Some held)) ⊎ ((result ≡ negsuc 11) × (other ≡ None))

-- a method by its number, as of its class; -9 if the handle is closed, and nothing is written
abbrev pub TellsHeldMethod : Option HeldClass → ℕ → NamedMethod → NamedMethod → ℤ → Type 0
TellsHeldMethod None n old new result = (result ≡ negsuc 8) × (new ≡ old)
TellsHeldMethod (Some held) n old new result = TellsMethodOf (methods_of held) n old new result

-- the parts that a method of the class needs are enough, as far as it declares no loops
pub record HeldNeeds (class : List ClassMethod) (name : List ℕ) (result : ℤ) : Type 0 where
  pub method : ClassMethod
  pub named : method_named class name ≡ Some method
  pub number : result ≡ pos (footprint.number_of (needed method.instructions))
  pub enough : AreEnough class name (needed method.instructions)

-- or -95 without such a method; -9 if the handle is closed
abbrev pub TellsHeldNeeds : Option HeldClass → List ℕ → ℤ → Type 0
TellsHeldNeeds None name result = result ≡ negsuc 8
TellsHeldNeeds (Some held) name result =
    HeldNeeds (methods_of held) name result
    ⊎ ((result ≡ negsuc 94) × (method_named (methods_of held) name ≡ None))

-- ---- the verdict on loops

-- a rule refuses the class, and the reason says which and where
pub record TellsLoopsVerdict (image : List ℕ) (why : ToldRefusal) : Type 0 where
  pub refusal : Refusal
  pub refused : RefusesClassByLoops image refusal
  pub kind : why.kind ≡ 2
  pub number : why.number ≡ rule_number refusal.rule
  pub method : why.method ≡ refusal.method
  pub slot : why.slot ≡ slot_number (Some refusal.slot)

-- a method declares a greater budget than the host's, and the reason says which and what it declares
pub record TellsTooLarge (image : List ℕ) (most : ℕ) (why : ToldRefusal) : Type 0 where
  pub over : OverBudget
  pub refused : IsTooLarge image most over
  pub kind : why.kind ≡ 3
  pub number : why.number ≡ over.budget
  pub method : why.method ≡ over.method
  pub slot : why.slot ≡ negsuc 0

-- why the verdict on loops gives no class: 1 the image, 2 the verdict, -12 memory
abbrev pub TellsLoopsClass : List ℕ → ToldRefusal → ToldRefusal → ℤ → Type 0
TellsLoopsClass image old new result =
    ((result ≡ pos 1) × TellsImage image new)
    ⊎ (((result ≡ pos 2) × TellsLoopsVerdict image new)
    ⊎ ((result ≡ negsuc 11) × (new ≡ old)))

-- or -27: a method declares a greater budget
abbrev pub TellsLoopsRefusal : List ℕ → ℕ → ToldRefusal → ToldRefusal → ℤ → Type 0
TellsLoopsRefusal image most old new result =
    TellsLoopsClass image old new result ⊎ ((result ≡ negsuc 26) × TellsTooLarge image most new)

-- a host's greatest budget
pub record IsBudget (most : ℕ) : Type 0 where
  pub some : 1 ≤ most
  pub bounded : most ≤ BUDGET_LIMIT

-- 0: the handle holds the image's class. Else it is closed, and the answer says why: -22 if no host may give the budget
abbrev pub TellsLoopsOpen : List ℕ → ℕ → ToldRefusal → ToldRefusal → Option HeldClass → ℤ → Type 0
TellsLoopsOpen image most old new None result =
    ((result ≡ negsuc 21) × (IsBudget most → ⊥) × (new ≡ old))
    ⊎ (IsBudget most × TellsLoopsRefusal image most old new result)
TellsLoopsOpen image most old new (Some (Plain class)) result = ⊥
TellsLoopsOpen image most old new (Some (Looped class)) result =
    (result ≡ pos 0) × IsBudget most × IsLoadedByLoops image most class × (new ≡ old)

-- the line says which rule refuses the class by the verdict on loops
pub record ExplainsLoopsVerdict (image old new : List ℕ) (result : ℤ) : Type 0 where
  pub refusal : Refusal
  pub refused : RefusesClassByLoops image refusal
  pub written : Writes (refusal_text refusal) old new result

-- that, or why the image is refused; or -12 and nothing, if memory was refused
abbrev pub ExplainsLoopsClass : List ℕ → List ℕ → List ℕ → ℤ → Type 0
ExplainsLoopsClass image old new result =
    ExplainsImage image old new result
    ⊎ (ExplainsLoopsVerdict image old new result
    ⊎ ((result ≡ negsuc 11) × (new ≡ old)))

-- 0 and nothing for an accepted class, else its line
abbrev pub TellsLoopsExplain : List ℕ → List ℕ → List ℕ → ℤ → Type 0
TellsLoopsExplain image old new result =
    ((result ≡ pos 0) × ((class : List ClassMethod) × IsAcceptedByLoops image class) × (new ≡ old))
    ⊎ ExplainsLoopsClass image old new result

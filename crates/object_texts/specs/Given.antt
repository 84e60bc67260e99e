-- The object that a call begins with, as words spell it.
use Rattle.std.specs.Prelude.{◌≡◌, ◌⊎◌, ℕ, List, [], ◌∷◌, Option, Some, None, Result, Ok, Err, ◌==◌, ◌&&◌, drop}
use Rattle.std.specs.Prelude.{slice_index, if◌then◌else◌}
use Rattle.std.specs.Borrow.{Bor}
use Rattle.hex.specs.Hex.{decode_of}
use Rattle.hex.specs.declared.error.FromHexError.{FromHexError}
use Rattle.object_store.specs.Object.{Content, PlainObject}
use Rattle.object_store.specs.Calls as calls
use Rattle.object_store.specs.declared.store_error.StoreError.{StoreError}
use Rattle.object_texts.specs.declared.method_call.MethodCall.{MethodCall}
use Rattle.object_texts.specs.declared.method_call.SpelledEntry.{SpelledEntry}
use Rattle.object_texts.specs.declared.given.Part.{Part}
use Rattle.object_texts.specs.declared.given.Part.TheVariants.{Xattrs, Keys}
use Rattle.program_files.specs.declared.failure.Failure.{Failure}
use Rattle.program_files.specs.declared.failure.Failure.TheVariants.{NoMemory, ObjectNotHex, Object}

-- the view of the returned value is the answer, unless memory ran out
abbrev pub Gives : {X Y : Type 0} → (X → Y) → Result X Failure → Result Y Failure → Type 0
Gives view (Ok x) answer = answer ≡ Ok (view x)
Gives view (Err e) answer = (e ≡ NoMemory) ⊎ (answer ≡ Err e)

-- the bytes of pairs of digits
abbrev pub of_digits : Result (List ℕ) FromHexError → Result (List ℕ) Failure
of_digits (Ok bytes) = Ok bytes
of_digits (Err e) = Err ObjectNotHex

-- the bytes that a text of digits spells
abbrev pub bytes_in : List ℕ → Result (List ℕ) Failure
bytes_in text = of_digits (decode_of text)

-- a name after 0x is in hexadecimal; any other name is as it is written
abbrev pub name_in : List ℕ → Result (List ℕ) Failure
name_in text = if slice_index text 0 == 48 && slice_index text 1 == 120 then bytes_in (drop 2 text) else Ok text

-- the result of a change of an object
abbrev pub of_change : Result Content StoreError → Result Content Failure
of_change (Ok content) = Ok content
of_change (Err e) = Err (Object e)

-- the rest, unless this was refused
abbrev pub and_then : {X Y : Type 0} → Result X Failure → (X → Result Y Failure) → Result Y Failure
and_then (Ok x) next = next x
and_then (Err e) next = Err e

-- an object after an xattr or a key is set
abbrev pub set_in : Part → Content → List ℕ → List ℕ → Result Content StoreError
set_in Xattrs content name value = calls.set_xattr (Some content) name value
set_in Keys content name value = calls.set_key (Some content) name value

-- an object after one is set, by words and by an entry of the command line:
abbrev pub with_words : Part → Content → List ℕ → List ℕ → Result Content Failure
with_words part content name value =
    and_then (name_in name) (λ name. and_then (bytes_in value) (λ value. of_change (set_in part content name value)))

abbrev pub with_entry : Part → Content → SpelledEntry → Result Content Failure
with_entry part content entry = with_words part content entry.name.now entry.value.now

-- an object after several are set, one after the other
abbrev pub with_entries : Part → Content → List SpelledEntry → Result Content Failure
with_entries part content [] = Ok content
with_entries part content (entry ∷ entries) =
    and_then (with_entry part content entry) (λ more. with_entries part more entries)

-- an object with that data
abbrev pub with_data : List ℕ → Result Content Failure
with_data text = and_then (bytes_in text) (λ bytes. of_change (calls.write None 0 bytes))

-- an object with that data, those xattrs and those keys
abbrev pub content_in : List ℕ → List SpelledEntry → List SpelledEntry → Result Content Failure
content_in text xattrs keys =
    and_then (with_data text) (λ content. and_then (with_entries Xattrs content xattrs)
    (λ more. with_entries Keys more keys))

-- an object that is there, or why there is none
abbrev pub there : Result Content Failure → Result PlainObject Failure
there (Ok content) = Ok (Some content)
there (Err e) = Err e

-- The object before a call: there is none without data, xattrs and keys. The data is checked first,
-- then the xattrs, then the keys, each in order.
abbrev pub object_in : Option (Bor (List ℕ)) → List SpelledEntry → List SpelledEntry → Result PlainObject Failure
object_in (Some text) xattrs keys = there (content_in text.now xattrs keys)
object_in None [] [] = Ok None
object_in None [] (key ∷ keys) = there (content_in [] [] (key ∷ keys))
object_in None (xattr ∷ xattrs) keys = there (content_in [] (xattr ∷ xattrs) keys)

-- by the words of a call
abbrev pub object_before : MethodCall → Result PlainObject Failure
object_before call = object_in call.data call.xattrs.items call.keys.items

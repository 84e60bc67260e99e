-- The requests of `req` lines are within their types: clients below 2 ^ 32, and texts of bytes.
use Rattle.std.proofs.Common.{◌≡◌, ◌<◌, ◌^◌, ◌&&◌, ◌==◌, inl, inr, ℕ, zero, suc, Bool, true, false, if◌then◌else◌, List, [], ◌∷◌, Option, Some, None, Result, Ok, Err, refl, subst, arith}
use Rattle.std.specs.Prelude.{IfSome, nat_le, nat_lt, slice_index, codes}
use Rattle.std.specs.Option.{option_map, option_and_then}
use Rattle.std.specs.Result.{result_ok}
use Rattle.std.specs.Str.{bytes_eq}
use Rattle.std.specs.List.{Contains}
use Rattle.std.proofs.lemmas.Bool.{and_parts, ltb-true}
use Rattle.std.proofs.lemmas.List.Elements.{Contains-append_cases, Contains-push_cases}
use Rattle.hex.specs.Hex.{IsBytes, decode_of}
use Rattle.hex.specs.declared.error.FromHexError.{FromHexError}
use Rattle.hex.proofs.HexLemmas.{decode_of-ok}
use Rattle.object_store.specs.Object.{AreBytes}
use Rattle.pg_log.specs.Requests.{ClientRequest}
use Rattle.pg_log.specs.Within.{IsRequest}
use Rattle.file_words.specs.Words.{words, number_in, numbers_in, id_in, object_in, bytes_in, class_of}
use Rattle.sim_world.specs.Lines.{ask_at, asks, ids_in, line_of, of_one, one_in, or_bad, request_of, says, two_in}
use Rattle.sim_world.specs.declared.line.Line.{Line}
use Rattle.sim_world.specs.declared.line.Line.TheVariants.{Empty, Map, See, Deliver, Show, Stop, Go, Resend, Bad}
use Rattle.sim.specs.Run.{asked, asked_in}

-- OPTIONS
if_any : {A : Type 0} (o : Option A) → IfSome o (λ a. Unit {0})
if_any None = tt
if_any (Some a) = tt

then_if : {A B : Type 0} (P : A → Type 0) (Q : B → Type 0) (f : A → Option B) (o : Option A) → IfSome o P → ((a : A) → P a → IfSome (f a) Q) → IfSome (option_and_then f o) Q
then_if P Q f None h k = tt
then_if P Q f (Some a) h k = k a h

map_if : {A B : Type 0} (P : A → Type 0) (Q : B → Type 0) (f : A → B) (o : Option A) → IfSome o P → ((a : A) → P a → Q (f a)) → IfSome (option_map f o) Q
map_if P Q f None h k = tt
map_if P Q f (Some a) h k = k a h

-- NUMBERS AND BYTES
below_if : (n : ℕ) (b : Bool) → (b ≡ true → n < 2 ^ 32) → IfSome (if b then Some n else None) (λ m. m < 2 ^ 32)
below_if n true h = h refl
below_if n false h = tt

id_below : (word : List ℕ) → IfSome (id_in word) (λ n. n < 2 ^ 32)
id_below word =
    then_if (λ n. Unit {0}) (λ n. n < 2 ^ 32) (λ n. if nat_le 1 n && nat_lt n (2 ^ 32) then Some n else None) (number_in word) (if_any (number_in word))
    (λ n u. below_if n (nat_le 1 n && nat_lt n (2 ^ 32)) (λ e. ltb-true n (2 ^ 32) (and_parts (nat_le 1 n) (nat_lt n (2 ^ 32)) e).1))

are_bytes : (bytes : List ℕ) → IsBytes bytes → AreBytes bytes
are_bytes [] h = tt
are_bytes (b ∷ bs) h = (h zero, are_bytes bs (λ i. h (suc i)))

decoded_bytes : (r : Result (List ℕ) FromHexError) → ((bytes : List ℕ) → r ≡ Ok bytes → AreBytes bytes) → IfSome (result_ok r) AreBytes
decoded_bytes (Ok bytes) h = h bytes refl
decoded_bytes (Err e) h = tt

bytes_if : (b : Bool) (x y : Option (List ℕ)) → IfSome x AreBytes → IfSome y AreBytes → IfSome (if b then x else y) AreBytes
bytes_if true x y h k = h
bytes_if false x y h k = k

bytes_of : (word : List ℕ) → IfSome (bytes_in word) AreBytes
bytes_of word =
    bytes_if (bytes_eq word (codes "-")) (Some []) (result_ok (decode_of word)) tt
    (decoded_bytes (decode_of word) (λ bytes e. are_bytes bytes (decode_of-ok word bytes e).3))

-- A REQUEST
both_ids : (client number : List ℕ) → IfSome (ids_in client number) (λ ids. ids.0 < 2 ^ 32)
both_ids client number =
    then_if (λ c. c < 2 ^ 32) (λ (ids : ℕ × ℕ). ids.0 < 2 ^ 32) (λ c. option_map (λ n. (c, n)) (id_in number)) (id_in client) (id_below client)
    (λ c low. map_if (λ n. Unit {0}) (λ (ids : ℕ × ℕ). ids.0 < 2 ^ 32) (λ n. (c, n)) (id_in number) (if_any (id_in number)) (λ n u. low))

of_words : (names args : List (List ℕ)) → IfSome (request_of names args) IsRequest
of_words names [] = tt
of_words names (client ∷ []) = tt
of_words names (client ∷ number ∷ []) = tt
of_words names (client ∷ number ∷ object ∷ []) = tt
of_words names (client ∷ number ∷ object ∷ class ∷ []) = tt
of_words names (client ∷ number ∷ object ∷ class ∷ method ∷ []) = tt
of_words names (client ∷ number ∷ object ∷ class ∷ method ∷ input ∷ []) =
    then_if (λ (ids : ℕ × ℕ). ids.0 < 2 ^ 32) IsRequest
    (λ ids. option_and_then (λ name. option_map (λ bytes. record { client = ids.0; number = ids.1; object = name; class = class_of 0 names class; method = method; input = bytes }) (bytes_in input)) (object_in object))
    (ids_in client number) (both_ids client number)
    (λ ids low. then_if (λ name. Unit {0}) IsRequest
    (λ name. option_map (λ bytes. record { client = ids.0; number = ids.1; object = name; class = class_of 0 names class; method = method; input = bytes }) (bytes_in input))
    (object_in object) (if_any (object_in object))
    (λ name u. map_if AreBytes IsRequest (λ bytes. record { client = ids.0; number = ids.1; object = name; class = class_of 0 names class; method = method; input = bytes }) (bytes_in input) (bytes_of input)
    (λ bytes h. record { client = low; bytes = h })))
of_words names (client ∷ number ∷ object ∷ class ∷ method ∷ input ∷ x ∷ xs) = tt

-- A LINE
abbrev Asks : Line → Type 0
Asks l = (r : ClientRequest) → Contains (asked_in l) r → IsRequest r

none_in : (r : ClientRequest) → Contains [] r → IsRequest r
none_in r h = let low = h.1 in absurd (omega arith)

asks_at : (n : Option ℕ) (o : Option ClientRequest) → IfSome o IsRequest → Asks (ask_at n o)
asks_at None o h = none_in
asks_at (Some n) None h = none_in
asks_at (Some n) (Some q) h = λ r at. elim (Contains-push_cases [] q r at) as (λ w. IsRequest r) [
  | inl none ↦ none_in r none
  | inr same ↦ subst IsRequest same h
]

asks_words : (names args : List (List ℕ)) → Asks (asks names args)
asks_words names [] = none_in
asks_words names (node ∷ args) = asks_at (number_in node) (request_of names args) (of_words names args)

asks_if : (b : Bool) (x y : Line) → Asks x → Asks y → Asks (if b then x else y)
asks_if true x y h k = h
asks_if false x y h k = k

asks_mapped : {A : Type 0} (f : A → Line) (o : Option A) → ((a : A) → Asks (f a)) → Asks (or_bad (option_map f o))
asks_mapped f None h = none_in
asks_mapped f (Some a) h = h a

asks_one : (word : List ℕ) (n : ℕ) → Asks (of_one word n)
asks_one word n =
    asks_if (bytes_eq word (codes "deliver")) (Deliver n) _ none_in
    (asks_if (bytes_eq word (codes "show")) (Show n) _ none_in
    (asks_if (bytes_eq word (codes "stop")) (Stop n) _ none_in
    (asks_if (bytes_eq word (codes "go")) (Go n) _ none_in
    (asks_if (bytes_eq word (codes "resend")) (Resend n) Bad none_in none_in))))

asks_says : (names ws : List (List ℕ)) → Asks (says names ws)
asks_says names [] = none_in
asks_says names (word ∷ args) =
    asks_if (bytes_eq word (codes "map")) (or_bad (option_map Map (numbers_in args))) _ (asks_mapped Map (numbers_in args) (λ acting. none_in))
    (asks_if (bytes_eq word (codes "see")) (or_bad (option_map (λ p. See p.0 p.1) (two_in args))) _ (asks_mapped (λ (p : ℕ × ℕ). See p.0 p.1) (two_in args) (λ p. none_in))
    (asks_if (bytes_eq word (codes "req")) (asks names args) (or_bad (option_map (of_one word) (one_in args))) (asks_words names args)
    (asks_mapped (of_one word) (one_in args) (asks_one word))))

asks_line : (names : List (List ℕ)) (line : List ℕ) → Asks (line_of names line)
asks_line names line = asks_if (slice_index line 0 == 35) Empty (says names (words line)) none_in (asks_says names (words line))

pub asked_typed : (names ls : List (List ℕ)) (r : ClientRequest) → Contains (asked names ls) r → IsRequest r
asked_typed names [] r h = none_in r h
asked_typed names (line ∷ ls) r h = elim (Contains-append_cases (asked_in (line_of names line)) (asked names ls) r h) as (λ w. IsRequest r) [
  | inl own ↦ asks_line names line r own
  | inr rest ↦ asked_typed names ls r rest
]

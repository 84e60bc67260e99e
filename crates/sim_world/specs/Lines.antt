-- The event or question of a line, by its words. Words, numbers, names and bytes are file_words'.
use Rattle.std.specs.Prelude.{ℕ, ◌-◌, ◌==◌, List, [], ◌∷◌, slice_index, slice_get, Option, Some, None, if◌then◌else◌}
use Rattle.std.specs.Prelude.{codes}
use Rattle.std.specs.Option.{option_map, option_and_then, unwrap_or}
use Rattle.std.specs.Str.{bytes_eq}
use Rattle.pg_log.specs.Requests.{ClientRequest}
use Rattle.file_words.specs.Words.{words, number_in, numbers_in, id_in, object_in, bytes_in, class_of}
pub use Rattle.file_words.specs.Words.{lines_of}
use Rattle.sim_world.specs.declared.line.Line.{Line}
use Rattle.sim_world.specs.declared.line.Line.TheVariants.{Empty, Map, See, Ask, Deliver, Show, Stop, Go, Resend, Bad}

-- what isn't right is a bad line
abbrev pub or_bad : Option Line → Line
or_bad o = unwrap_or o Bad

-- one number, and two
abbrev pub one_in : List (List ℕ) → Option ℕ
one_in (a ∷ []) = number_in a
one_in _ = None

abbrev pub two_in : List (List ℕ) → Option (ℕ × ℕ)
two_in (a ∷ b ∷ []) = option_and_then (λ m. option_map (λ n. (m, n)) (number_in b)) (number_in a)
two_in _ = None

-- a request's parts
abbrev pub ids_in : List ℕ → List ℕ → Option (ℕ × ℕ)
ids_in client number = option_and_then (λ c. option_map (λ n. (c, n)) (id_in number)) (id_in client)

-- a request by its words: client, number, object, class, method and input; none if they are more or
-- less
abbrev pub request_by : List (List ℕ) → List ℕ → List ℕ → List ℕ → List ℕ → List ℕ → List ℕ → Option ClientRequest
request_by names client number object class method input =
    option_and_then
    (λ ids. option_and_then (λ name. option_map
    (λ bytes. record {
      client = ids.0;
      number = ids.1;
      object = name;
      class = class_of 0 names class;
      method = method;
      input = bytes;
    }) (bytes_in input)) (object_in object)) (ids_in client number)

-- a request of exactly six words
abbrev pub request_of : List (List ℕ) → List (List ℕ) → Option ClientRequest
request_of names (client ∷ number ∷ object ∷ class ∷ method ∷ input ∷ []) =
    request_by names client number object class method input
request_of names _ = None

-- a request at a node, if both are right
abbrev pub ask_at : Option ℕ → Option ClientRequest → Line
ask_at None r = Bad
ask_at (Some n) None = Bad
ask_at (Some n) (Some r) = Ask n r

abbrev pub asks : List (List ℕ) → List (List ℕ) → Line
asks names [] = Bad
asks names (node ∷ args) = ask_at (number_in node) (request_of names args)

-- the words with one number
abbrev pub of_one : List ℕ → ℕ → Line
of_one word n =
    if bytes_eq word (codes "deliver") then Deliver n else
    if bytes_eq word (codes "show") then Show n else
    if bytes_eq word (codes "stop") then Stop n else
    if bytes_eq word (codes "go") then Go n else
    if bytes_eq word (codes "resend") then Resend n else Bad

-- what the words say; too few or too many are bad
abbrev pub says : List (List ℕ) → List (List ℕ) → Line
says names [] = Empty
says names (word ∷ args) =
    if bytes_eq word (codes "map") then or_bad (option_map Map (numbers_in args)) else
    if bytes_eq word (codes "see") then or_bad (option_map (λ p. See p.0 p.1) (two_in args)) else
    if bytes_eq word (codes "req") then asks names args else or_bad (option_map (of_one word) (one_in args))

-- The event or question of a line: none if it has no word or begins with `#`.
abbrev pub line_of : List (List ℕ) → List ℕ → Line
line_of names line = if slice_index line 0 == 35 then Empty else says names (words line)

-- maps and messages are numbered from 1
abbrev pub numbered : {A : Type 0} → List A → ℕ → Option A
numbered xs number = if number == 0 then None else slice_get xs (number - 1)

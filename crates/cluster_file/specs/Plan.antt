-- What a cluster file says: its cluster, its clients' calls, its maps; or its first malformed line.
use Rattle.std.specs.Prelude.{◌≡◌, ◌++◌, ℕ, suc, ◌&&◌, nat_le, if◌then◌else◌, List, [], ◌∷◌, Option, Some, None, Result}
use Rattle.std.specs.Prelude.{Ok, Err, codes}
use Rattle.std.specs.Option.{option_map, option_and_then}
use Rattle.std.specs.Str.{bytes_eq}
use Rattle.file_words.specs.Words.{words, ended_lines_of, number_in, numbers_in, id_in, object_in, bytes_in, class_of}
use Rattle.cluster_file.specs.declared.cluster_numbers.ClusterNumbers.{ClusterNumbers}
use Rattle.cluster_file.specs.Planned.{PlannedCall}
use Rattle.cluster_file.specs.declared.planned_step.PlannedStep.{PlannedStep}
use Rattle.cluster_file.specs.declared.planned_step.PlannedStep.TheVariants.{Call, Map}

-- THE FIRST LINE: `cluster`, and then each key with a number. A number outside a cluster's limits
-- doesn't make the line malformed.
abbrev pub value_in : List ℕ → List ℕ → List ℕ → Option ℕ
value_in key word value = if bytes_eq word key then number_in value else None

-- a key and its number, and the words that are left
abbrev pub field_in : List ℕ → List (List ℕ) → Option (ℕ × List (List ℕ))
field_in key (word ∷ value ∷ rest) = option_map (λ n. (n, rest)) (value_in key word value)
field_in key _ = None

-- the numbers, if no word is left
abbrev pub ended : ClusterNumbers → List (List ℕ) → Option ClusterNumbers
ended numbers [] = Some numbers
ended numbers (word ∷ words) = None

-- the numbers of the last three keys, and of all six
abbrev pub last_in : ℕ → ℕ → ℕ → List (List ℕ) → Option ClusterNumbers
last_in nodes replicas groups words =
    option_and_then (λ shards. option_and_then (λ workers. option_and_then
    (λ tries. ended record {
      nodes = nodes;
      replicas = replicas;
      groups = groups;
      shards = shards.0;
      workers = workers.0;
      tries = tries.0;
    } tries.1)
    (field_in (codes "tries") workers.1)) (field_in (codes "workers") shards.1)) (field_in (codes "shards") words)

-- the six numbers, by their keys in this order
abbrev pub numbers_in_line : List (List ℕ) → Option ClusterNumbers
numbers_in_line words =
    option_and_then (λ nodes. option_and_then (λ replicas. option_and_then
    (λ groups. last_in nodes.0 replicas.0 groups.0 groups.1)
    (field_in (codes "groups") replicas.1)) (field_in (codes "replicas") nodes.1)) (field_in (codes "nodes") words)

-- what the first line's words say
abbrev pub first_line : List (List ℕ) → Option ClusterNumbers
first_line [] = None
first_line (word ∷ words) = if bytes_eq word (codes "cluster") then numbers_in_line words else None

-- A CLIENT: one of those named so far, or the next one, up to the 64th.
abbrev pub client_in : ℕ → List ℕ → Option ℕ
client_in clients word =
    option_and_then (λ n. if nat_le n (suc clients) && nat_le n 64 then Some n else None) (id_in word)

-- the words of a call after its client: object, class, method, input
abbrev pub call_of : List (List ℕ) → ℕ → List (List ℕ) → Option PlannedCall
call_of names client (object ∷ class ∷ method ∷ input ∷ []) =
    option_and_then
    (λ o. option_map (λ bytes. record {
      client = client;
      object = o;
      class = class_of 0 names class;
      word = class;
      method = method;
      input = bytes;
    }) (bytes_in input))
    (object_in object)
call_of names client _ = None

-- the words after `client`
abbrev pub call_in : List (List ℕ) → ℕ → List (List ℕ) → Option PlannedCall
call_in names clients [] = None
call_in names clients (client ∷ args) = option_and_then (λ c. call_of names c args) (client_in clients client)

-- EACH FURTHER LINE: `client` or `map`, if the lines above named this number of clients. A map
-- keeps its line's number.
abbrev pub step_in : List (List ℕ) → ℕ → ℕ → List (List ℕ) → Option PlannedStep
step_in names number clients [] = None
step_in names number clients (word ∷ args) =
    if bytes_eq word (codes "client") then option_map Call (call_in names clients args) else
    if bytes_eq word (codes "map") then option_map (Map number) (numbers_in args) else None

-- by the line
abbrev pub step_of : List (List ℕ) → ℕ → ℕ → List ℕ → Option PlannedStep
step_of names number clients line = step_in names number clients (words line)

-- the number of clients that are named after a step
abbrev pub clients_after : ℕ → PlannedStep → ℕ
clients_after clients (Call call) = if nat_le call.client clients then clients else call.client
clients_after clients (Map line nodes) = clients

-- THE LINES AFTER THE FIRST, if the line above them has that number: their steps, or the number of
-- the first malformed line.
abbrev pub before_steps : PlannedStep → Result (List PlannedStep) ℕ → Result (List PlannedStep) ℕ
before_steps step (Ok steps) = Ok (step ∷ steps)
before_steps step (Err line) = Err line

-- a step and those of the lines below it, or the number of its line if that is malformed
abbrev pub go_on : ℕ → (PlannedStep → Result (List PlannedStep) ℕ) → Option PlannedStep → Result (List PlannedStep) ℕ
go_on number rest None = Err number
go_on number rest (Some step) = before_steps step (rest step)

-- the steps of lines, after `number` lines that name that number of clients
abbrev pub steps_of : List (List ℕ) → ℕ → ℕ → List (List ℕ) → Result (List PlannedStep) ℕ
steps_of names number clients [] = Ok []
steps_of names number clients (line ∷ lines) =
    go_on (suc number) (λ step. steps_of names (suc number) (clients_after clients step) lines)
    (step_of names (suc number) clients line)

-- THE FILE, if the classes have these names: its plan, or the number of its first malformed line.
pub record FilePlan : Type 0 where
  pub numbers : ClusterNumbers
  pub steps : List PlannedStep

-- by what the first line and the further ones say
abbrev pub plan_after : Option ClusterNumbers → Result (List PlannedStep) ℕ → Result FilePlan ℕ
plan_after None steps = Err 1
plan_after (Some numbers) (Ok steps) = Ok record { numbers = numbers; steps = steps }
plan_after (Some numbers) (Err line) = Err line

-- of lines, and of a text:
abbrev pub plan_in : List (List ℕ) → List (List ℕ) → Result FilePlan ℕ
plan_in names [] = Err 1
plan_in names (line ∷ lines) = plan_after (first_line (words line)) (steps_of names 1 0 lines)

abbrev pub plan_of : List (List ℕ) → List ℕ → Result FilePlan ℕ
plan_of names text = plan_in names (ended_lines_of text)

-- the calls of a client, in their order
abbrev pub calls_of : ℕ → List PlannedStep → List PlannedCall
calls_of client [] = []
calls_of client (Map line nodes ∷ steps) = calls_of client steps
calls_of client (Call call ∷ steps) = if nat_le call.client client && nat_le client call.client
    then call ∷ calls_of client steps else calls_of client steps

-- the number of clients that all steps name
abbrev pub clients_in : ℕ → List PlannedStep → ℕ
clients_in clients [] = clients
clients_in clients (step ∷ steps) = clients_in (clients_after clients step) steps

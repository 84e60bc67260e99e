-- Where a message that is sent again is looked for: the numbers of all messages lie in buckets, and
-- equal messages have one bucket. No promise of the crate rests on it.
use Rattle.std.specs.Prelude.{◌≡◌, ◌&&◌, ℕ, suc, ◌<◌, ◌%◌, ◌==◌, Bool, false, List, [], ◌∷◌, length, Option, Some, None}
use Rattle.std.specs.Prelude.{if◌then◌else◌, slice_index_or}
use Rattle.pg_log.specs.Requests.{ClientRequest}
use Rattle.group_world.specs.Maps.{GroupMap}
use Rattle.group_world.specs.Rules.{is_same_request}
use Rattle.group_world.specs.declared.message.Packet.{Packet}
use Rattle.carried.specs.declared.message.CarriedKind.{CarriedKind}
use Rattle.carried.specs.declared.message.CarriedKind.TheVariants.{Query, Install, AskActivate, Rep}
use Rattle.sim_world.specs.Lines.{numbered}
use Rattle.sim_world.specs.Keeping.{kept_as}
use Rattle.sim_world.specs.Same.{is_same_map, are_same_requests, is_same_party}
use Rattle.sim_world.specs.declared.kept.KeptMessage.{KeptMessage}

-- equal messages, as they are kept; a Query's number isn't compared
abbrev pub is_query : CarriedKind → GroupMap → Bool
is_query (Query n reported) m = is_same_map m n
is_query _ m = false

abbrev pub is_install : CarriedKind → GroupMap → List ClientRequest → Bool
is_install (Install n ys) m xs = is_same_map m n && are_same_requests xs ys
is_install _ m xs = false

abbrev pub is_ask : CarriedKind → ℕ → Bool
is_ask (AskActivate other) interval = interval == other
is_ask _ interval = false

abbrev pub is_rep : CarriedKind → ℕ → ℕ → ClientRequest → Bool
is_rep (Rep other at q) interval place r = (interval == other) && ((place == at) && is_same_request r q)
is_rep _ interval place r = false

abbrev pub is_same_carried : CarriedKind → CarriedKind → Bool
is_same_carried (Query m reported) other = is_query other m
is_same_carried (Install m list) other = is_install other m list
is_same_carried (AskActivate interval) other = is_ask other interval
is_same_carried (Rep interval place r) other = is_rep other interval place r
is_same_carried _ other = false

abbrev pub is_same_kept : KeptMessage → KeptMessage → Bool
is_same_kept j k = is_same_party j.receiver k.receiver &&
    (is_same_party j.message.sender k.message.sender && is_same_carried j.message.kind k.message.kind)

-- the lowest number of an equal message, from a number on; the one past the last if there is none
abbrev pub kept_number_from : ℕ → KeptMessage → List KeptMessage → ℕ
kept_number_from number j [] = number
kept_number_from number j (k ∷ ks) = if is_same_kept j k then number else kept_number_from (suc number) j ks

abbrev pub kept_number : List KeptMessage → KeptMessage → ℕ
kept_number sent j = kept_number_from 1 j sent

abbrev pub again_number : List KeptMessage → Packet → ℕ
again_number sent p = kept_number sent (kept_as 0 0 p)

-- the bucket of a message: by its interval or, of a request, by its place; the last is for those
-- that are never sent again
abbrev pub bucket : CarriedKind → ℕ
bucket (Query m reported) = m.interval % 1024
bucket (Install m list) = m.interval % 1024
bucket (AskActivate interval) = interval % 1024
bucket (Rep interval place r) = place % 1024
bucket _ = 1024

abbrev pub bucket_of : KeptMessage → ℕ
bucket_of k = bucket k.message.kind

-- the numbers of the messages of a bucket; the first message has that number
abbrev pub numbers_in : ℕ → ℕ → List KeptMessage → List ℕ
numbers_in at number [] = []
numbers_in at number (k ∷ ks) =
    if bucket_of k == at then number ∷ numbers_in at (suc number) ks else numbers_in at (suc number) ks

-- each bucket has the numbers of its messages
pub record AreInBuckets (sent : List KeptMessage) (buckets : List (List ℕ)) : Type 0 where
  pub count : length buckets ≡ 1025
  pub each : (at : ℕ) → at < 1025 → slice_index_or buckets at [] ≡ numbers_in at 1 sent

-- the message of a number is equal to that one
abbrev pub is_equal_to : KeptMessage → Option KeptMessage → Bool
is_equal_to j None = false
is_equal_to j (Some k) = is_same_kept j k

-- the first of these numbers whose message is equal; the one past the last if there is none
abbrev pub first_equal : KeptMessage → List KeptMessage → List ℕ → ℕ
first_equal j sent [] = suc (length sent)
first_equal j sent (number ∷ numbers) =
    if is_equal_to j (numbered sent number) then number else first_equal j sent numbers

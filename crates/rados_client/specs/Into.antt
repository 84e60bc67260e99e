-- The answer of a call that puts its output into a buffer.
use Rattle.std.specs.Prelude.{◌≡◌, ℕ, ◌++◌, ◌^◌, List, length, drop, nat_lt, nat_le, ◌==◌, if◌then◌else◌, Result, Ok}
use Rattle.std.specs.Prelude.{Err, ℤ, pos, negsuc}
use Rattle.std.specs.Int.{w64, cast_signed}
use Rattle.pg_log.specs.Requests.{ClientRequest}
use Rattle.pg_log.specs.Log.{Classes, Reply as Answer}
use Rattle.rados_client.specs.declared.exec_error.ExecError.{ExecError}
use Rattle.rados_client.specs.Session.{SessionState, PlacedReply}
use Rattle.rados_client.specs.Promise.{IsCall}

-- the code if it is negative; else -34 if the output is longer than the buffer; else the output's
-- length if it isn't 0; else the code
abbrev pub into_code : Answer → List ℕ → ℤ
into_code a buffer =
    if nat_le (2 ^ 63) a.code then cast_signed w64 a.code else
    if nat_lt (length buffer) (length a.output) then negsuc 33 else
    if length a.output == 0 then cast_signed w64 a.code else
    pos (length a.output)

-- the output and then the rest of the buffer; the buffer unchanged if the output isn't put there
abbrev pub filled : Answer → List ℕ → List ℕ
filled a buffer =
    if nat_le (2 ^ 63) a.code then buffer else
    if nat_lt (length buffer) (length a.output) then buffer else
    a.output ++ drop (length a.output) buffer

-- what the call answers, and the buffer after it: a refusal changes nothing
abbrev pub into_answer : List ℕ → Result PlacedReply ExecError → Result ℤ ExecError
into_answer buffer (Ok reply) = Ok (into_code reply.answer buffer)
into_answer buffer (Err e) = Err e

abbrev pub into_buffer : List ℕ → Result PlacedReply ExecError → List ℕ
into_buffer buffer (Ok reply) = filled reply.answer buffer
into_buffer buffer (Err e) = buffer

-- The call has an answer, which keeps the call's promise. Result and buffer are made from that
-- answer.
pub record IsInto (classes : Classes) (old new : SessionState) (r : ClientRequest) (before after : List ℕ)
    (result : Result ℤ ExecError) : Type 0 where
  pub answer : Result PlacedReply ExecError
  pub call : IsCall classes old new r answer
  pub result_is : result ≡ into_answer before answer
  pub buffer_is : after ≡ into_buffer before answer

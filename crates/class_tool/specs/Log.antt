-- A question to the log, and its answer.
use Rattle.std.specs.Prelude.{◌≡◌, ◌∷◌, [], ⊤, ℕ, List, Some, None, codes}
use Rattle.std.specs.Int.{w64, cast_unsigned}
use Rattle.bpf_decode.specs.Class.{ClassMethod}
use Rattle.verifier.specs.Verified.{method_named}
use Rattle.interp.specs.Plain.{InputPasses}
use Rattle.interp.specs.declared.calls.CallError.{CallError}
use Rattle.interp.specs.declared.calls.CallError.TheVariants as call
use Rattle.pg_log.specs.Log.{reply_at}
use Rattle.pg_log.specs.Requests.{ClientRequest}
use Rattle.pg_log.specs.declared.log_error.LogError.{LogError}
use Rattle.pg_log.specs.declared.log_error.LogError.TheVariants.{LogFull, StaleNumber, NoMemory, NoClass, NoMethod}
use Rattle.pg_log.specs.declared.log_error.LogError.TheVariants.{InputTooLong}
use Rattle.class_tool.specs.declared.log.Logged.{Logged}
use Rattle.program_files.specs.declared.failure.Failure.{Failure}
use Rattle.program_files.specs.declared.failure.Failure.TheVariants as failure

-- the caller's first request: that method of the first class, on the object `o`
abbrev pub first_request : ℕ → List ℕ → List ℕ → ClientRequest
first_request caller method input =
    record { client = caller; number = 1; object = codes "o"; class = 0; method = method; input = input }

-- this is the reply to the request in a group that has that class and that request alone
abbrev pub IsLogged : List ClassMethod → ClientRequest → Logged → Type 0
IsLogged class r logged =
    reply_at (class ∷ []) (r ∷ []) 0 ≡ Some (record {
      code = cast_unsigned w64 logged.code;
      output = logged.output.items;
    })

-- the log's refusal with the same name as a refusal of a call
abbrev pub refusal_of : CallError → LogError
refusal_of call.NoMethod = NoMethod
refusal_of call.InputTooLong = InputTooLong
refusal_of call.NoMemory = NoMemory

-- the log's refusal has the same name as the refusal of a call
abbrev pub IsCallRefusal : LogError → Type 0
IsCallRefusal LogFull = ⊥
IsCallRefusal StaleNumber = ⊥
IsCallRefusal NoMemory = ⊤
IsCallRefusal NoClass = ⊥
IsCallRefusal NoMethod = ⊤
IsCallRefusal InputTooLong = ⊤

-- why a method of a class isn't called on an input: no method has that name, the input is longer
-- than the method takes, or memory was refused
abbrev pub CallRefused : List ClassMethod → List ℕ → List ℕ → CallError → Type 0
CallRefused class method input call.NoMethod = method_named class method ≡ None
CallRefused class method input call.InputTooLong = InputPasses class method input
CallRefused class method input call.NoMemory = ⊤

-- a call fails because it is refused, or because the program runs out of memory
abbrev pub LogFails : List ClassMethod → List ℕ → List ℕ → Failure → Type 0
LogFails class method input failure.CannotRead = ⊥
LogFails class method input failure.CannotWrite = ⊥
LogFails class method input failure.NoMemory = ⊤
LogFails class method input failure.TextTooLong = ⊥
LogFails class method input (failure.Text error) = ⊥
LogFails class method input (failure.Image error) = ⊥
LogFails class method input (failure.Verdict refusal) = ⊥
LogFails class method input failure.InputNotHex = ⊥
LogFails class method input failure.ObjectNotHex = ⊥
LogFails class method input (failure.ObjectLine line) = ⊥
LogFails class method input (failure.Object error) = ⊥
LogFails class method input (failure.Call error) = CallRefused class method input error
LogFails class method input failure.CallFull = ⊥

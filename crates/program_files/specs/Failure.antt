-- The text of a failure.
use Rattle.std.specs.Prelude.{ℕ, List, ◌++◌, codes}
use Rattle.std.specs.Fmt.{decimal}
use Rattle.bpf_asm.specs.Fault.{error_text}
use Rattle.bpf_decode.specs.Refusal.{image_text_of}
use Rattle.interp.specs.Refusal.{call_error_text}
use Rattle.object_store.specs.Refusal.{store_error_text}
use Rattle.verifier.specs.RuleNumber.{refusal_text}
use Rattle.program_files.specs.declared.failure.Failure.{Failure}
use Rattle.program_files.specs.declared.failure.Failure.TheVariants.{CannotRead, CannotWrite, NoMemory, TextTooLong}
use Rattle.program_files.specs.declared.failure.Failure.TheVariants.{Text, Image, Verdict, InputNotHex, ObjectNotHex}
use Rattle.program_files.specs.declared.failure.Failure.TheVariants.{ObjectLine, Object, Call, CallFull}

-- each failure as it is printed, without the end of its line
abbrev pub failure_text : Failure → List ℕ
failure_text CannotRead = codes "cannot read"
failure_text CannotWrite = codes "cannot write"
failure_text NoMemory = codes "no memory"
failure_text TextTooLong = codes "text too long: at most 16777216 bytes"
failure_text (Text error) = error_text error
failure_text (Image error) = image_text_of error
failure_text (Verdict refusal) = refusal_text refusal
failure_text InputNotHex = codes "input is not hex"
failure_text ObjectNotHex = codes "object is not hex"
failure_text (ObjectLine line) = codes "object line " ++ decimal line ++ codes ": bad"
failure_text (Object error) = codes "object refused: " ++ store_error_text error
failure_text (Call error) = codes "call refused: " ++ call_error_text error
failure_text CallFull = codes "call refused: 4 Full"

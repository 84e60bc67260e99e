-- The report of a call that was made and logged is right for the files.
use Rattle.std.proofs.Common.{◌≡◌, ◌≤◌, ℕ, Bool, List, Option, Some, None, Result, Ok, Err, SFits, string_bytes, length, ap, ◌∙◌}
use Rattle.std.specs.Prelude.{IfOk}
use Rattle.std.specs.Int.{w64}
use Rattle.hex.specs.Hex.{decode_of}
use Rattle.bpf_decode.specs.Class.{ClassMethod, IsClass}
use Rattle.bpf_machine.specs.Safe.{OutcomesAreOne}
use Rattle.object_store.specs.Object.{Content, PlainObject}
use Rattle.interp.specs.declared.outcome.Outcome.{Outcome}
use Rattle.verifier.specs.Verified.{method_named}
use Rattle.interp.specs.Plain.{Answers}
use Rattle.program_files.specs.Files.{Disk}
use Rattle.class_tool.specs.Begun.{Begins}
use Rattle.program_files.specs.Image.{IsSafeIn}
use Rattle.class_tool.specs.Log.{IsLogged, first_request}
use Rattle.class_tool.specs.RunReport.{IsOneOutcome, IsReplied, IsReportOf, IsTraceText, Reports}
use Rattle.object_texts.specs.declared.method_call.MethodCall.{MethodCall}
use Rattle.class_tool.specs.declared.log.Logged.{Logged}
use Rattle.class_tool.specs.declared.run_report.RunReport.{RunReport}
use Rattle.class_tool.proofs.Called.{one_outcome}

-- a call was made and logged, and the report tells of both
abbrev IsMade : List ClassMethod → MethodCall → List ℕ → RunReport → Type 0
IsMade class call input report =
    (outcome : Outcome) × (logged : Logged) × Answers class call.method.now None call.caller input outcome
    × IsLogged class (first_request call.caller call.method.now input) logged × IsOneOutcome outcome logged × IsReportOf call.is_shown logged outcome report

-- the call and its entry have the same outcome
pub made : {E : Type 0} → OutcomesAreOne → (class : List ClassMethod) (call : MethodCall) (input : List ℕ) (o : Outcome) → IsClass class
    → Answers class call.method.now None call.caller input o → (r : Result RunReport E)
    → IfOk r (λ report. (logged : Logged) × IsLogged class (first_request call.caller call.method.now input) logged × SFits w64 logged.code × SFits w64 o.code × IsReportOf call.is_shown logged o report)
    → IfOk r (IsMade class call input)
made outcomes class call input o is a (Ok report) l =
    (o, l.0, a, l.1, one_outcome outcomes class call.method.now call.caller input o l.0 is a l.1 l.2 l.3, l.4)
made outcomes class call input o is a (Err e) l = tt

-- the same on an object, for the call alone
abbrev pub IsMadeBeside : List ClassMethod → MethodCall → Content → List ℕ → RunReport → Type 0
IsMadeBeside class call object input report =
    (outcome : Outcome) × (logged : Logged) × Answers class call.method.now (Some object) call.caller input outcome × IsOneOutcome outcome logged
    × IsReportOf call.is_shown logged outcome report

-- the report of the call's own outcome
pub reports_beside : {E : Type 0} (is_shown : Bool) (o : Outcome) (l : Logged) (r : Result RunReport E) → IsOneOutcome o l → IfOk r (IsReportOf is_shown l o)
    → IfOk r (λ report. (logged : Logged) × IsOneOutcome o logged × IsReportOf is_shown logged o report)
reports_beside is_shown o l (Ok report) one said = (l, one, said)
reports_beside is_shown o l (Err e) one said = tt

-- the call of an object or of none was made, and the report tells of it
abbrev pub IsAnswered : List ClassMethod → MethodCall → PlainObject → List ℕ → RunReport → Type 0
IsAnswered class call object input report =
    (outcome : Outcome) × (logged : Logged) × Answers class call.method.now object call.caller input outcome
    × IsReplied object class (first_request call.caller call.method.now input) logged × IsOneOutcome outcome logged × IsReportOf call.is_shown logged outcome report

-- a trace of the method of the name, if the input is short
abbrev pub IsTraced : List ClassMethod → MethodCall → PlainObject → List ℕ → List ℕ → Type 0
IsTraced class call object input text =
    (m : ClassMethod) → method_named class call.method.now ≡ Some m → length input ≤ m.in_cap → IsTraceText call.is_traced m object call.caller input text

-- for the class that was loaded, and the input and the object that were read, with a trace
pub reported : (disk : Option Disk) (call : MethodCall) (class : List ClassMethod) (input : List ℕ) (object : PlainObject) (report new : RunReport) → new ≡ record report { traced = new.traced } → IsSafeIn disk call.image.now class
    → decode_of call.input.now ≡ Ok input → Begins disk call object → IsTraced class call object input (string_bytes new.traced) → IsAnswered class call object input report
    → Reports disk call new
reported disk call class input object report new e loaded read begun h m =
    let ran = m.2 in
    let said = m.5 in
    record {
      class = class;
      input = input;
      object = object;
      outcome = m.0;
      logged = m.1;
      loaded = loaded;
      read = read;
      begun = begun;
      ran = ran;
      replied = m.3;
      one = m.4;
      said = record {
        code = ap (λ (r : RunReport). r.code) e ∙ said.code;
        output = ap (λ (r : RunReport). string_bytes r.output) e ∙ said.output;
        steps = ap (λ (r : RunReport). r.steps) e ∙ said.steps;
        object = ap (λ (r : RunReport). r.object) e ∙ said.object;
        shown = ap (λ (r : RunReport). string_bytes r.shown) e ∙ said.shown;
        after = ap (λ (r : RunReport). r.after) e ∙ said.after;
      };
      traced = h ran.method ran.named ran.short;
    }

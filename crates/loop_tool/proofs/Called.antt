-- A call of a class by its loops: its refusal, and its report.
use Rattle.std.proofs.Common.{◌≡◌, ◌↔◌, ◌∙◌, List, [], ℕ, Bool, Result, Ok, Err, Some, None, IfErr, string_bytes, ap, refl, subst}
use Rattle.bpf_decode.specs.Class.{ClassMethod}
use Rattle.verifier.specs.Verified.{method_named}
use Rattle.interp.specs.Plain.{InputPasses}
use Rattle.interp.specs.declared.calls.CallError.{CallError}
use Rattle.interp.specs.declared.calls.CallError.TheVariants.{NoMethod, InputTooLong}
use Rattle.interp.specs.declared.outcome.Outcome.{Outcome}
use Rattle.class_tool.specs.RunReport.{IsOneOutcome, IsReportOf}
use Rattle.class_tool.specs.declared.log.Logged.{Logged}
use Rattle.class_tool.specs.declared.run_report.RunReport.{RunReport}
use Rattle.loop_tool.specs.LoopRun.{IsLoopCallRefusal, IsRunReport}

-- equal results have equal errors
same_error : {A : Type 0} (o : Result A CallError) (e f : CallError) → o ≡ Err e → o ≡ Err f → e ≡ f
same_error o e f is same = cc

-- what holds exactly of a result with an error holds exactly of the error
error_exactly : {A : Type 0} (o : Result A CallError) (e f : CallError) (P : Type 0) → o ≡ Err e → (o ≡ Err f) ↔ P → (e ≡ f) ↔ P
error_exactly o e f P is exact = (λ same. exact.0 (subst (λ (x : CallError). o ≡ Err x) same is), λ holds. same_error o e f is (exact.1 holds))

-- a refusal of a call is exactly as the call's results are
pub refused : {A : Type 0} (class : List ClassMethod) (method input : List ℕ) (o : Result A CallError) → (o ≡ Err NoMethod) ↔ (method_named class method ≡ None)
    → (o ≡ Err InputTooLong) ↔ InputPasses class method input → IfErr o (IsLoopCallRefusal class method input)
refused class method input (Ok a) none long = tt
refused class method input (Err e) none long =
    record {
      no_method = error_exactly _ e NoMethod _ refl none;
      too_long = error_exactly _ e InputTooLong _ refl long;
    }

-- a report of a call's own outcome with no line of a trace is one by loops
pub untraced : (is_shown : Bool) (o : Outcome) (report new : RunReport) → new ≡ record report { traced = new.traced } → string_bytes new.traced ≡ []
    → (logged : Logged) × IsOneOutcome o logged × IsReportOf is_shown logged o report → IsRunReport is_shown o new
untraced is_shown o report new e empty made =
    let said = made.2 in
    record {
      logged = made.0;
      one = made.1;
      said = record {
        code = ap (λ (r : RunReport). r.code) e ∙ said.code;
        output = ap (λ (r : RunReport). string_bytes r.output) e ∙ said.output;
        steps = ap (λ (r : RunReport). r.steps) e ∙ said.steps;
        object = ap (λ (r : RunReport). r.object) e ∙ said.object;
        shown = ap (λ (r : RunReport). string_bytes r.shown) e ∙ said.shown;
        after = ap (λ (r : RunReport). r.after) e ∙ said.after;
      };
      untraced = empty;
    }

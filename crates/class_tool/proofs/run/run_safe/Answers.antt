use Rattle.std.proofs.Common.{◌≡◌, ◌≤◌, ℕ, List, Some, length, string_bytes, sym, subst, ap, ◌∙◌}
use Rattle.object_store.specs.Object.{PlainObject}
use Rattle.bpf_decode.specs.Class.{ClassMethod}
use Rattle.verifier.specs.Verified.{method_named}
use Rattle.class_tool.specs.RunReport.{IsTraceText}
use Rattle.class_tool.specs.declared.run_report.RunReport.{RunReport}
use Rattle.class_tool.proofs.Reported.{reported}
use Rattle.class_tool.proofs.run.run_safe.Goals as goal

pub returns-clause-ok : goal.returns-clause-ok
returns-clause-ok g c =
    let report = c.in_ok-report.report in
    let e = c.with_trace.ensures in
    let same : c.with_trace.result ≡ record report { traced = c.with_trace.result.traced } = e ∙ ap (λ t. record report { traced = t }) (sym (ap (λ (r : RunReport). r.traced) e)) in
    reported (g.F.ReadableFiles.disk c.args.files.now) c.args.asked.now c.args.class c.in_ok-input.input.items c.in_ok-object.object report c.with_trace.result same
    c.requires.safe c.in_ok-input.ensures.ok c.in_ok-object.ensures.ok
    (λ m named short.
    let is_traced = c.args.asked.now.is_traced in
    let caller = c.args.asked.now.caller in
    let text = string_bytes c.in_ok-traced.traced in
    let of_source = ap (λ (x : List ClassMethod). method_named x c.args.asked.now.method.now) (sym c.requires.source) ∙ named in
    let of_input = subst (λ (x : List ℕ). length x ≤ m.in_cap) (sym c.deref.ensures.value) short in
    let t = c.in_ok-traced.ensures.text m of_source of_input in
    let u = subst (λ (o : PlainObject). IsTraceText is_traced m o caller c.deref.result.now text) c.as_ref.ensures.value t in
    let w = subst (λ (x : List ℕ). IsTraceText is_traced m c.in_ok-object.object caller x text) c.deref.ensures.value u in
    subst (λ (x : List ℕ). IsTraceText is_traced m c.in_ok-object.object caller c.in_ok-input.input.items x) (ap (λ (r : RunReport). string_bytes r.traced) (sym e)) w)
    c.in_ok-report.ensures.ok

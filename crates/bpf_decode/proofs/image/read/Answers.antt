use Rattle.std.proofs.Common.{Err, sym, ap, ◌∙◌, inl, inr}
use Rattle.std.proofs.lemmas.Result.{err_from_is_err_and}
use Rattle.bpf_decode.proofs.ImageLoop.{header_refused, methods_refused, trailing, all_read}
use Rattle.bpf_decode.proofs.image.read.Goals as goal

pub returns-in_err-methods-in-Ok-clause-read : goal.returns-in_err-methods-in-Ok-clause-read
returns-in_err-methods-in-Ok-clause-read c =
    let p = err_from_is_err_and c.from_residual.result c.from_residual.ensures.1 in
    rw (p.1, p.2) (elim c.in_err-methods-in-Ok.ensures.read [
      | inl none ↦ inl none
      | inr h ↦ inr (methods_refused c.args.bytes.now c.in-Ok.header c.in-Ok.rest.now c.in_err-methods-in-Ok.field-0.0 c.in-Ok.ensures h)
    ])

pub returns-in_err-methods-in-Ok-clause-refused : goal.returns-in_err-methods-in-Ok-clause-refused
returns-in_err-methods-in-Ok-clause-refused c =
    let p = err_from_is_err_and c.from_residual.result c.from_residual.ensures.1 in
    rw (p.1, p.2) (elim c.in_err-methods-in-Ok.ensures.refused [
      | inl none ↦ inl (none.0, record { header = c.in-Ok.header; rest = c.in-Ok.rest.now; read = c.in-Ok.ensures; so_far = none.1 })
      | inr h ↦ inr (methods_refused c.args.bytes.now c.in-Ok.header c.in-Ok.rest.now c.in_err-methods-in-Ok.field-0.0 c.in-Ok.ensures h)
    ])

pub returns-then-not-is_empty-clause-read : goal.returns-then-not-is_empty-clause-read
returns-then-not-is_empty-clause-read c = inr (trailing c.args.bytes.now c.in-Ok.header c.in-Ok.rest.now c.in_ok-methods-in-Ok.methods.items c.in_ok-methods-in-Ok.rest.now c.in-Ok.ensures c.in_ok-methods-in-Ok.ensures.read (sym c.if-not-is_empty.ensures) ∙ ap (λ e. Err e) (sym c.after.ensures))

pub returns-then-not-is_empty-clause-refused : goal.returns-then-not-is_empty-clause-refused
returns-then-not-is_empty-clause-refused c = inr (trailing c.args.bytes.now c.in-Ok.header c.in-Ok.rest.now c.in_ok-methods-in-Ok.methods.items c.in_ok-methods-in-Ok.rest.now c.in-Ok.ensures c.in_ok-methods-in-Ok.ensures.read (sym c.if-not-is_empty.ensures) ∙ ap (λ e. Err e) (sym c.after.ensures))

pub returns-else-not-is_empty-clause-read : goal.returns-else-not-is_empty-clause-read
returns-else-not-is_empty-clause-read c = all_read c.args.bytes.now c.in-Ok.header c.in-Ok.rest.now c.in_ok-methods-in-Ok.methods.items c.in_ok-methods-in-Ok.rest.now c.in-Ok.ensures c.in_ok-methods-in-Ok.ensures.read (sym c.if-not-is_empty.ensures)

pub returns-in-Err-clause-read : goal.returns-in-Err-clause-read
returns-in-Err-clause-read c = inr (header_refused c.args.bytes.now c.in-Err.error c.in-Err.ensures ∙ ap (λ e. Err e) (sym c.after-in-Err.ensures))

pub returns-in-Err-clause-refused : goal.returns-in-Err-clause-refused
returns-in-Err-clause-refused c = inr (header_refused c.args.bytes.now c.in-Err.error c.in-Err.ensures ∙ ap (λ e. Err e) (sym c.after-in-Err.ensures))

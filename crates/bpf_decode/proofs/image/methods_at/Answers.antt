use Rattle.std.proofs.Common.{◌≡◌, ◌++◌, ◌∷◌, [], Bool, true, not, cond, Err, sym, ap, ◌∙◌, inl, inr, subst, ℕ, arith}
use Rattle.std.proofs.lemmas.Grind.{common_steps}
use Rattle.std.specs.Result.{is_ok}
use Rattle.bpf_decode.specs.ImageReading.{ReadsSoFar}
use Rattle.bpf_decode.proofs.ImageLoop.{goes_along, ends, is_done, so_far}
use Rattle.bpf_decode.proofs.image.methods_at.Goals as goal

pub returns-in-Err-clause-read : goal.returns-in-Err-clause-read
returns-in-Err-clause-read c =
    elim c.in-Err.ensures.read [
      | inl none ↦ inl (ap (λ e. e.error) c.after-in-Err.ensures ∙ none)
      | inr h ↦ inr (ends c.args.rules c.args.count c.args.bytes.now c.loop-done.methods.items c.loop-done.done c.loop-done.before.now c.loop-done.rest.now c.in-Err.error c.loop-done-test.true h (c.loop-done.invariant.at c.args.count (omega arith)) ∙ ap (λ e. Err e) (sym c.after-in-Err.ensures))
    ]

pub returns-in-Err-clause-refused : goal.returns-in-Err-clause-refused
returns-in-Err-clause-refused c =
    elim c.in-Err.ensures.read [
      | inl none ↦ inl (
        ap (λ e. e.error) c.after-in-Err.ensures ∙ none,
        subst (λ (n : ℕ). ReadsSoFar c.args.rules c.args.count c.args.bytes.now n) (sym (ap (λ e. e.methods) c.after-in-Err.ensures)) (so_far c.args.rules c.args.count c.args.bytes.now c.loop-done.methods.items c.loop-done.done c.loop-done.before.now c.loop-done.rest.now c.loop-done-test.true c.loop-done.invariant),
      )
      | inr h ↦ inr (ends c.args.rules c.args.count c.args.bytes.now c.loop-done.methods.items c.loop-done.done c.loop-done.before.now c.loop-done.rest.now c.in-Err.error c.loop-done-test.true h (c.loop-done.invariant.at c.args.count (omega arith)) ∙ ap (λ e. Err e) (sym c.after-in-Err.ensures))
    ]

pub returns-then-is_err-clause-refused : goal.returns-then-is_err-clause-refused
returns-then-is_err-clause-refused c =
    inl (
      ap (λ e. e.error) c.after.ensures,
      subst (λ (n : ℕ). ReadsSoFar c.args.rules c.args.count c.args.bytes.now n) (sym (ap (λ e. e.methods) c.after.ensures)) (so_far c.args.rules c.args.count c.args.bytes.now c.loop-done.methods.items c.loop-done.done c.loop-done.before.now c.loop-done.rest.now c.loop-done-test.true c.loop-done.invariant),
    )

pub returns-clause-read : goal.returns-clause-read
returns-clause-read c = is_done c.args.rules c.args.count c.args.bytes.now c.loop-done.methods.items c.loop-done.done c.loop-done.before.now c.loop-done.rest.now c.loop-done-test.false (c.loop-done.invariant.at c.args.count (omega arith))

pub loop-done-preserved : goal.loop-done-preserved
loop-done-preserved c =
    let pushed : is_ok c.push.result ≡ true = c.is_err.ensures.negation ∙ ap not c.if-is_err.false in
    let items : c.push.new.self.items ≡ c.loop-done.methods.items ++ c.in-Ok.method ∷ [] = c.push.ensures.items ∙ ap (λ (b : Bool). cond b (c.loop-done.methods.items ++ c.in-Ok.method ∷ []) c.loop-done.methods.items) pushed in
    rw (items, c.in-Ok.ensures.name) (goes_along c.args.rules c.args.bytes.now c.loop-done.methods.items c.loop-done.done c.loop-done.before.now c.loop-done.rest.now c.in-Ok.method c.in-Ok.behind.now c.in-Ok.ensures.read c.loop-done.invariant)

pub returns-then-is_err-clause-read : goal.returns-then-is_err-clause-read
returns-then-is_err-clause-read c = grind (arith, common_steps)

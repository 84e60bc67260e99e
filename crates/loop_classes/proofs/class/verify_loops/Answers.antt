use Rattle.std.proofs.Common.{◌+◌, ◌<◌, ◌++◌, [], ◌∷◌, refl, drop, get_or, ◌≡◌, ◌≤◌, ℕ, ap, ◌∙◌, sym, subst, arith, length, ◌⊎◌, None, Some, List, inl, inr}
use Rattle.std.proofs.lemmas.Option.{slice_get_read}
use Rattle.std.proofs.lemmas.Result.{err_from_is_err_and}
use Rattle.std.proofs.lemmas.List.{drop_all, take_all}
use Rattle.std.specs.List.{AllByRecursion}
use Rattle.bpf_decode.specs.Class.{ClassMethod, Class, IsClass, IsMethod}
use Rattle.bpf_decode.specs.declared.rule_set.RuleSet.{RuleSet}
use Rattle.verifier.specs.declared.refusal.Refusal.{Refusal}
use Rattle.verifier.specs.Verdict.{or_later, out_of_memory}
use Rattle.loop_classes.specs.Verdict.{looped_verdict, loops_verdict_from, IsFirstLooped, IsSafeLooped}
use Rattle.std.specs.Prelude.{slice_get}
use Rattle.verifier.proofs.Tables.{drop_head}
use Rattle.verifier.proofs.Accepts.{all_at, all_more, take_next}
use Rattle.loop_classes.proofs.class.verify_loops.Goals as goal

-- the refusal of a method is the verdict, where the methods below it have none
refusal_is : (rules : RuleSet) (ms : List ClassMethod) (number : ℕ) (m : ClassMethod) (r : Refusal) → slice_get ms number ≡ Some m → loops_verdict_from rules number (drop number ms) ≡ loops_verdict_from rules 0 ms → (r ≡ out_of_memory) ⊎ IsFirstLooped rules number m r → (r ≡ out_of_memory) ⊎ (loops_verdict_from rules 0 ms ≡ Some r)
refusal_is rules ms number m r at rest (inl e) = inl e
refusal_is rules ms number m r at rest (inr first) =
    let later = loops_verdict_from rules (number + 1) (drop (number + 1) ms) in
    inr (sym rest ∙ ap (loops_verdict_from rules number) (drop_head ms number m at) ∙ ap (λ o. or_later number o later) first.1 ∙ ap (λ k. Some (record { method = k; slot = r.slot; rule = r.rule })) (sym first.0))

-- by the same rule set
first_by : (rules rules' : RuleSet) (number : ℕ) (m : ClassMethod) (r : Refusal) → rules' ≡ rules → (r ≡ out_of_memory) ⊎ IsFirstLooped rules' number m r → (r ≡ out_of_memory) ⊎ IsFirstLooped rules number m r
first_by rules rules' number m r same first = subst (λ s. (r ≡ out_of_memory) ⊎ IsFirstLooped s number m r) same first

pub returns-in_err-push_verified-clause-refused : goal.returns-in_err-push_verified-clause-refused
returns-in_err-push_verified-clause-refused c =
    let image = c.args.image.now.methods in
    let number = c.loop-number.number in
    let few : number < length image = omega (arith, ap length c.methods-method-items.ensures.methods) in
    let at : slice_get image number ≡ Some c.method-item.result =
    slice_get_read image (length image) number c.method-item.result refl few (c.method-item.is ∙ ap (λ ms. get_or ms number c.method-item.result) c.methods-method-items.ensures.methods) in
    let p = err_from_is_err_and c.from_residual.result c.from_residual.ensures.1 in
    rw (p.1, p.2) (refusal_is c.args.image.now.rules image number c.method-item.result c.in_err-push_verified.field-0.0 at c.loop-number.invariant.rest (first_by c.args.image.now.rules c.rules.result number c.method-item.result c.in_err-push_verified.field-0.0 c.rules.ensures c.in_err-push_verified.ensures.refused))

pub returns-clause-safe : goal.returns-clause-safe
returns-clause-safe c =
    let past : length c.args.image.now.methods ≤ c.loop-number.number = omega (arith, ap length c.methods-method-items.ensures.methods) in
    subst (AllByRecursion IsSafeLooped) (take_all c.loop-number.number c.args.image.now.methods past) c.loop-number.invariant.safe

pub returns-clause-value : goal.returns-clause-value
returns-clause-value c =
    let past : length c.args.image.now.methods ≤ c.loop-number.number = omega (arith, ap length c.methods-method-items.ensures.methods) in
    c.new.ensures ∙ c.loop-number.invariant.sofar ∙ take_all c.loop-number.number c.args.image.now.methods past

pub returns-clause-accepted : goal.returns-clause-accepted
returns-clause-accepted c =
    let past : length c.args.image.now.methods ≤ c.loop-number.number = omega (arith, ap length c.methods-method-items.ensures.methods) in
    sym c.loop-number.invariant.rest ∙ ap (loops_verdict_from c.args.image.now.rules c.loop-number.number) (drop_all c.loop-number.number c.args.image.now.methods past)

pub new-requires-clause-class : goal.new-requires-clause-class
new-requires-clause-class c =
    let past : length c.args.image.now.methods ≤ c.loop-number.number = omega (arith, ap length c.methods-method-items.ensures.methods) in
    let whole = c.loop-number.invariant.sofar ∙ take_all c.loop-number.number c.args.image.now.methods past in
    subst IsClass (sym whole) c.methods-method-items.ensures.class

pub push_verified-requires : goal.push_verified-requires
push_verified-requires c =
    let image = c.args.image.now.methods in
    let number = c.loop-number.number in
    let few : number < length image = omega (arith, ap length c.methods-method-items.ensures.methods) in
    let at : slice_get image number ≡ Some c.method-item.result =
    slice_get_read image (length image) number c.method-item.result refl few (c.method-item.is ∙ ap (λ ms. get_or ms number c.method-item.result) c.methods-method-items.ensures.methods) in
    all_at IsMethod image number c.method-item.result at c.methods-method-items.ensures.class.methods

pub new-requires-clause-safe : goal.new-requires-clause-safe
new-requires-clause-safe c = subst (AllByRecursion IsSafeLooped) (sym c.loop-number.invariant.sofar) c.loop-number.invariant.safe

pub loop-number-preserved : goal.loop-number-preserved
loop-number-preserved c =
    let image = c.args.image.now.methods in
    let number = c.loop-number.number in
    let m = c.method-item.result in
    let few : number < length image = omega (arith, ap length c.methods-method-items.ensures.methods) in
    let at : slice_get image number ≡ Some m =
    slice_get_read image (length image) number m refl few (c.method-item.is ∙ ap (λ ms. get_or ms number m) c.methods-method-items.ensures.methods) in
    let more = drop_head image number m at in
    let clear = subst (λ s. looped_verdict s m ≡ None) c.rules.ensures c.in_ok-push_verified.ensures.accepted in
    let rest = loops_verdict_from c.args.image.now.rules (number + 1) (drop (number + 1) image) in
    record {
      safe = all_more IsSafeLooped image number m at c.loop-number.invariant.safe c.in_ok-push_verified.ensures.safe;
      sofar =
          c.in_ok-push_verified.ensures.pushed
          ∙ ap (λ ms. ms ++ m ∷ []) c.loop-number.invariant.sofar
          ∙ sym (take_next image number m at);
      rest = sym (ap (loops_verdict_from c.args.image.now.rules number) more ∙ ap (λ o. or_later number o rest) clear) ∙ c.loop-number.invariant.rest;
    }

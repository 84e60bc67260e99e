use Rattle.std.proofs.Common.{rules, ◌≡◌, subst, List, ℕ}
use Rattle.radoscls_program.specs.Raw.{IsCapacity, after_field}
use Rattle.radoscls_program.proofs.raw_method.raw_method.Goals as goal

pub returns-in_err-out_cap-clause-none : goal.returns-in_err-out_cap-clause-none
returns-in_err-out_cap-clause-none c none m is =
    let rest : after_field (after_field (after_field c.args.text.now)) ≡ c.in_ok-in_cap.rest.now = search rules in
    c.in_err-out_cap.ensures.none (search rules) m.out_cap (subst (λ (t : List ℕ). IsCapacity t m.out_cap) rest is.out_cap)

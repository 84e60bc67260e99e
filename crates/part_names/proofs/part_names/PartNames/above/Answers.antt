use Rattle.std.proofs.Common.{◌≡◌, Some, None, refl, ap, sym, subst, ◌∙◌}
use Rattle.shared_map.specs.Entries.{key_above}
use Rattle.part_names.specs.Order.{is_before, least_from}
use Rattle.part_names.specs.Known.{PlainNames}
use Rattle.part_names.specs.Answers.{AllHeld, IsGap}
use Rattle.part_names.proofs.Nexts.{agree_absent, agree_name, gap, no_gap}
use Rattle.part_names.proofs.part_names.PartNames.above.Goals as goal

pub returns-in-None-None-clause-answer : goal.returns-in-None-None-clause-answer
returns-in-None-None-clause-answer c =
    let bytes = c.args.bytes.now in
    let from : c.bytes.result.now ≡ least_from bytes = c.bytes.ensures.bytes ∙ c.least_from-from.ensures in
    subst (λ (n : PlainNames). AllHeld n.intervals (least_from bytes) None × (key_above n.entries bytes ≡ None)) c.self.view_is
    (subst (λ l. AllHeld c.self.inside.intervals l None) from c.in-None-None.ensures, sym c.in-None-None.ensures')

pub returns-in-None-None-clause-agree : goal.returns-in-None-None-clause-agree
returns-in-None-None-clause-agree c = λ m agrees.
    let answer = returns-in-None-None-clause-answer c in
    agree_absent c.args.self.now c.args.bytes.now m agrees answer.0 answer.1

pub returns-in-None-Some-clause-answer : goal.returns-in-None-Some-clause-answer
returns-in-None-Some-clause-answer c =
    let bytes = c.args.bytes.now in
    let name = c.in-None-Some.name.now in
    let from : c.bytes.result.now ≡ least_from bytes = c.bytes.ensures.bytes ∙ c.least_from-from.ensures in
    subst (λ (n : PlainNames). AllHeld n.intervals (least_from bytes) (Some name) × (key_above n.entries bytes ≡ Some name)) c.self.view_is
    (subst (λ l. AllHeld c.self.inside.intervals l (Some name)) from (λ a p q. c.in-None-Some.ensures a p refl), sym c.in-None-Some.ensures')

pub returns-in-None-Some-clause-agree : goal.returns-in-None-Some-clause-agree
returns-in-None-Some-clause-agree c = λ m agrees.
    let answer = returns-in-None-Some-clause-answer c in
    agree_name c.args.self.now c.args.bytes.now m agrees c.in-None-Some.name.now answer.0 answer.1

pub returns-in-Some-None-clause-answer : goal.returns-in-Some-None-clause-answer
returns-in-Some-None-clause-answer c =
    let bytes = c.args.bytes.now in
    let place = c.in-Some-None.place.now in
    let seen : PlainNames = record { most = c.self.inside.most; entries = c.self.inside.entries; intervals = c.self.inside.intervals } in
    let from : c.bytes.result.now ≡ least_from bytes = c.bytes.ensures.bytes ∙ c.least_from-from.ensures in
    subst (λ (n : PlainNames). IsGap n (least_from bytes) (key_above n.entries bytes) c.of.result) c.self.view_is
    (subst (IsGap seen (least_from bytes) (key_above seen.entries bytes)) (sym c.of.ensures)
    (gap seen bytes c.self.invariant c.bytes.result.now place from c.in-Some-None.ensures (ap (is_before place) (sym c.in-Some-None.ensures'))))

pub returns-in-Some-Some-clause-answer : goal.returns-in-Some-Some-clause-answer
returns-in-Some-Some-clause-answer c =
    let bytes = c.args.bytes.now in
    let place = c.in-Some-Some.place.now in
    let seen : PlainNames = record { most = c.self.inside.most; entries = c.self.inside.entries; intervals = c.self.inside.intervals } in
    let from : c.bytes.result.now ≡ least_from bytes = c.bytes.ensures.bytes ∙ c.least_from-from.ensures in
    subst (λ (n : PlainNames). IsGap n (least_from bytes) (key_above n.entries bytes) c.of-in-Some-Some.result) c.self.view_is
    (subst (IsGap seen (least_from bytes) (key_above seen.entries bytes)) (sym c.of-in-Some-Some.ensures)
    (gap seen bytes c.self.invariant c.bytes.result.now place from c.in-Some-Some.ensures
    (ap (is_before place) (sym c.in-Some-Some.ensures') ∙ sym c.is_below.ensures ∙ c.if-is_below.true)))

pub returns-in-Some-Some-2-clause-answer : goal.returns-in-Some-Some-2-clause-answer
returns-in-Some-Some-2-clause-answer c =
    let bytes = c.args.bytes.now in
    let name = c.in-Some-Some.name.now in
    let from : c.bytes.result.now ≡ least_from bytes = c.bytes.ensures.bytes ∙ c.least_from-from.ensures in
    subst (λ (n : PlainNames). AllHeld n.intervals (least_from bytes) (Some name) × (key_above n.entries bytes ≡ Some name)) c.self.view_is (
      subst (λ l. AllHeld c.self.inside.intervals l (Some name)) from
          (no_gap c.self.inside.intervals c.bytes.result.now c.in-Some-Some.place.now name c.in-Some-Some.ensures (sym c.is_below.ensures ∙ c.if-is_below.false)),
      sym c.in-Some-Some.ensures',
    )

pub returns-in-Some-Some-2-clause-agree : goal.returns-in-Some-Some-2-clause-agree
returns-in-Some-Some-2-clause-agree c = λ m agrees.
    let answer = returns-in-Some-Some-2-clause-answer c in
    agree_name c.args.self.now c.args.bytes.now m agrees c.in-Some-Some.name.now answer.0 answer.1

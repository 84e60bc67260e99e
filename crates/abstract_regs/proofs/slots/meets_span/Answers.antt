use Rattle.std.proofs.Common.{◌≡◌, ℕ, zero, suc, ◌+◌, ◌/◌, ◌<◌, ◌≤◌, List, [], ◌∷◌, true, false, refl, ap, ◌∙◌, sym, arith, length, get_or, below_more, ⊎_elim}
use Rattle.std.specs.Prelude.{Some}
use Rattle.std.proofs.lemmas.Bool.{false≢true, cases_lt}
use Rattle.std.proofs.lemmas.List.{length-map, get_or_default}
use Rattle.abstract_regs.specs.declared.kind.Kind.{Kind}
use Rattle.abstract_regs.specs.Kind.{PlainKind, Unset}
use Rattle.abstract_regs.specs.Slots.{touches, has}
use Rattle.abstract_regs.specs.Seen.{seen, seen_each}
use Rattle.abstract_regs.proofs.SlotLemmas.{at_start}
use Rattle.abstract_regs.proofs.SlotLists.{touched_between, untouched_behind, meets_at, meets_nothing}
use Rattle.abstract_regs.proofs.slots.meets_span.Goals as goal

seen_get : (xs : List Kind) (i : ℕ) (a : Kind) → seen (get_or xs i a) ≡ get_or (seen_each xs) i (seen a)
seen_get [] i a = refl
seen_get (x ∷ xs) zero a = refl
seen_get (x ∷ xs) (suc i) a = seen_get xs i a

pub returns-then-is_in : goal.returns-then-is_in
returns-then-is_in c =
    let content = c.args.content in
    let span = c.args.span in
    let j = c.loop-j.j in
    let xs = c.args.slots.now in
    let a = c.index-slots-j.result in
    let from : span.low / 8 ≤ j = omega arith in
    let to : j < (span.high + 7) / 8 = omega arith in
    let inside : j < length (seen_each xs) = omega (arith, length-map xs seen) in
    let found = sym (ap (has content) (ap seen c.index-slots-j.is ∙ seen_get xs j a)) ∙ sym c.is_in.ensures ∙ c.if-is_in.true in
    sym (meets_at content (Some span) 0 j (seen_each xs) (seen a) inside (at_start (Some span) j ∙ touched_between span j from to) found)

pub loop-j-preserved : goal.loop-j-preserved
loop-j-preserved c =
    let content = c.args.content in
    let span = c.args.span in
    let j = c.loop-j.j in
    let xs = c.args.slots.now in
    let a = c.index-slots-j.result in
    below_more (λ (k : ℕ). (d : PlainKind) → k < length xs → touches (Some span) k ≡ true → has content (get_or (seen_each xs) k d) ≡ false) j c.loop-j.invariant
    (λ d lt t.
    let inside : j < length (seen_each xs) = omega (arith, lt, length-map xs seen) in
    ap (has content) (get_or_default (seen_each xs) j d (seen a) inside ∙ sym (ap seen c.index-slots-j.is ∙ seen_get xs j a)) ∙ sym c.is_in.ensures ∙ c.if-is_in.false)

pub returns : goal.returns
returns c =
    let content = c.args.content in
    let span = c.args.span in
    let j = c.loop-j.j in
    let xs = c.args.slots.now in
    sym (meets_nothing content (Some span) 0 (seen_each xs) Unset (λ i lt t.
    let short : i < length xs = omega (arith, lt, length-map xs seen) in
    let touched = sym (at_start (Some span) i) ∙ t in
    ⊎_elim
    (λ (below : i < j). c.loop-j.invariant i below Unset short touched)
    (λ (past : j ≤ i).
    let behind : (span.high + 7) / 8 ≤ i = omega arith in
    absurd (false≢true (sym (untouched_behind span i behind) ∙ touched)))
    (cases_lt i j)))

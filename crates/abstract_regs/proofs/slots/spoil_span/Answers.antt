use Rattle.std.proofs.Common.{◌≡◌, ℕ, zero, suc, ◌+◌, ◌/◌, ◌<◌, ◌≤◌, List, [], ◌∷◌, refl, ap, ◌∙◌, sym, arith, length, get_or, set}
use Rattle.std.specs.Prelude.{min}
use Rattle.std.proofs.lemmas.List.{length-set, length-map, map-set}
use Rattle.abstract_regs.specs.declared.kind.Kind.{Kind}
use Rattle.abstract_regs.specs.Kind.{PlainKind}
use Rattle.abstract_regs.specs.Slots.{overwritten}
use Rattle.abstract_regs.specs.Seen.{seen, seen_each}
use Rattle.abstract_regs.proofs.SlotLists.{below_first, below_all, below_more, touched_between}
use Rattle.abstract_regs.proofs.slots.spoil_span.Goals as goal

seen_get : (xs : List Kind) (i : ℕ) (a : Kind) → seen (get_or xs i a) ≡ get_or (seen_each xs) i (seen a)
seen_get [] i a = refl
seen_get (x ∷ xs) zero a = refl
seen_get (x ∷ xs) (suc i) a = seen_get xs i a

pub loop-j-init : goal.loop-j-init
loop-j-init c =
    let le : c.first-j.result ≤ c.args.span.low / 8 = omega arith in
    record { long = refl; spoiled = sym (below_first c.args.span c.first-j.result 0 (seen_each c.args.slots.now) le) }

pub loop-j-preserved : goal.loop-j-preserved
loop-j-preserved c =
    let i = c.loop-j.j in
    let xs = c.loop-j.slots in
    let ys = seen_each c.args.slots.now in
    let k = c.overwritten.result in
    let a = c.index-slots-j.result in
    let lx = c.loop-j.invariant.long in
    let in_y : i < length ys = omega (arith, length-map c.args.slots.now seen, lx) in
    let from : c.args.span.low / 8 ≤ i = omega arith in
    let to : i < (c.args.span.high + 7) / 8 = omega arith in
    let here : i ≡ 0 + i = omega arith in
    record {
      long = length-set xs i k ∙ lx;
      spoiled =
          map-set seen xs i k
          ∙ ap (set (seen_each xs) i) (c.overwritten.ensures ∙ ap overwritten (ap seen c.index-slots-j.is ∙ seen_get xs i a))
          ∙ ap (λ (zs : List PlainKind). set zs i (overwritten (get_or zs i (seen a)))) c.loop-j.invariant.spoiled
          ∙ below_more c.args.span i 0 i ys (seen a) here in_y (touched_between c.args.span i from to);
    }

pub returns : goal.returns
returns c =
    let ys = seen_each c.args.slots.now in
    let le : min (0 + length ys) ((c.args.span.high + 7) / 8) ≤ c.loop-j.j = omega (arith, length-map c.args.slots.now seen) in
    c.loop-j.invariant.spoiled ∙ below_all c.args.span c.loop-j.j 0 ys le

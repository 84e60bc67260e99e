use Rattle.std.proofs.Common.{◌≡◌, ℕ, ◌+◌, ◌<◌, ◌≤◌, false, refl, ap, ◌∙◌, sym, arith, length, set}
use Rattle.std.specs.Prelude.{min}
use Rattle.std.proofs.lemmas.Bool.Decides.{nat_tests}
use Rattle.std.proofs.lemmas.List.{length-set}
use Rattle.abstract_regs.specs.Link.{no_link}
use Rattle.abstract_regs.proofs.LinkLists.{span_to, unlinked_none, unlinked_more, unlinked_same}
use Rattle.abstract_regs.proofs.links.unlink.Goals as goal

none_between : (first p : ℕ) → span_to first first p ≡ false
none_between first p = grind (arith, nat_tests)

up_to : (first n m p : ℕ) → (first ≤ p → p < n → p < m) → (p < m → p < n) → span_to first n p ≡ span_to first m p
up_to first n m p h k = grind (arith, nat_tests)

pub loop-place-init : goal.loop-place-init
loop-place-init c =
    let first = c.args.first in
    record { long = refl; most = omega arith; unlinked = sym (unlinked_none (span_to first first) 0 c.args.links.now (λ i lt. none_between first (0 + i))) }

pub loop-place-preserved : goal.loop-place-preserved
loop-place-preserved c =
    let i = c.loop-place.place in
    let ls = c.loop-place.links in
    let xs = c.args.links.now in
    let lx = c.loop-place.invariant.long in
    let here : i ≡ 0 + i = omega arith in
    let from : c.args.first ≤ i = omega arith in
    let inside : i < length xs = omega (arith, lx) in
    record {
      long = length-set ls i c.none.result ∙ lx;
      most = omega (arith, length-set ls i c.none.result, c.min-place-end.ensures, lx);
      unlinked =
          ap (set ls i) c.none.ensures
          ∙ ap (λ t. set t i no_link) c.loop-place.invariant.unlinked
          ∙ unlinked_more c.args.first i 0 i xs here from inside;
    }

pub returns : goal.returns
returns c =
    let first = c.args.first in
    let n = c.loop-place.place in
    let end = c.args.end in
    let xs = c.args.links.now in
    let ends = c.min-place-end.ensures in
    c.loop-place.invariant.unlinked
    ∙ unlinked_same (span_to first n) (span_to first end) 0 xs (λ i lt.
    let past : min end (length xs) ≤ n = omega (arith, ends) in
    let long = c.loop-place.invariant.long in
    let most = c.loop-place.invariant.most in
    up_to first n end (0 + i) (λ from h. omega (arith, most, long)) (λ h. omega (arith, past, lt)))

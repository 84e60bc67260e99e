use Rattle.std.proofs.Common.{◌≡◌, ℕ, ◌+◌, ◌<◌, List, [], ◌∷◌, Bool, true, refl, ap, ◌∙◌, sym, arith, length, drop}
use Rattle.std.specs.Prelude.{replicate}
use Rattle.std.proofs.lemmas.Bool.{cond-true}
use Rattle.std.proofs.lemmas.Bool.Decides.{nat_tests}
use Rattle.std.proofs.lemmas.List.{take_at}
use Rattle.abstract_regs.specs.Frame.{PlainFrame, with_links}
use Rattle.abstract_regs.specs.Seen.{seen_each}
use Rattle.abstract_regs.specs.declared.link.Link.{Link}
use Rattle.abstract_regs.specs.Link.{no_link, unlinked}
use Rattle.abstract_regs.proofs.LinkLists.{span_to}
use Rattle.abstract_regs.proofs.frame.Frame.unlink.Goals as goal

all_unlinked : (test : ℕ → Bool) (at : ℕ) (ls : List Link) → ((i : ℕ) → i < length ls → test (at + i) ≡ true) → unlinked test at ls ≡ replicate (length ls) no_link
all_unlinked test at [] h = refl
all_unlinked test at (l ∷ ls) h =
    let first : at + 0 ≡ at = omega arith in
    ap (λ x. x ∷ unlinked test (at + 1) ls) (cond-true (test at) no_link l (sym (ap test first) ∙ h 0 (omega arith)))
    ∙ ap (λ xs. no_link ∷ xs) (all_unlinked test (at + 1) ls (λ i lt. let next : at + (i + 1) ≡ at + 1 + i = omega arith in sym (ap test next) ∙ h (i + 1) (omega arith)))

within : (n p : ℕ) → p < n → span_to 0 n p ≡ true
within n p h = grind (arith, nat_tests)

pub returns : goal.returns
returns c =
    let ls = c.self.inside.links.items in
    let of : List Link → PlainFrame = λ ls. record { registers = seen_each c.self.inside.registers; slots = seen_each c.self.inside.slots.items; links = ls } in
    let long : c.len-places.result ≡ length ls = omega arith in
    let long2 : length c.unlink.new.links ≡ c.self.inside.links.len = omega arith in
    let whole : (i : ℕ) → i < length ls → span_to 0 c.len-places.result (0 + i) ≡ true = λ i lt. within c.len-places.result (0 + i) (omega (arith, lt, long)) in
    ap of (take_at c.unlink.new.links (drop (length c.unlink.new.links) ls) c.self.inside.links.len long2 ∙ c.unlink.ensures ∙ ap (unlinked _ 0) c.deref_mut.ensures.value ∙ all_unlinked (span_to 0 c.len-places.result) 0 ls whole)
    ∙ ap (λ (f : PlainFrame). with_links f (replicate (length f.links) no_link)) c.self.view_is

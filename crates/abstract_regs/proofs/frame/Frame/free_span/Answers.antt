use Rattle.std.proofs.Common.{◌≡◌, ◌+◌, ◌/◌, List, ap, ◌∙◌, sym, arith, length, drop}
use Rattle.std.proofs.lemmas.List.{take_at}
use Rattle.std.specs.Prelude.{min}
use Rattle.abstract_regs.specs.declared.link.Link.{Link}
use Rattle.abstract_regs.specs.Link.{unlinked}
use Rattle.abstract_regs.specs.Links.{is_touched}
use Rattle.abstract_regs.specs.Frame.{PlainFrame, with_links}
use Rattle.abstract_regs.specs.Seen.{seen_each}
use Rattle.abstract_regs.proofs.LinkLists.{unlinked_span, unlinked_nowhere}
use Rattle.abstract_regs.proofs.frame.Frame.free_span.Goals as goal

pub returns-in-Some : goal.returns-in-Some
returns-in-Some c =
    let span = c.in-Some.span in
    let ls = c.self.inside.links.items in
    let of : List Link → PlainFrame = λ ls. record { registers = seen_each c.self.inside.registers; slots = seen_each c.self.inside.slots.items; links = ls } in
    let ends : c.end-end.result ≡ min c.len.result ((span.high + 7) / 8) = c.end-end.ensures in
    let long : c.len.result ≡ length ls = omega arith in
    let first : c.first.result ≡ span.low / 8 = c.first.ensures in
    let long2 : length c.unlink.new.links ≡ c.self.inside.links.len = omega arith in
    ap of (take_at c.unlink.new.links (drop (length c.unlink.new.links) ls) c.self.inside.links.len long2 ∙ c.unlink.ensures ∙ ap (unlinked _ 0) c.deref_mut.ensures.value ∙ unlinked_span span (11 + c.first.result) (11 + c.end-end.result) ls (omega (arith, first)) (omega (arith, ends, long)))
    ∙ ap (λ s. of (unlinked (is_touched s) 0 ls)) (sym c.in-Some.is)
    ∙ ap (λ (f : PlainFrame). with_links f (unlinked (is_touched c.args.span) 0 f.links)) c.self.view_is

pub returns-in_default : goal.returns-in_default
returns-in_default c =
    let f = c.args.self.now in
    ap (with_links f) (sym (unlinked_nowhere f.links))
    ∙ ap (λ s. with_links f (unlinked (is_touched s) 0 f.links)) (sym c.in_default.is)

use Rattle.std.proofs.Common.{◌+◌, ◌<◌, ◌≤◌, length, Some, ap, ◌∙◌, sym, arith, get_or}
use Rattle.std.specs.Option.{option_map}
use Rattle.std.proofs.lemmas.Bool.{cond-true, cond-false}
use Rattle.std.proofs.lemmas.List.{length-set, set-get_or}
use Rattle.abstract_num.specs.Plain.{view}
use Rattle.abstract_regs.specs.declared.kind.Kind.{Kind}
use Rattle.abstract_regs.specs.declared.kind.Kind.TheVariants as code
use Rattle.abstract_regs.specs.Link.{link_in}
use Rattle.abstract_regs.specs.Links.{is_named, told_kind}
use Rattle.abstract_regs.specs.Seen.{seen, seen_each}
use Rattle.abstract_regs.proofs.Told.{told_dead, told_more, told_all}
use Rattle.abstract_regs.proofs.telling.tell_kinds.Goals as goal
use Rattle.abstract_regs.proofs.telling.tell_kinds.Goals.{then-is_named+in-Some, else-is_named}

pub returns-in-None : goal.returns-in-None
returns-in-None c =
    let z = view c.args.from.number in
    let l = c.args.from.link in
    let from = c.args.from.place in
    let ls = c.args.links.now in
    let i = c.loop-i.i in
    let at = c.args.first + i in
    let xs = c.loop-i.kinds in
    let a = c.index-kinds-i.result in
    let lx = c.loop-i.invariant.long in
    let lt : i < length xs = omega (arith, lx) in
    told_dead c.args.precision z l from ls (seen_each c.args.kinds.now) c.args.first i xs a lt c.loop-i.invariant.told
    (cond-true (is_named l from at (link_in ls at)) (told_kind c.args.precision z l (link_in ls at) (seen (get_or xs i a))) (Some (seen (get_or xs i a))) (sym (ap (is_named l from at) c.link_in-link.ensures) ∙ sym c.is_named.ensures ∙ c.if-is_named.true)
    ∙ ap (told_kind c.args.precision z l (link_in ls at)) (sym (ap seen c.index-kinds-i.is))
    ∙ sym (ap (λ m. told_kind c.args.precision z l m (seen a)) c.link_in-link.ensures)
    ∙ sym c.told_kind.ensures ∙ ap (option_map seen) c.in-None.is)

pub loop-i-preserved : goal.loop-i-preserved
loop-i-preserved c =
    let z = view c.args.from.number in
    let l = c.args.from.link in
    let from = c.args.from.place in
    let ls = c.args.links.now in
    let i = c.loop-i.i in
    let at = c.args.first + i in
    let xs = c.loop-i.kinds in
    let lx = c.loop-i.invariant.long in
    let lt : i < length xs = omega (arith, lx) in
    let all = seen_each c.args.kinds.now in
    elim c.if-is_named.branch [
      | then-is_named+in-Some w ↦
          let a = w.index-kinds-i.result in
          record {
            long = ap length w.kinds-is ∙ length-set xs i w.in-Some.kind ∙ lx;
            told = told_more c.args.precision z l from ls all c.args.first i xs c.if-is_named.kinds a w.in-Some.kind lt c.loop-i.invariant.told
                (cond-true (is_named l from at (link_in ls at)) (told_kind c.args.precision z l (link_in ls at) (seen (get_or xs i a))) (Some (seen (get_or xs i a))) (sym (ap (is_named l from at) c.link_in-link.ensures) ∙ sym c.is_named.ensures ∙ w.if-is_named.true)
                ∙ ap (told_kind c.args.precision z l (link_in ls at)) (sym (ap seen w.index-kinds-i.is))
                ∙ sym (ap (λ m. told_kind c.args.precision z l m (seen a)) c.link_in-link.ensures)
                ∙ sym w.told_kind.ensures ∙ ap (option_map seen) w.in-Some.is) w.kinds-is;
          }
      | else-is_named w ↦
          let a : Kind = get_or xs i code.Unset in
          record {
            long = ap length w.kinds-is ∙ lx;
            told = told_more c.args.precision z l from ls all c.args.first i xs c.if-is_named.kinds code.Unset a lt c.loop-i.invariant.told
                (cond-false (is_named l from at (link_in ls at)) (told_kind c.args.precision z l (link_in ls at) (seen a)) (Some (seen a)) (sym (ap (is_named l from at) c.link_in-link.ensures) ∙ sym c.is_named.ensures ∙ w.if-is_named.false))
                (w.kinds-is ∙ sym (set-get_or xs i code.Unset));
          }
    ]

pub returns : goal.returns
returns c =
    let xs = c.loop-i.kinds in
    let lx = c.loop-i.invariant.long in
    let past : length xs ≤ c.loop-i.i = omega (arith, lx) in
    told_all c.args.precision (view c.args.from.number) c.args.from.link c.args.from.place c.args.links.now (seen_each c.args.kinds.now) c.args.first c.loop-i.i xs past c.loop-i.invariant.told

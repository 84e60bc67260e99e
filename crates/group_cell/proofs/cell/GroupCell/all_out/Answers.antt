use Rattle.std.proofs.Common.{◌≡◌, ◌∙◌, List, [], ◌∷◌, ◌++◌, length, ap, sym, refl, subst, append_assoc, append-nil, arith}
use Rattle.std.specs.Vec.Iter.{into_iter_items}
use Rattle.std.specs.List.{Contains}
use Rattle.std.proofs.lemmas.List.{length_push}
use Rattle.std.proofs.lemmas.List.Elements.{Contains-append_right}
use Rattle.group_world.specs.World.{IsTrueOf}
use Rattle.group_world.specs.declared.message.Packet.{Packet}
use Rattle.group_cell.specs.Cell.{CellState}
use Rattle.group_cell.specs.Turns.{MayGoOutAs, GoOutAs}
use Rattle.group_cell.proofs.Zips.{AllZip-more, nothing_left}
use Rattle.group_cell.proofs.cell.GroupCell.all_out.Goals as goal

pub one_out-requires-clause-reply : goal.one_out-requires-clause-reply
one_out-requires-clause-reply g c =
    let at = c.loop-packet.invariant in
    let gone = c.loop-packet.yielded in
    let x = c.in-Some.packet in
    let rest = into_iter_items c.next.new.self in
    let whole : gone ++ (x ∷ rest) ≡ c.args.sent = ap (λ (l : List Packet). gone ++ l) (sym c.in-Some.ensures.steps.0) ∙ at.left in
    let has : Contains c.args.sent x = subst (λ (l : List Packet). Contains l x) whole (Contains-append_right gone (x ∷ rest) x (0, omega arith, refl)) in
    subst (λ (k : CellState). IsTrueOf g.N.Classes.classes k.written x.message.kind) (sym at.same) (c.requires.replies x has)

pub loop-packet-preserved : goal.loop-packet-preserved
loop-packet-preserved g c =
    let at = c.loop-packet.invariant in
    let gone = c.loop-packet.yielded in
    let x = c.in-Some.packet in
    let rest = into_iter_items c.next.new.self in
    let steps = c.in-Some.ensures.steps in
    let whole : gone ++ (x ∷ rest) ≡ c.args.sent = ap (λ (l : List Packet). gone ++ l) (sym steps.0) ∙ at.left in
    let short = ap (λ (l : List Packet). length l) steps.0 in
    let o = c.one_out.ensures in
    let p = c.push_reserved.ensures in
    let one = subst (λ (k : CellState). MayGoOutAs k c.args.reported x c.one_out.result) at.same o.out in
    let more = AllZip-more (MayGoOutAs c.args.self.now c.args.reported) gone c.loop-packet.out.items x c.one_out.result at.out one in
    record {
      left = append_assoc gone (x ∷ []) rest ∙ whole;
      counted = omega (arith, at.counted, steps.1, short);
      same = o.same ∙ at.same;
      out = subst (λ items. GoOutAs c.args.self.now c.args.reported (gone ++ x ∷ []) items) (sym p.items) more;
      len = omega (arith, p.len, at.len, length_push gone x);
      room = omega (arith, at.room, p.capacity);
    }

pub returns-clause-out : goal.returns-clause-out
returns-clause-out g c =
    let at = c.loop-packet.invariant in
    let gone = c.loop-packet.yielded in
    let left = into_iter_items c.loop-packet.packet-iterator in
    let empty : left ≡ [] = nothing_left left (sym at.counted ∙ c.in-None.ensures.steps.0) in
    let all : gone ≡ c.args.sent = sym (append-nil gone) ∙ ap (λ (l : List Packet). gone ++ l) (sym empty) ∙ at.left in
    subst (λ (l : List Packet). GoOutAs c.args.self.now c.args.reported l c.loop-packet.out.items) all at.out

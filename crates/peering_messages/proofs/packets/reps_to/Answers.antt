use Rattle.std.proofs.Common.{◌≡◌, ℕ, ◌+◌, ◌<◌, ◌≤◌, ◌++◌, ◌∷◌, [], List, length, drop, get_or, ap, sym, ◌∙◌, append_assoc, arith, add-one}
use Rattle.std.proofs.lemmas.List.{drop_more, drop_all, append-nil}
use Rattle.pg_log.specs.declared.entry.Entry.{Entry}
use Rattle.pg_log.specs.Entries.{requests_of}
use Rattle.group_world.specs.Node.{packet}
use Rattle.group_world.specs.Unanswered.{reps_from}
use Rattle.group_world.specs.declared.party.Party.TheVariants.{Node as ANode}
use Rattle.group_world.specs.declared.message.MessageKind.TheVariants.{Rep}
use Rattle.group_world.specs.declared.message.Packet.{Packet}
use Rattle.peering_messages.proofs.packets.reps_to.Goals as goal

pub loop-place-preserved : goal.loop-place-preserved
loop-place-preserved c =
    let n : ℕ = c.args.number in
    let m : ℕ = c.args.node in
    let i : ℕ = c.args.log.now.interval in
    let k : ℕ = c.loop-place.place in
    let es : List Entry = c.args.log.now.entries.now in
    let e : Entry = c.index-entries-place.result in
    let within : k < length es = omega arith in
    let p : Packet = packet n (ANode m) (Rep i k (get_or es k e).request) in
    let t : List Packet = reps_from n m i (k + 1) (requests_of (drop (k + 1) es)) in
    let step : reps_from n m i k (requests_of (drop k es)) ≡ p ∷ t =
    ap (λ (w : List Entry). reps_from n m i k (requests_of w)) (drop_more es k e within)
    ∙ ap (λ j. packet n (ANode m) (Rep i k (get_or es k e).request) ∷ reps_from n m i j (requests_of (drop (k + 1) es))) (sym (add-one k)) in
    ap (λ x. x ++ t) c.in_ok-send_rep.ensures.ok ∙ append_assoc c.loop-place.sent.items (p ∷ []) t ∙ ap (λ x. c.loop-place.sent.items ++ x) (sym step) ∙ c.loop-place.invariant

pub returns-clause-ok : goal.returns-clause-ok
returns-clause-ok c =
    let k : ℕ = c.loop-place.place in
    let es : List Entry = c.args.log.now.entries.now in
    let done : length es ≤ k = omega arith in
    sym (append-nil c.loop-place.sent.items)
    ∙ ap (λ (w : List Entry). c.loop-place.sent.items ++ reps_from c.args.number c.args.node c.args.log.now.interval k (requests_of w)) (sym (drop_all k es done)) ∙ c.loop-place.invariant

use Rattle.std.proofs.Common.{◌≡◌, ℕ, ◌+◌, ◌<◌, ◌++◌, List, length, drop, get_or, min, ap, sym, ◌∙◌, arith, append_assoc, add-one}
use Rattle.std.proofs.lemmas.List.{get_or_read, append-nil}
use Rattle.pg_log.specs.Entries.{requests_of}
use Rattle.group_world.specs.Node.{NodeState}
use Rattle.group_world.specs.Unanswered.{reps_unacked}
use Rattle.group_world.specs.declared.message.Packet.{Packet}
use Rattle.peering.specs.inner.Arriving.{at_interval, reps_for, first, first_after}
use Rattle.peering.proofs.Lists.{drop_requests}
use Rattle.peering.proofs.Raising.{reps_step, reps_end, reps_first, first_past}
use Rattle.peering.proofs.node.resend.reps_unacked.Goals as goal

-- turned by resend_makes_up_a_rep
pub loop-place-preserved : goal.loop-place-preserved
loop-place-preserved c =
    let n : ℕ = c.args.number in
    let k : ℕ = c.loop-place.place in
    let ns : List ℕ = c.args.members.now.acting.now in
    let ks : List ℕ = c.args.members.now.acked.now in
    let es = c.args.log.now.entries.now in
    let s : NodeState = at_interval c.args.log.now.interval (requests_of es) in
    let t : List Packet = reps_unacked n s (drop (k + 1) ns) (drop (k + 1) ks) in
    let front : List Packet = reps_for n c.index-acting-place.result s.interval (get_or ks k 0) (requests_of (drop (get_or ks k 0) es)) in
    let within : k < length ns = omega arith in
    let within_acked : k < length ks = omega arith in
    let node : c.index-acting-place.result ≡ get_or ns k 0 = get_or_read ns k c.index-acting-place.result within c.index-acting-place.is 0 in
    let step : reps_unacked n s (drop k ns) (drop k ks) ≡ front ++ t =
    reps_step n k s ns ks within within_acked
    ∙ ap (λ j. reps_for n (get_or ns k 0) s.interval (get_or ks k 0) (drop (get_or ks k 0) s.log) ++ reps_unacked n s (drop j ns) (drop j ks)) (sym (add-one k))
    ∙ ap (λ m. reps_for n m s.interval (get_or ks k 0) (drop (get_or ks k 0) s.log) ++ t) (sym node)
    ∙ ap (λ w. reps_for n c.index-acting-place.result s.interval (get_or ks k 0) w ++ t) (sym (drop_requests (get_or ks k 0) es)) in
    let most = c.args.most in
    let sent : List Packet = c.loop-place.sent.items in
    let made : List Packet = first_after most (length sent) front in
    let cut : reps_for n c.index-acting-place.result s.interval (get_or ks k 0) (requests_of (drop (get_or ks k 0) c.wanted_from-wanted.result.entries.now)) ≡ made =
    ap (λ xs. reps_for n c.index-acting-place.result s.interval (get_or ks k 0) (requests_of xs)) c.wanted_from-wanted.ensures.entries
    ∙ reps_first n c.index-acting-place.result s.interval (get_or ks k 0) c.len.result most (drop (get_or ks k 0) es)
    ∙ ap (λ j. first_after most j front) (c.len.ensures ∙ c.loop-place.sent.ok.0) in
    ap (λ x. first most (x ++ t)) c.in_ok-reps_for.ensures.ok
    ∙ ap (λ x. first most ((sent ++ x) ++ t)) (ap (λ i. reps_for n c.index-acting-place.result i (get_or ks k 0) (requests_of (drop (get_or ks k 0) c.wanted_from-wanted.result.entries.now))) c.wanted_from-wanted.ensures.interval ∙ cut)
    ∙ ap (first most) (append_assoc sent made t) ∙ first_past most sent front t ∙ ap (λ x. first most (sent ++ x)) (sym step) ∙ c.loop-place.invariant

pub returns-clause-ok : goal.returns-clause-ok
returns-clause-ok c =
    let ns : List ℕ = c.args.members.now.acting.now in
    let ks : List ℕ = c.args.members.now.acked.now in
    let k : ℕ = c.loop-place.place in
    let s : NodeState = at_interval c.args.log.now.interval (requests_of c.args.log.now.entries.now) in
    let q : k ≡ min (length ns) (length ks) = omega arith in
    let most = c.args.most in
    ap (first most) (sym (append-nil c.loop-place.sent.items) ∙ ap (λ w. c.loop-place.sent.items ++ w) (sym (reps_end c.args.number k s ns ks q))) ∙ c.loop-place.invariant

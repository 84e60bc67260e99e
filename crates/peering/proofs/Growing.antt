-- A primary's log with one more request.
use Rattle.std.proofs.Common.{◌≡◌, ◌≤◌, ℕ, ◌+◌, ◌++◌, ◌∷◌, [], List, length, length-append, max, ap, arith, false, sym, ◌∙◌}
use Rattle.std.specs.Prelude.{None, Result, Ok, Err, IfOk, is_err}
use Rattle.std.proofs.lemmas.Bool.{false≢true}
use Rattle.pg_log.specs.declared.log_error.LogError.{LogError}
use Rattle.pg_log.specs.Requests.{ClientRequest}
use Rattle.pg_log.specs.Log.{Classes}
use Rattle.group_world.specs.Node.{NodeState}
use Rattle.group_world.specs.Rules.{append_new, least_of, raised}
use Rattle.peering.specs.declared.node.serve.Commit.{Commit}
use Rattle.peering.specs.inner.Arriving.{sent_with, grown}

-- the acknowledged lengths, the commit point and the messages with one more request are the rule's
pub grown_is : (classes : Classes) (n k : ℕ) (s : NodeState) (r : ClientRequest) (w : Commit) → k ≡ length s.log + 1 →
    w.acked.items ≡ raised n k s.members.acting s.acked → w.point ≡ max s.committed (least_of k w.acked.items) → w.sent.items ≡ sent_with classes n s r w.point → grown s r w ≡ append_new classes n s r
grown_is classes n k s r w e a p q =
    let longer : k ≡ length (s.log ++ r ∷ []) = e ∙ sym (length-append s.log (r ∷ [])) in
    let b : w.acked.items ≡ raised n (length (s.log ++ r ∷ [])) s.members.acting s.acked = a ∙ ap (λ j. raised n j s.members.acting s.acked) longer in
    let o : w.point ≡ max s.committed (least_of (length (s.log ++ r ∷ [])) (raised n (length (s.log ++ r ∷ [])) s.members.acting s.acked)) =
    p ∙ ap (λ j. max s.committed (least_of j w.acked.items)) longer ∙ ap (λ x. max s.committed (least_of (length (s.log ++ r ∷ [])) x)) b in
    let t : w.sent.items ≡ sent_with classes n s r (max s.committed (least_of (length (s.log ++ r ∷ [])) (raised n (length (s.log ++ r ∷ [])) s.members.acting s.acked))) =
    q ∙ ap (sent_with classes n s r) o in
    λ i. record { node = record s { log = s.log ++ r ∷ []; committed = o i; acked = b i }; sent = t i; refusal = None }

-- if it isn't an error the entry was kept, and the log is longer by one
pub longer_by_one : (r : Result ℕ LogError) (log new : List ClientRequest) (q : ClientRequest) → false ≡ is_err r →
    IfOk r (λ place. (place ≡ length log) × (new ≡ log ++ q ∷ [])) → length new ≡ length log + 1
longer_by_one (Ok place) log new q e h = ap (λ (w : List ClientRequest). length w) h.1 ∙ length-append log (q ∷ [])
longer_by_one (Err why) log new q e h = absurd (false≢true e)

pub still_within : (point : ℕ) (r : Result ℕ LogError) (log new : List ClientRequest) (q : ClientRequest) → false ≡ is_err r →
    IfOk r (λ place. (place ≡ length log) × (new ≡ log ++ q ∷ [])) → point ≤ length log + 1 → point ≤ length new
still_within point r log new q e h within = let one = longer_by_one r log new q e h in omega (arith, one, within)

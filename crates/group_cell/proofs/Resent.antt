-- No message that a node sends again is a reply, so each is true of any list.
use Rattle.std.proofs.Common.{◌≡◌, ℕ, zero, suc, ◌<◌, List, [], ◌∷◌, ◌++◌, length, take, drop, Bool, true, false, ◌||◌, ◌==◌, if◌then◌else◌, subst, arith}
use Rattle.std.specs.List.{AllByRecursion, Contains, slice_index_or}
use Rattle.placement.specs.Placement.{has}
use Rattle.pg_log.specs.Requests.{ClientRequest}
use Rattle.pg_log.specs.Log.{Classes}
use Rattle.group_world.specs.Maps.{all_among}
use Rattle.group_world.specs.Node.{NodeState, packet, to_all}
use Rattle.group_world.specs.Rules.{ask_if}
use Rattle.group_world.specs.Unanswered.{to_missing, reps_from, reps_unacked, unanswered_in, unanswered}
use Rattle.group_world.specs.World.{IsTrueOf}
use Rattle.group_world.specs.declared.status.Status.{Status}
use Rattle.group_world.specs.declared.status.Status.TheVariants.{Out, Waiting, Installed, Asking, Installing, Active}
use Rattle.group_world.specs.declared.party.Party.TheVariants.{Node as ANode}
use Rattle.group_world.specs.declared.message.MessageKind.{MessageKind}
use Rattle.group_world.specs.declared.message.MessageKind.TheVariants.{Query, Install}
use Rattle.group_world.specs.declared.message.Packet.{Packet}

-- what holds of all elements holds of one that is there
module _ {A : Type 0} where
  at : (P : A → Type 0) (xs : List A) (x : A) → AllByRecursion P xs → (k : ℕ) → k < length xs → slice_index_or xs k x ≡ x → P x
  at P [] x h k low is = absurd (omega (arith, low))
  at P (y ∷ ys) x h zero low is = subst P is h.0
  at P (y ∷ ys) x h (suc k) low is = at P ys x h.1 k (omega (arith, low)) is

module _ (classes : Classes) (list : List ClientRequest) where
  abbrev IsTrueHere : Packet → Type 0
  IsTrueHere p = IsTrueOf classes list p.message.kind

  both_true : (ps qs : List Packet) → AllByRecursion IsTrueHere ps → AllByRecursion IsTrueHere qs → AllByRecursion IsTrueHere (ps ++ qs)
  both_true [] qs h k = k
  both_true (p ∷ ps) qs h k = (h.0, both_true ps qs h.1 k)

  to_all-true : (n : ℕ) (ns : List ℕ) (kind : MessageKind) → IsTrueOf classes list kind → AllByRecursion IsTrueHere (to_all n ns kind)
  to_all-true n [] kind h = tt
  to_all-true n (m ∷ ms) kind h = (h, to_all-true n ms kind h)

  to_missing-true : (n : ℕ) (js ns : List ℕ) (kind : MessageKind) → IsTrueOf classes list kind → AllByRecursion IsTrueHere (to_missing n js ns kind)
  to_missing-true n js [] kind h = tt
  to_missing-true n js (m ∷ ms) kind h =
      let rest = to_missing-true n js ms kind h in
      elim (has m js || m == n) as (λ b. AllByRecursion IsTrueHere (if b then to_missing n js ms kind else packet n (ANode m) kind ∷ to_missing n js ms kind)) [
        | true ↦ rest
        | false ↦ (h, rest)
      ]

  reps_from-true : (n m interval place : ℕ) (rs : List ClientRequest) → AllByRecursion IsTrueHere (reps_from n m interval place rs)
  reps_from-true n m interval place [] = tt
  reps_from-true n m interval place (r ∷ rs) = (tt, reps_from-true n m interval (suc place) rs)

  reps_unacked-true : (n : ℕ) (s : NodeState) (ns acked : List ℕ) → AllByRecursion IsTrueHere (reps_unacked n s ns acked)
  reps_unacked-true n s [] acked = tt
  reps_unacked-true n s (m ∷ ms) [] = tt
  reps_unacked-true n s (m ∷ ms) (a ∷ acked) =
      let rest = reps_unacked-true n s ms acked in
      elim (m == n) as (λ b. AllByRecursion IsTrueHere (if b then reps_unacked n s ms acked else reps_from n m s.interval a (drop a s.log) ++ reps_unacked n s ms acked)) [
        | true ↦ rest
        | false ↦ both_true (reps_from n m s.interval a (drop a s.log)) (reps_unacked n s ms acked) (reps_from-true n m s.interval a (drop a s.log)) rest
      ]

  ask_if-true : (n : ℕ) (s : NodeState) (all : Bool) → AllByRecursion IsTrueHere (ask_if n s all)
  ask_if-true n s true = (tt, tt)
  ask_if-true n s false = tt

  unanswered_in-true : (n : ℕ) (s : NodeState) (status : Status) → AllByRecursion IsTrueHere (unanswered_in n s status)
  unanswered_in-true n s Out = tt
  unanswered_in-true n s Waiting = tt
  unanswered_in-true n s Installed = tt
  unanswered_in-true n s Asking = to_all-true n s.members.prev_acting (Query s.members) tt
  unanswered_in-true n s Installing =
      both_true (to_missing n s.joined s.members.acting (Install s.members s.log)) (ask_if n s (all_among s.members.acting s.joined))
      (to_missing-true n s.joined s.members.acting (Install s.members s.log) tt) (ask_if-true n s (all_among s.members.acting s.joined))
  unanswered_in-true n s Active = reps_unacked-true n s s.members.acting s.acked

-- what holds of all elements holds of the first ones
all_take : {A : Type 0} (P : A → Type 0) (k : ℕ) (xs : List A) → AllByRecursion P xs → AllByRecursion P (take k xs)
all_take P zero xs h = tt
all_take P (suc k) [] h = tt
all_take P (suc k) (x ∷ xs) h = (h.0, all_take P k xs h.1)

pub unanswered-true : (classes : Classes) (list : List ClientRequest) (most n : ℕ) (s : NodeState) (p : Packet) → Contains (take most (unanswered n s)) p → IsTrueOf classes list p.message.kind
unanswered-true classes list most n s p c =
    at (IsTrueHere classes list) (take most (unanswered n s)) p (all_take (IsTrueHere classes list) most (unanswered n s) (unanswered_in-true classes list n s s.status)) c.0 c.1 c.2

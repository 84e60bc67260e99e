-- The result of a call, from the results of its tries.
use Rattle.std.proofs.Common.{◌≡◌, ◌⊎◌, ℕ, zero, suc, ◌≤◌, ◌<◌, List, [], ◌∷◌, ◌++◌, length, Bool, true, Some, Result, Ok, Err, sym, ap, ◌∙◌, subst, inl, inr, append_assoc, arith, length-append}
use Rattle.std.specs.Prelude.{slice_get, All, IfErr, IsTrue, IsFalse}
use Rattle.std.proofs.lemmas.Bool.{cases_lt}
use Rattle.std.proofs.lemmas.Option.{get_or_from_slice_get, slice_get_past, slice_get_within}
use Rattle.std.proofs.lemmas.List.{append-nil}
use mathlib.Core.List.{IsPrefix}
use Rattle.pg_log.specs.Requests.{ClientRequest}
use Rattle.pg_log.specs.Log.{Classes, Reply as Answer}
use Rattle.group_cell.specs.Posts.{Stands}
use Rattle.commit_board.specs.Lists.{list_at}
use Rattle.op_shards.specs.Passes.{Sender, at_shard, Grew, WasSent}
use Rattle.op_shards.specs.declared.rule.Ranked.{Ranked}
use Rattle.carried.specs.declared.operation.Operation.{Operation}
use Rattle.carried.specs.declared.operation.Carried.TheVariants.{Request as ARequest}
use Rattle.osd.specs.Sent.{OnlySent, IsNoRequest, IsInternalTo}
use Rattle.rados_client.specs.declared.exec_error.ExecError.{ExecError}
use Rattle.rados_client.specs.declared.exec_error.ExecError.TheVariants as exec
use Rattle.rados_client.specs.Session.{Contact, PlacedReply, KnowsMore}
use Rattle.rados_client.specs.Found.{IsAnswer}
use Rattle.rados_client.specs.Promise.{IsAnswered, IsAsked, NotAsked, Says, WasAsked}

module _ {A : Type 0} where
  pub prefix_self : (xs : List A) → IsPrefix xs xs
  prefix_self xs = ([], append-nil xs)

  pub prefix_trans : (xs ys zs : List A) → IsPrefix xs ys → IsPrefix ys zs → IsPrefix xs zs
  prefix_trans xs ys zs p q = (p.0 ++ q.0, sym (append_assoc xs p.0 q.0) ∙ (ap (λ w. w ++ q.0) p.1 ∙ q.1))

  prefix_length : (xs ys : List A) → IsPrefix xs ys → length xs ≤ length ys
  prefix_length xs ys p = let e = ap length p.1 in omega (arith, e, length-append xs p.0)

  still_there : (xs rest : List A) (k : ℕ) (x : A) → slice_get xs k ≡ Some x → slice_get (xs ++ rest) k ≡ Some x
  still_there [] rest k x e = absurd (cc (e))
  still_there (y ∷ ys) rest zero x e = e
  still_there (y ∷ ys) rest (suc k) x e = still_there ys rest k x e

  prefix_get : (xs ys : List A) (k : ℕ) (x : A) → IsPrefix xs ys → slice_get xs k ≡ Some x → slice_get ys k ≡ Some x
  prefix_get xs ys k x p e = subst (λ (l : List A). slice_get l k ≡ Some x) p.1 (still_there xs p.0 k x e)

  -- a list has no element past its end
  past : (xs : List A) (k : ℕ) (x : A) → length xs ≤ k → slice_get xs k ≡ Some x → ⊥
  past xs k x le e = cc (e, slice_get_past xs k le)

  -- an element of a longer list, at a place before the old end, is one of the old list
  before : (xs rest : List A) (k : ℕ) (x : A) → k < length xs → slice_get (xs ++ rest) k ≡ Some x → slice_get xs k ≡ Some x
  before [] rest k x lt e = absurd (omega (arith, lt))
  before (y ∷ ys) rest zero x lt e = e
  before (y ∷ ys) rest (suc k) x lt e = before ys rest k x (omega (arith, lt)) e

  rest_has : (P : A → Type 0) (xs rest : List A) (k : ℕ) (x : A) → length xs ≤ k → slice_get (xs ++ rest) k ≡ Some x → All P rest → P x
  rest_has P [] rest k x le e all = subst P (get_or_from_slice_get rest k x x e) (all k x (slice_get_within rest k x e))
  rest_has P (y ∷ ys) rest zero x le e all = absurd (omega (arith, le))
  rest_has P (y ∷ ys) rest (suc k) x le e all = rest_has P ys rest k x (omega (arith, le)) e all

pub knows_self : (old : List (List ClientRequest)) → KnowsMore old old
knows_self old i = prefix_self (list_at old i)

pub knows_same : (old new : List (List ClientRequest)) → new ≡ old → KnowsMore old new
knows_same old new e = subst (λ (l : List (List ClientRequest)). KnowsMore old l) (sym e) (knows_self old)

pub knows_more : (a b c : List (List ClientRequest)) → KnowsMore a b → KnowsMore b c → KnowsMore a c
knows_more a b c p q i = prefix_trans (list_at a i) (list_at b i) (list_at c i) (p i) (q i)

pub grew_self : (s : Sender Operation) → Grew s s
grew_self s = record { begins = λ i. prefix_self (at_shard s.accepted i) }

pub grew_more : (s t u : Sender Operation) → Grew s t → Grew t u → Grew s u
grew_more s t u p q = record { begins = λ i. prefix_trans (at_shard s.accepted i) (at_shard t.accepted i) (at_shard u.accepted i) (p.begins i) (q.begins i) }

-- a request that a queue took in a part of the call was taken in the call
pub asked_in : (r s t u : Sender Operation) (q : ClientRequest) → Grew r s → WasAsked s t q → Grew t u → WasAsked r u q
asked_in r s t u q before w after =
    let shorter = prefix_length (at_shard r.accepted w.shard) (at_shard s.accepted w.shard) (before.begins w.shard) in record {
      shard = w.shard;
      rank = w.rank;
      x = w.x;
      new = omega (arith, shorter, w.new);
      there = prefix_get (at_shard t.accepted w.shard) (at_shard u.accepted w.shard) w.rank w.x (after.begins w.shard) w.there;
      so = w.so;
    }

-- a request that no queue took in either part of the call wasn't taken in the call
not_asked_at : (s t u : Sender Operation) (r : ClientRequest) → NotAsked s t r → NotAsked t u r → Grew t u → (w : WasAsked s u r)
    → (w.rank < length (at_shard t.accepted w.shard)) ⊎ (length (at_shard t.accepted w.shard) ≤ w.rank) → ⊥
not_asked_at s t u r f g h w (inl lt) =
    let p = h.begins w.shard in
    let there = before (at_shard t.accepted w.shard) p.0 w.rank w.x lt (subst (λ (l : List (Ranked Operation)). slice_get l w.rank ≡ Some w.x) (sym p.1) w.there) in
    f (record { shard = w.shard; rank = w.rank; x = w.x; new = w.new; there = there; so = w.so })
not_asked_at s t u r f g h w (inr le) = g (record { shard = w.shard; rank = w.rank; x = w.x; new = le; there = w.there; so = w.so })

pub not_asked_in : (s t u : Sender Operation) (r : ClientRequest) → NotAsked s t r → NotAsked t u r → Grew t u → NotAsked s u r
not_asked_in s t u r f g h w = not_asked_at s t u r f g h w (cases_lt w.rank (length (at_shard t.accepted w.shard)))

pub not_asked_self : (s : Sender Operation) (r : ClientRequest) → NotAsked s s r
not_asked_self s r w = past (at_shard s.accepted w.shard) w.rank w.x w.new w.there

pub not_asked_same : (s t : Sender Operation) (r : ClientRequest) → t ≡ s → NotAsked s t r
not_asked_same s t r e = subst (λ (u : Sender Operation). NotAsked s u r) (sym e) (not_asked_self s r)

no_request : (group : ℕ) (op : Operation) (r : ClientRequest) → IsInternalTo group op → op.carried ≡ ARequest r → ⊥
no_request group op r h e = subst IsNoRequest e h.1

-- a nudge submits no request of a client
pub internal_not_asked : (group : ℕ) (s t : Sender Operation) (r : ClientRequest) → OnlySent s t (IsInternalTo group) → NotAsked s t r
internal_not_asked group s t r o w =
    let there = subst (λ (l : List (Ranked Operation)). slice_get l w.rank ≡ Some w.x) (sym (o.kept w.shard)) w.there in
    no_request group w.x.op r (rest_has (λ (x : Ranked Operation). IsInternalTo group x.op) (at_shard s.accepted w.shard) (o.since w.shard) w.rank w.x w.new there (o.each w.shard)) w.so

-- a node's refusal means the same, whatever the queues took
says_anyway : (classes : Classes) (r : ClientRequest) (A B : Type 0) (e : ExecError) → Says classes r ⊥ ⊥ e → Says classes r A B e
says_anyway classes r A B exec.NotPrimary s = s
says_anyway classes r A B exec.Peering s = s
says_anyway classes r A B exec.LogFull s = s
says_anyway classes r A B exec.StaleNumber s = s
says_anyway classes r A B exec.NoClass s = s
says_anyway classes r A B exec.NoMethod s = s
says_anyway classes r A B exec.InputTooLong s = s
says_anyway classes r A B exec.NoMemory s = s
says_anyway classes r A B exec.Unanswered s = absurd s
says_anyway classes r A B exec.NothingSent s = s
says_anyway classes r A B exec.NumbersUsedUp s = s
says_anyway classes r A B exec.NotTaken s = absurd s

err_anyway : (classes : Classes) (r : ClientRequest) (A B : Type 0) (result : Result PlacedReply ExecError) → IfErr result (Says classes r ⊥ ⊥) → IfErr result (Says classes r A B)
err_anyway classes r A B (Ok reply) k = tt
err_anyway classes r A B (Err e) k = says_anyway classes r A B e k

-- an answer that a look found is the call's answer
pub is_asked : (classes : Classes) (old mid new : Contact) (r : ClientRequest) (result : Result PlacedReply ExecError) → KnowsMore old.seen mid.seen → KnowsMore mid.seen new.seen
    → Grew old.sends mid.sends → Grew mid.sends new.sends → IsAnswer classes new.seen r result → IsAsked classes old new r result
is_asked classes old mid new r result known now grew more a = record {
  seen = knows_more old.seen mid.seen new.seen known now;
  grew = grew_more old.sends mid.sends new.sends grew more;
  ok = a.ok;
  err = err_anyway classes r (WasAsked old.sends new.sends r) (NotAsked old.sends new.sends r) result a.err;
}

-- a queue took the request before a try, or in it
taken_or : (old mid new : Sender Operation) (r : ClientRequest) (before : Bool) → (IsTrue before → WasAsked old mid r) → Grew old mid → Grew mid new → IsTrue before ⊎ WasAsked mid new r → WasAsked old new r
taken_or old mid new r before f g h (inl b) = asked_in old old mid new r (grew_self old) (f b) h
taken_or old mid new r before f g h (inr w) = asked_in old mid new new r g w (grew_self new)

pub taken_in : (old mid new : Sender Operation) (r : ClientRequest) (before now : Bool) → (IsTrue before → WasAsked old mid r) → Grew old mid → Grew mid new
    → (IsTrue now → IsTrue before ⊎ WasAsked mid new r) → IsTrue now → WasAsked old new r
taken_in old mid new r before now f g h t is = taken_or old mid new r before f g h (t is)

pub untaken_in : (old mid new : Sender Operation) (r : ClientRequest) (before now : Bool) → (IsFalse before → NotAsked old mid r) → Grew mid new
    → (IsFalse now → IsFalse before × NotAsked mid new r) → IsFalse now → NotAsked old new r
untaken_in old mid new r before now f h t is = not_asked_in old mid new r (f (t is).0) (t is).1 h

-- a reply whose note a session has heard is true by the lists that the session knows
pub is_answered : (classes : Classes) (heard seen lists : List (List ClientRequest)) (row : ℕ) (r : ClientRequest) (place at : ℕ) (answer given : Answer) (reply : PlacedReply)
    → KnowsMore heard seen → heard ≡ lists → Stands classes (list_at lists row) at r given → place ≡ at → answer ≡ given → reply ≡ record { place = place; answer = answer }
    → IsAnswered classes seen r reply
is_answered classes heard seen lists row r place at answer given reply known is stands p a made = record {
  row = row;
  begun = list_at lists row;
  begins = subst (λ (l : List (List ClientRequest)). IsPrefix (list_at l row) (list_at seen row)) is (known row);
  stands =
      let placed = subst (λ (n : ℕ). Stands classes (list_at lists row) n r given) (sym p) stands in
      let answered = subst (λ (x : Answer). Stands classes (list_at lists row) place r x) (sym a) placed in
      subst (λ (x : PlacedReply). Stands classes (list_at lists row) x.place r x.answer) (sym made) answered;
}

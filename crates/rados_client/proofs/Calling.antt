-- The promise of a call with a new request follows from that of asking for the request.
use Rattle.std.proofs.Common.{◌≡◌, ◌⊎◌, List, [], ◌++◌, ◌-◌, ◌^◌, ◌<◌, ℕ, suc, Result, Ok, Err, Some, refl, sym, ap, ◌∙◌, subst, inl, inr, arith}
use Rattle.std.specs.Prelude.{IfOk, IfErr, ◌↔◌}
use Rattle.pg_log.specs.Requests.{ClientRequest}
use Rattle.pg_log.specs.Log.{Classes}
use Rattle.rados_client.specs.declared.exec_error.ExecError.{ExecError}
use Rattle.rados_client.specs.declared.exec_error.ExecError.TheVariants as exec
use Rattle.std.proofs.lemmas.List.{append-nil}
use Rattle.rados_client.specs.Session.{SessionState, PlacedReply, next_request}
use Rattle.rados_client.specs.Promise.{IsAsked, IsCall, IsUsed, NotAsked, NumberAt, Says, SaysNew, WasAsked}

number_at : (classes : Classes) (old new : SessionState) (r : ClientRequest) (Taken Untaken : Type 0) (e : ExecError) → IsUsed old new r → Says classes r Taken Untaken e → NumberAt old new r e
number_at classes old new r Taken Untaken exec.NotPrimary u s = s
number_at classes old new r Taken Untaken exec.Peering u s = s
number_at classes old new r Taken Untaken exec.LogFull u s = u
number_at classes old new r Taken Untaken exec.StaleNumber u s = u
number_at classes old new r Taken Untaken exec.NoClass u s = u
number_at classes old new r Taken Untaken exec.NoMethod u s = u
number_at classes old new r Taken Untaken exec.InputTooLong u s = u
number_at classes old new r Taken Untaken exec.NoMemory u s = inl u
number_at classes old new r Taken Untaken exec.Unanswered u s = u
number_at classes old new r Taken Untaken exec.NothingSent u s = s
number_at classes old new r Taken Untaken exec.NumbersUsedUp u s = absurd s
number_at classes old new r Taken Untaken exec.NotTaken u s = u

module _ (classes : Classes) (old new : SessionState) (r : ClientRequest) where
  err_of : (result : Result PlacedReply ExecError) → IsAsked classes old.contact new.contact r result → IfErr result (SaysNew classes old new r)
  err_of (Ok reply) a = tt
  err_of (Err e) a = inr a.err

  used_of : (result : Result PlacedReply ExecError) → IsUsed old new r → IfOk result (λ _. IsUsed old new r)
  used_of (Ok reply) u = u
  used_of (Err e) u = tt

  number_of : (result : Result PlacedReply ExecError) → IsUsed old new r → IsAsked classes old.contact new.contact r result → IfErr result (NumberAt old new r)
  number_of (Ok reply) u a = tt
  number_of (Err e) u a = number_at classes old new r (WasAsked old.contact.sends new.contact.sends r) (NotAsked old.contact.sends new.contact.sends r) e u a.err

  -- no answer to a request is that all numbers are used up
  not_used_up : (result : Result PlacedReply ExecError) → IsAsked classes old.contact new.contact r result → result ≡ Err exec.NumbersUsedUp → ⊥
  not_used_up (Ok reply) a e = cc e
  not_used_up (Err why) a e =
      let is : why ≡ exec.NumbersUsedUp = cc e in
      subst (λ (x : ExecError). Says classes r (WasAsked old.contact.sends new.contact.sends r) (NotAsked old.contact.sends new.contact.sends r) x) is a.err

  pub is_call : (result : Result PlacedReply ExecError) → suc old.used < 2 ^ 32 → new.client ≡ old.client → IsUsed old new r → IsAsked classes old.contact new.contact r result → IsCall classes old new r result
  is_call result few client u a = record {
    client = client;
    seen = a.seen;
    ok = a.ok;
    err = err_of result a;
    used = used_of result u;
    number = number_of result u a;
    used_up = ((λ e. absurd (not_used_up result a e)), (λ all. absurd (omega (arith, all, few))));
  }

-- an input of two parts, without a third
pub two_parts : (classes : Classes) (old new : SessionState) (object : List ℕ) (class k : ℕ) (method a b x y : List ℕ) (result : Result PlacedReply ExecError) → class ≡ k → a ≡ x → b ≡ y
    → IsCall classes old new (next_request old object class method ((a ++ b) ++ [])) result → IsCall classes old new (next_request old object k method (x ++ y)) result
two_parts classes old new object class k method a b x y result e f h call =
    let input : (a ++ b) ++ [] ≡ x ++ y = append-nil (a ++ b) ∙ (ap (λ (l : List ℕ). l ++ b) f ∙ ap (λ (l : List ℕ). x ++ l) h) in
    subst (λ (i : List ℕ). IsCall classes old new (next_request old object k method i) result) input
    (subst (λ (c : ℕ). IsCall classes old new (next_request old object c method ((a ++ b) ++ [])) result) e call)

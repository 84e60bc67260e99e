-- The calls of one session and of all sessions, first of some steps and then of more.
use Rattle.std.proofs.Common.{◌≡◌, ◌++◌, ◌∷◌, [], ℕ, suc, ◌+◌, ◌-◌, ◌<◌, ◌≤◌, Bool, true, false, List, Result, take, drop, length, get_or, slice_index_or, slice_range, if◌then◌else◌, nat_le, ◌&&◌, refl, sym, ap, subst, ◌∙◌, append_assoc, arith}
use Rattle.std.proofs.Math.Seq.{take-suc}
use Rattle.std.proofs.lemmas.List.{drop-take, take-append-drop, take-take}
use Rattle.pg_log.specs.Log.{Classes}
use Rattle.cluster_file.specs.Planned.{PlannedCall}
use Rattle.cluster_file.specs.Plan.{calls_of}
use Rattle.cluster_file.specs.declared.planned_step.PlannedStep.{PlannedStep}
use Rattle.cluster_file.specs.declared.planned_step.PlannedStep.TheVariants.{Call, Map}
use Rattle.rados_client.specs.Session.{PlacedReply, SessionState}
use Rattle.rados_client.specs.declared.exec_error.ExecError.{ExecError}
use Rattle.cluster_tool.specs.Answers.{AreCalls}
use Rattle.cluster_tool.specs.Callers.{AllCalled, CallerState, HasCalled, HasEnded}

kept : (b : Bool) (c : PlannedCall) (xs ys zs : List PlannedCall) → zs ≡ xs ++ ys → (if b then c ∷ zs else zs) ≡ (if b then c ∷ xs else xs) ++ ys
kept true c xs ys zs e = ap (λ (l : List PlannedCall). c ∷ l) e
kept false c xs ys zs e = e

-- the calls of two lists of steps
pub calls_of-append : (client : ℕ) (xs ys : List PlannedStep) → calls_of client (xs ++ ys) ≡ calls_of client xs ++ calls_of client ys
calls_of-append client [] ys = refl
calls_of-append client (Map line nodes ∷ xs) ys = calls_of-append client xs ys
calls_of-append client (Call call ∷ xs) ys =
    kept (nat_le call.client client && nat_le client call.client) call (calls_of client xs) (calls_of client ys) (calls_of client (xs ++ ys)) (calls_of-append client xs ys)

-- the calls of a session, and then more of them
pub calls-append : (classes : Classes) (cs ds : List PlannedCall) (es fs : List (Result PlacedReply ExecError)) (s t u : SessionState) →
    AreCalls classes cs es s t → AreCalls classes ds fs t u → AreCalls classes (cs ++ ds) (es ++ fs) s u
calls-append classes [] ds [] fs s t u first more = subst (λ (x : SessionState). AreCalls classes ds fs x u) first more
calls-append classes [] ds (e ∷ es) fs s t u first more = absurd first
calls-append classes (c ∷ cs) ds [] fs s t u first more = absurd first
calls-append classes (c ∷ cs) ds (e ∷ es) fs s t u first more =
    (first.0, first.1, calls-append classes cs ds es fs first.0 t u first.2 more)

ended_more : (classes : Classes) (xs ys : List PlannedStep) (a b c : CallerState) → b.session.client ≡ a.session.client → HasEnded classes xs a b → HasEnded classes ys b c → HasEnded classes (xs ++ ys) a c
ended_more classes xs ys a b c same m n = record {
  more = m.more ++ n.more;
  grew = n.grew ∙ (ap (λ (l : List (Result PlacedReply ExecError)). l ++ n.more) m.grew ∙ append_assoc a.ends m.more n.more);
  calls =
      let later : AreCalls classes (calls_of a.session.client ys) n.more b.session c.session =
      subst (λ (k : ℕ). AreCalls classes (calls_of k ys) n.more b.session c.session) same n.calls in
      subst (λ (l : List PlannedCall). AreCalls classes l (m.more ++ n.more) a.session c.session) (sym (calls_of-append a.session.client xs ys))
      (calls-append classes (calls_of a.session.client xs) (calls_of a.session.client ys) m.more n.more a.session b.session c.session m.calls later);
}

-- a client's calls of these steps, and then of those
pub called_more : (classes : Classes) (xs ys : List PlannedStep) (a b c : CallerState) → HasCalled classes xs a b → HasCalled classes ys b c → HasCalled classes (xs ++ ys) a c
called_more classes xs ys a b c m n = record {
  client = n.client ∙ m.client;
  lost = λ k. m.lost (n.lost k);
  ends = λ k. ended_more classes xs ys a b c m.client (m.ends (n.lost k)) (n.ends k);
}

-- all clients' calls of these steps, and then of those
pub all_more : (classes : Classes) (xs ys : List PlannedStep) (olds mids news : List CallerState) → AllCalled classes xs olds mids → AllCalled classes ys mids news → AllCalled classes (xs ++ ys) olds news
all_more classes xs ys olds mids news m n = record {
  count = n.count ∙ m.count;
  each = λ k d within. called_more classes xs ys (slice_index_or olds k d) (slice_index_or mids k d) (slice_index_or news k d)
      (m.each k d within) (n.each k d (subst (λ (z : ℕ). k < z) (sym m.count) within));
}

-- the steps below a place, and those from there to a later one
pub steps_between : (a b : ℕ) (xs : List PlannedStep) → a ≤ b → take a xs ++ slice_range xs a b ≡ take b xs
steps_between a b xs early =
    let e : a + (b - a) ≡ b = omega (arith, early) in
    let d : drop a (take b xs) ≡ take (b - a) (drop a xs) = subst (λ (n : ℕ). drop a (take n xs) ≡ take (b - a) (drop a xs)) e (drop-take a (b - a) xs) in
    subst (λ (l : List PlannedStep). take a xs ++ l ≡ take b xs) d
    (subst (λ (l : List PlannedStep). l ++ drop a (take b xs) ≡ take b xs) (take-take a b xs early) (take-append-drop a (take b xs)))

-- one more step
pub called_next : (classes : Classes) (steps : List PlannedStep) (k : ℕ) (step : PlannedStep) (a b c : CallerState) → k < length steps → step ≡ get_or steps k step →
    HasCalled classes (take k steps) a b → HasCalled classes (step ∷ []) b c → HasCalled classes (take (k + 1) steps) a c
called_next classes steps k step a b c within is m n =
    let t : take (suc k) steps ≡ take k steps ++ (get_or steps k step ∷ []) = take-suc steps k step within in
    let u : take (suc k) steps ≡ take k steps ++ (step ∷ []) = subst (λ (x : PlannedStep). take (suc k) steps ≡ take k steps ++ (x ∷ [])) (sym is) t in
    let w : suc k ≡ k + 1 = omega arith in
    subst (λ (i : ℕ). HasCalled classes (take i steps) a c) w
    (subst (λ (l : List PlannedStep). HasCalled classes l a c) (sym u) (called_more classes (take k steps) (step ∷ []) a b c m n))

-- all calls up to a later place
pub all_between : (classes : Classes) (steps : List PlannedStep) (from at : ℕ) (olds mids news : List CallerState) → from ≤ at →
    AllCalled classes (take from steps) olds mids → AllCalled classes (slice_range steps from at) mids news → AllCalled classes (take at steps) olds news
all_between classes steps from at olds mids news early m n =
    subst (λ (l : List PlannedStep). AllCalled classes l olds news) (steps_between from at steps early) (all_more classes (take from steps) (slice_range steps from at) olds mids news m n)

-- The ends of all calls, by the calls that each client's thread made.
use Rattle.std.proofs.Common.{◌≡◌, ◌++◌, ◌∷◌, [], ℕ, zero, suc, ◌+◌, ◌<◌, ◌≤◌, ◌⊎◌, inl, inr, false, List, Result, Some, length, length-append, map, slice_index_or, refl, sym, ap, subst, ◌∙◌, arith}
use Rattle.std.specs.List.{All, slice_get}
use Rattle.std.proofs.Math.Seq.{get_or-append_seam}
use Rattle.std.proofs.lemmas.Bool.Decides.{leb_tells}
use Rattle.std.proofs.lemmas.List.{get_or_append_left, length-map, map-append}
use Rattle.std.proofs.lemmas.Option.{get_or_from_slice_get, none-some, same_Some, slice_get_within}
use Rattle.pg_log.specs.Log.{Classes}
use Rattle.cluster_file.specs.Plan.{calls_of, clients_in}
use Rattle.cluster_file.specs.declared.planned_step.PlannedStep.{PlannedStep}
use Rattle.rados_client.specs.Session.{PlacedReply}
use Rattle.rados_client.specs.declared.exec_error.ExecError.{ExecError}
use Rattle.cluster_tool.specs.Answers.{AreCalls, AreEndsOf, AreAllEnds}
use Rattle.cluster_tool.specs.Callers.{AllCalled, AreNew, CallerState, HasCalled, IsNewCaller}
use Rattle.osd.specs.declared.config.Config.{Config}
use Rattle.cluster_tool.specs.Played.{AreDone, AreMapsMade}

-- a client whose calls have these ends
record IsThere (callers : List CallerState) (at : ℕ) (ends : List (Result PlacedReply ExecError)) : Type 0 where
  pub caller : CallerState
  pub is : slice_get callers at ≡ Some caller
  pub its : caller.ends ≡ ends

found : (callers : List CallerState) (at : ℕ) (ends : List (Result PlacedReply ExecError)) → slice_get (map (λ (c : CallerState). c.ends) callers) at ≡ Some ends → IsThere callers at ends
found [] at ends is = absurd (none-some ends is)
found (c ∷ callers) zero ends is = record { caller = c; is = refl; its = same_Some c.ends ends is }
found (c ∷ callers) (suc at) ends is =
    let f = found callers at ends is in
    record { caller = f.caller; is = f.is; its = f.its }

ends_of : (classes : Classes) (steps : List PlannedStep) (client : ℕ) (first last : CallerState) → IsNewCaller client first → HasCalled classes steps first last → last.lost ≡ false → AreEndsOf classes client (calls_of client steps) last.ends
ends_of classes steps client first last new called whole =
    let e = called.ends whole in
    let same : last.ends ≡ e.more = e.grew ∙ ap (λ (l : List (Result PlacedReply ExecError)). l ++ e.more) new.ends in
    record {
      first = first.session;
      last = last.session;
      new = new.session;
      calls =
          subst (λ (l : List (Result PlacedReply ExecError)). AreCalls classes (calls_of client steps) l first.session last.session) (sym same)
          (subst (λ (k : ℕ). AreCalls classes (calls_of k steps) e.more first.session last.session) new.session.client e.calls);
    }

-- new clients made all their calls, and kept the end of each
pub all_ended : (classes : Classes) (steps : List PlannedStep) (clients : ℕ) (olds news : List CallerState) → AreNew clients olds → AllCalled classes steps olds news → All (λ (c : CallerState). c.lost ≡ false) news → AreAllEnds classes steps (map (λ (c : CallerState). c.ends) news)
all_ended classes steps clients olds news new called whole before ends is =
    let f = found news before ends is in
    let there : before < length news = slice_get_within news before f.caller f.is in
    let within : before < length olds = subst (λ (z : ℕ). before < z) called.count there in
    let early : before < clients = subst (λ (z : ℕ). before < z) new.count within in
    let last : slice_index_or news before f.caller ≡ f.caller = get_or_from_slice_get news before f.caller f.caller f.is in
    let made = called.each before f.caller within in
    subst (λ (l : List (Result PlacedReply ExecError)). AreEndsOf classes (suc before) (calls_of (suc before) steps) l) f.its
    (ends_of classes steps (suc before) (slice_index_or olds before f.caller) f.caller (new.each before f.caller early)
    (subst (λ (c : CallerState). HasCalled classes steps (slice_index_or olds before f.caller) c) last made)
    (subst (λ (c : CallerState). c.lost ≡ false) last (whole before f.caller there)))

pub all_counted : (classes : Classes) (steps : List PlannedStep) (clients : ℕ) (olds news : List CallerState) → AreNew clients olds → AllCalled classes steps olds news → length (map (λ (c : CallerState). c.ends) news) ≡ clients
all_counted classes steps clients olds news new called = length-map news (λ (c : CallerState). c.ends) ∙ (called.count ∙ new.count)

each_case : (P : ℕ → CallerState → Type 0) (xs : List CallerState) (n : ℕ) (c : CallerState) → length xs ≡ n → ((k : ℕ) (d : CallerState) → k < n → P k (slice_index_or xs k d)) → P n c →
    (k : ℕ) (d : CallerState) → k < n + 1 → (k < n) ⊎ (n ≤ k) → P k (slice_index_or (xs ++ c ∷ []) k d)
each_case P xs n c at before one k d within (inl early) =
    let inside : k < length xs = subst (λ (i : ℕ). k < i) (sym at) early in
    subst (λ (x : CallerState). P k x) (sym (get_or_append_left xs (c ∷ []) d k inside)) (before k d early)
each_case P xs n c at before one k d within (inr late) =
    let same : n ≡ k = omega (arith, within, late) in
    let seam : slice_index_or (xs ++ c ∷ []) n d ≡ c = subst (λ (i : ℕ). slice_index_or (xs ++ c ∷ []) i d ≡ c) at (get_or-append_seam xs c [] d) in
    subst (λ (i : ℕ). P i (slice_index_or (xs ++ c ∷ []) i d)) same (subst (λ (x : CallerState). P n x) (sym seam) one)

below : (k n : ℕ) → (k < n) ⊎ (n ≤ k)
below k n = grind (arith, leb_tells n k)

each_more : (P : ℕ → CallerState → Type 0) (xs : List CallerState) (n : ℕ) (c : CallerState) → length xs ≡ n → ((k : ℕ) (d : CallerState) → k < n → P k (slice_index_or xs k d)) → P n c →
    (k : ℕ) (d : CallerState) → k < n + 1 → P k (slice_index_or (xs ++ c ∷ []) k d)
each_more P xs n c at before one k d within = each_case P xs n c at before one k d within (below k n)

count_more : (xs : List CallerState) (n : ℕ) (c : CallerState) → length xs ≡ n → length (xs ++ c ∷ []) ≡ n + 1
count_more xs n c at = length-append xs (c ∷ []) ∙ ap (λ (i : ℕ). i + 1) at

-- one more new client
pub new_more : (n : ℕ) (xs ys : List CallerState) (c : CallerState) → AreNew n xs → IsNewCaller (suc n) c → ys ≡ xs ++ c ∷ [] → AreNew (n + 1) ys
new_more n xs ys c are is grew = subst (λ (l : List CallerState). AreNew (n + 1) l) (sym grew) (record {
  count = count_more xs n c are.count;
  each = each_more (λ (k : ℕ) (x : CallerState). IsNewCaller (suc k) x) xs n c are.count are.each is;
})

-- the ends of one more client
pub ends_more : {V : Type 0} (f : V → List (Result PlacedReply ExecError)) (vs ws : List V) (v : V) (cs : List CallerState) (c : CallerState) →
    ws ≡ vs ++ v ∷ [] → f v ≡ c.ends → map f vs ≡ map (λ (x : CallerState). x.ends) cs → map f ws ≡ map (λ (x : CallerState). x.ends) (cs ++ c ∷ [])
ends_more {V} f vs ws v cs c grew one so =
    let g : CallerState → List (Result PlacedReply ExecError) = λ x. x.ends in
    ap (λ (l : List V). map f l) grew ∙ (map-append f vs (v ∷ [])
    ∙ (ap (λ (l : List (List (Result PlacedReply ExecError))). l ++ f v ∷ []) so ∙ (ap (λ (e : List (Result PlacedReply ExecError)). map g cs ++ e ∷ []) one
    ∙ sym (map-append g cs (c ∷ [])))))

pub whole_more : (cs : List CallerState) (c : CallerState) → All (λ (x : CallerState). x.lost ≡ false) cs → c.lost ≡ false → All (λ (x : CallerState). x.lost ≡ false) (cs ++ c ∷ [])
whole_more cs c all one k d within =
    each_more (λ (i : ℕ) (x : CallerState). x.lost ≡ false) cs (length cs) c refl all one k d (subst (λ (i : ℕ). k < i) (count_more cs (length cs) c refl) within)

-- all calls are done, and all maps made
pub are_done : (classes : Classes) (config : Config) (steps : List PlannedStep) (clients : ℕ) (olds news : List CallerState) (all : List (List (Result PlacedReply ExecError))) →
    all ≡ map (λ (c : CallerState). c.ends) news → clients ≡ clients_in 0 steps → AreNew clients olds → AllCalled classes steps olds news → All (λ (c : CallerState). c.lost ≡ false) news →
    AreMapsMade config steps → AreDone classes config steps all
are_done classes config steps clients olds news all is counted new called whole maps =
    subst (λ (l : List (List (Result PlacedReply ExecError))). AreDone classes config steps l) (sym is) (record {
      clients = all_counted classes steps clients olds news new called ∙ counted;
      ends = all_ended classes steps clients olds news new called whole;
      maps = maps;
    })

-- The played worlds after the lines of a file: each is an agreed one.
use Rattle.std.proofs.Common.{◌≡◌, ◌⊎◌, inl, inr, ℕ, zero, suc, Bool, true, false, if◌then◌else◌, List, [], ◌∷◌, ◌++◌, take, refl, sym, subst, arith, append_assoc, append-nil}
use Rattle.std.proofs.lemmas.List.Elements.{Contains-append_left, Contains-append_right, Contains-append_cases}
use Rattle.std.specs.List.{Contains}
use Rattle.pg_log.specs.Requests.{ClientRequest}
use Rattle.pg_log.specs.Log.{Classes}
use Rattle.pg_log.specs.Runs.{RepliesRun}
use Rattle.group_world.proofs.Lists.{prefix_refl}
use Rattle.group_world.specs.Node.{committed_list}
use Rattle.group_world.specs.World.{IsUncut, brought}
use Rattle.sim_world.specs.Lines.{line_of}
use Rattle.sim_world.specs.Texts.{is_bad}
use Rattle.sim_world.specs.declared.line.Line.{Line}
use Rattle.sim_world.specs.declared.line.Line.TheVariants as lines
use Rattle.sim_world.specs.declared.taken.Taken.{Taken}
use Rattle.sim_world.specs.declared.taken.Taken.TheVariants as taken
use Rattle.sim_world.specs.Step.{Played, Happened, beginning, step}
use Rattle.sim_world.specs.Agreed.{EventsGrew, EventsLead, IsAgreedPlayed, WorldsAgree, taken_by}
use Rattle.sim.specs.Run.{IsAgreedRun, Printed, asked, asked_in, before_rest, run_from, text_of}
use Rattle.sim.specs.Simulating.{AllWorldsKnown}
use Rattle.sim.proofs.Replying.{replies_ran}
use Rattle.sim.proofs.Typed.{asked_typed}

-- the played world after lines, from a given one on
abbrev from : (ℕ → Happened → List ℕ) → List (List ℕ) → ℕ → Played → List (List ℕ) → Played
from say names number p ls = (run_from say names number p ls).played

-- the text of a bad line, and of a good one before the rest
abbrev bad_end : (ℕ → Happened → List ℕ) → ℕ → Happened → Printed
bad_end say number h = record { text = say number h; bad = true; played = h.played }

abbrev good_rest : (ℕ → Happened → List ℕ) → List (List ℕ) → ℕ → Happened → List (List ℕ) → Printed
good_rest say names number h ls = before_rest (say number h) (run_from say names number h.played ls)

-- what holds of both worlds holds of the one that is reached
either_played : (P : Played → Type 0) (b : Bool) (x y : Printed) → P x.played → P y.played → P (if b then x else y).played
either_played P true x y p q = p
either_played P false x y p q = q

both_played : (R : Played → Played → Type 0) (b : Bool) (x y u v : Printed) → R x.played u.played → R y.played v.played → R (if b then x else y).played (if b then u else v).played
both_played R true x y u v p q = p
both_played R false x y u v p q = q

-- EVENTS LEAD to each
leads_on : (say : ℕ → Happened → List ℕ) (classes : Classes) → WorldsAgree → (names : List (List ℕ)) (number : ℕ) (p : Played) (ls : List (List ℕ)) → EventsLead classes p → EventsLead classes (from say names number p ls)
leads_on say classes agree names number p [] leads = leads
leads_on say classes agree names number p (line ∷ ls) leads =
    let l = line_of names line in
    let h = step p l in
    let next = (agree.next classes p l leads).0.leads in
    either_played (EventsLead classes) (is_bad h.taken) (bad_end say (suc number) h) (good_rest say names (suc number) h ls)
    next (leads_on say classes agree names (suc number) h.played ls next)

agreed_on : (classes : Classes) → WorldsAgree → (p : Played) → EventsLead classes p → IsAgreedPlayed classes p
agreed_on classes agree p leads = (agree.next classes p lines.Empty leads).0

-- BETWEEN TWO LINES: what holds of a world and itself, and of a line, holds from one to the next
between : (say : ℕ → Happened → List ℕ) (classes : Classes) → WorldsAgree → (R : Played → Played → Type 0) → ((q : Played) → R q q) → ((q : Played) (l : Line) → EventsLead classes q → R q (step q l).played)
    → (names : List (List ℕ)) (number : ℕ) (p : Played) (ls : List (List ℕ)) (n : ℕ) → EventsLead classes p → R (from say names number p (take n ls)) (from say names number p (take (suc n) ls))
between say classes agree R same line_is names number p [] zero leads = same p
between say classes agree R same line_is names number p [] (suc n) leads = same p
between say classes agree R same line_is names number p (line ∷ ls) zero leads =
    let l = line_of names line in
    let h = step p l in
    let is = line_is p l leads in
    either_played (R p) (is_bad h.taken) (bad_end say (suc number) h) (good_rest say names (suc number) h []) is is
between say classes agree R same line_is names number p (line ∷ ls) (suc n) leads =
    let l = line_of names line in
    let h = step p l in
    let next = (agree.next classes p l leads).0.leads in
    both_played R (is_bad h.taken) (bad_end say (suc number) h) (good_rest say names (suc number) h (take n ls)) (bad_end say (suc number) h) (good_rest say names (suc number) h (take (suc n) ls))
    (same h.played) (between say classes agree R same line_is names (suc number) h.played ls n next)

abbrev grew : Played → Played → Type 0
grew p q = EventsGrew p.events q.events

abbrev uncut : Played → Played → Type 0
uncut p q = IsUncut p.world q.world

-- WHAT WAS BROUGHT
either_list : (rs ss : List ClientRequest) (r : ClientRequest) → ((ss ≡ []) ⊎ (ss ≡ rs)) → Contains ss r → Contains rs r
either_list rs ss r (inl e) h = let none = subst (λ (xs : List ClientRequest). Contains xs r) e h in let low = none.1 in absurd (omega arith)
either_list rs ss r (inr e) h = subst (λ (xs : List ClientRequest). Contains xs r) e h

-- a line brings its own request or none
ask_own : (r : ClientRequest) (n : ℕ) (t : Taken) → (taken_by (lines.Ask n r) t ≡ []) ⊎ (taken_by (lines.Ask n r) t ≡ r ∷ [])
ask_own r n taken.Bad = inl refl
ask_own r n taken.Skipped = inl refl
ask_own r n taken.Stopped = inl refl
ask_own r n (taken.Sent count) = inr refl
ask_own r n (taken.Refused why) = inl refl
ask_own r n (taken.MonitorRefused why) = inl refl
ask_own r n (taken.Made m) = inl refl
ask_own r n (taken.Shown s) = inl refl
ask_own r n (taken.Again numbers) = inl refl

line_own : (l : Line) (t : Taken) → (taken_by l t ≡ []) ⊎ (taken_by l t ≡ asked_in l)
line_own lines.Empty t = inl refl
line_own (lines.Map acting) t = inl refl
line_own (lines.See n epoch) t = inl refl
line_own (lines.Ask n r) t = ask_own r n t
line_own (lines.Deliver number) t = inl refl
line_own (lines.Show n) t = inl refl
line_own (lines.Stop n) t = inl refl
line_own (lines.Go n) t = inl refl
line_own (lines.Resend n) t = inl refl
line_own lines.Bad t = inl refl

abbrev Within : List ClientRequest → List ClientRequest → Type 0
Within known rs = (r : ClientRequest) → Contains rs r → Contains known r

both_within : (known own old new rs : List ClientRequest) → Within known old → new ≡ old ++ rs → ((rs ≡ []) ⊎ (rs ≡ own)) → Within (known ++ own) new
both_within known own old new rs all e is = λ r h.
    elim (Contains-append_cases old rs r (subst (λ (xs : List ClientRequest). Contains xs r) e h)) as (λ w. Contains (known ++ own) r) [
      | inl before ↦ Contains-append_left known own r (all r before)
      | inr now ↦ Contains-append_right known own r (either_list own rs r is now)
    ]

brought_on : (say : ℕ → Happened → List ℕ) (classes : Classes) → WorldsAgree → (names : List (List ℕ)) (number : ℕ) (p : Played) (ls : List (List ℕ)) (known : List ClientRequest) → EventsLead classes p
    → Within known (brought p.events) → Within (known ++ asked names ls) (brought (from say names number p ls).events)
brought_on say classes agree names number p [] known leads all = λ r h. Contains-append_left known [] r (all r h)
brought_on say classes agree names number p (line ∷ ls) known leads all =
    let l = line_of names line in
    let h = step p l in
    let is = agree.next classes p l leads in
    let own = asked_in l in
    let now : Within (known ++ own) (brought h.played.events) =
    both_within known own (brought p.events) (brought h.played.events) (taken_by l h.taken) all is.1.brought (line_own l h.taken) in
    let P : Played → Type 0 = λ q. Within ((known ++ own) ++ asked names ls) (brought q.events) in
    subst (λ (xs : List ClientRequest). Within xs (brought (from say names number p (line ∷ ls)).events)) (append_assoc known own (asked names ls))
    (either_played P (is_bad h.taken) (bad_end say (suc number) h) (good_rest say names (suc number) h ls)
    (λ r k. Contains-append_left (known ++ own) (asked names ls) r (now r k))
    (brought_on say classes agree names (suc number) h.played ls (known ++ own) is.0.leads now))

-- nothing was brought before the first line
none_brought : Within [] (brought [])
none_brought r h = let low = h.1 in absurd (omega arith)

-- A RUN
agreed_run : WorldsAgree → RepliesRun → (classes : Classes) (names ls : List (List ℕ)) → IsAgreedRun classes names ls
agreed_run agree law classes names ls =
    let first = beginning classes in
    let say = text_of false classes in
    let leads : EventsLead classes first = refl in
    let agreed : (n : ℕ) → IsAgreedPlayed classes (from say names 0 first (take n ls)) =
    λ n. agreed_on classes agree (from say names 0 first (take n ls)) (leads_on say classes agree names 0 first (take n ls) leads) in
    let known : (n : ℕ) → Within (asked names (take n ls)) (brought (from say names 0 first (take n ls)).events) =
    λ n. brought_on say classes agree names 0 first (take n ls) [] leads none_brought in
    record {
      agreed = agreed;
      brought = known;
      events = λ n. between say classes agree grew (λ q. record { own = []; few = omega arith; is = sym (append-nil q.events) }) (λ q l h. (agree.next classes q l h).1.events) names 0 first ls n leads;
      uncut = λ n. between say classes agree uncut (λ q m. prefix_refl (committed_list (q.world.nodes m))) (λ q l h. (agree.next classes q l h).1.uncut) names 0 first ls n leads;
      replies = λ all n. replies_ran law classes (from say names 0 first (take n ls)) (agreed n) all (λ r h. asked_typed names (take n ls) r (known n r h));
    }

pub worlds_known : WorldsAgree → RepliesRun → AllWorldsKnown
worlds_known agree law classes names ls = agreed_run agree law classes names ls

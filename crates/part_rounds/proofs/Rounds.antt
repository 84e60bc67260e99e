-- There are at most as many rounds as helper calls and removals of names.
use Rattle.std.proofs.Common.{◌≡◌, ◌∙◌, inl, inr, ℕ, suc, ◌+◌, ◌<◌, ◌≤◌, Bool, true, false, ◌||◌, List, [], ◌∷◌, Option, Some, None, is_some, length, refl, ap, sym, subst, arith}
use Rattle.std.specs.Prelude.{◌⊎◌}
use Rattle.std.specs.FinMap as fin
use Rattle.std.proofs.lemmas.Bool.{cases_lt}
use Rattle.bpf_decode.specs.Class.{ClassMethod}
use Rattle.bpf_decode.specs.declared.insn.Insn.{Insn}
use Rattle.bpf_decode.specs.declared.insn.Insn.TheVariants.{Call}
use Rattle.bpf_decode.specs.Instruction.{slots}
use Rattle.bpf_machine.specs.declared.caps.Caps.{Caps}
use Rattle.bpf_machine.specs.State.{◌>>=◌, State}
use Rattle.bpf_machine.specs.Helper.{asked}
use Rattle.bpf_machine.specs.Flat.{arguments}
use Rattle.bpf_machine.specs.Typed.{fetch}
use Rattle.bpf_machine.specs.Lists.{listed_host_entry}
use Rattle.bpf_machine.specs.Safe.{caps_of, first_layout}
use Rattle.object_store.specs.declared.limits.Limits.{Limits}
use Rattle.object_store.specs.Object.{PlainObject}
use Rattle.helpers.specs.declared.helper.Helper.{Helper}
use Rattle.helpers.specs.Effect.{Given, text}
use Rattle.helpers.specs.Table.{row, helper_of}
use Rattle.shared_map.specs.Entries.{key_above}
use Rattle.part_names.specs.Order.{is_before, is_held, least_from}
use Rattle.part_names.specs.Known.{is_known}
use Rattle.parts.specs.Known.{KnownObject}
use Rattle.part_calls.specs.Needed.{NeededBy}
use Rattle.part_calls.specs.Parts.{Comes}
use Rattle.part_calls.specs.More.{MoreStopsNoEarlier, NeededOnce}
use Rattle.part_calls.proofs.Least.{apart, below_chain, none_between, some_none}
use Rattle.part_rounds.specs.Counts.{called_by, calls_in, calls_next, count_below, some_with, state_after}
use Rattle.part_rounds.specs.Rounds.{AreNext, HoldNext, IsNext, Round, RoundsAreFew, RoundsAreFewInRun, calls_on, last_stop, removals_on}
use Rattle.part_rounds.proofs.Counting.{and_one, count_implied, count_more, count_next, count_one, either}
use Rattle.part_rounds.proofs.Strings.{IsCovered, Passed, from_above, passed}
use Rattle.part_rounds.proofs.NameKinds.{GapOf, Sort, placed, plain, agrees_of, gap_at, map_of, more_of, named, names_of, next_held, next_of, place_at, place_of, sort}
use Rattle.part_rounds.proofs.Along.{Fate, stays, gone, all, RemovedAt, Span, same, whole, fate, one_removal, removal_counts, removes_at, span, state_is}

some_same : {A : Type 0} (a b : A) → Some a ≡ Some b → a ≡ b
some_same a b e = cc

not_held : (a b : Bool) → (a || b) ≡ false → b ≡ false
not_held true b e = absurd (cc e)
not_held false b e = e

held_known : (a b : Bool) → b ≡ true → (a || b) ≡ true
held_known true b e = refl
held_known false b e = e

module _ (limits : Limits) (m : ClassMethod) (o : PlainObject) (caller : ℕ) (input : List ℕ) where
  abbrev caps : Caps
  caps = caps_of m

  abbrev code : List (Option Insn)
  code = slots m.instructions

  abbrev first : State ℕ
  first = listed_host_entry limits caps (first_layout caps) o caller input

  abbrev pub Rounded : Type 0
  Rounded = Round limits m o caller input

  abbrev pub at : Rounded → ℕ
  at r = r.stops.steps

  comes : (r : Rounded) → Comes limits m o caller input r.stops.steps r.stops.id r.stops.helper r.stops.given r.part r.stops.known
  comes r = r.stops.comes o r.may_be

  -- what the next round has of the one before
  pub record Follows (r s : Rounded) : Type 0 where
    pub more : (b : Bool) (a : List ℕ) → is_held (names_of b r.part).intervals a ≡ true → is_held (names_of b s.part).intervals a ≡ true
    pub later : at r ≤ at s
    pub next : (b : Bool) (p : List ℕ) → place_of r.need ≡ Some (b, p) → HoldNext (map_of b o) (names_of b s.part).intervals p
    pub once : ((b : Bool) × (p : List ℕ) × (place_of r.need ≡ Some (b, p))) ⊎ (at r < at s)

  -- A removal, of a name of which the next part has all up to the next name.
  record Mark (r : Rounded) (j : ℕ) : Type 0 where
    kind : Bool
    name : List ℕ
    removed : RemovedAt caps code first j kind name
    covers : (k : KnownObject) → ((b : Bool) (a : List ℕ) → is_held (names_of b r.part).intervals a ≡ true → is_held (names_of b k).intervals a ≡ true) →
        ((b : Bool) (p : List ℕ) → place_of r.need ≡ Some (b, p) → HoldNext (map_of b o) (names_of b k).intervals p) →
        IsCovered (map_of kind o) (names_of kind k).intervals name

  -- so many rounds: as many as calls of helpers before, one more, and marks
  record Counted (n : ℕ) (r : Rounded) (marks : ℕ → Bool) : Type 0 where
    bound : n ≤ suc (calls_in caps code first (at r) + count_below marks (at r))
    before : (j : ℕ) → marks j ≡ true → j < at r
    each : (j : ℕ) → marks j ≡ true → Mark r j

  -- a mark stays one
  mark_on : (r s : Rounded) → Follows r s → (j : ℕ) → Mark r j → Mark s j
  mark_on r s f j mark = record {
    kind = mark.kind;
    name = mark.name;
    removed = mark.removed;
    covers = λ k wider next q up clear. wider mark.kind q (mark.covers s.part f.more f.next q up clear);
  }

  -- a round's call is one of a helper
  call_counts : (r : Rounded) → some_with (calls_next caps code (λ helper. true)) (state_after caps code first (at r)) ≡ true
  call_counts r =
      let c = comes r in
      ap (λ (s : Option (State ℕ)). some_with (calls_next caps code (λ helper. true)) s) (state_is caps code (at r) first c.state r.part r.stops.known c.learns)
      ∙ ap (λ (i : Option Insn). some_with (λ (h : Helper). true) (i >>= called_by)) c.calls
      ∙ ap (some_with (λ (h : Helper). true)) r.stops.found

  -- ---- the next round at a later call
  later_round : (n : ℕ) (r s : Rounded) (marks : ℕ → Bool) → Counted n r marks → Follows r s → at r < at s → Counted (suc n) s marks
  later_round n r s marks c f lt =
      let calls = count_more (λ k. some_with (calls_next caps code (λ helper. true)) (state_after caps code first k)) (suc (at r)) (at s) lt in
      let one = count_next (λ k. some_with (calls_next caps code (λ helper. true)) (state_after caps code first k)) (at r) (call_counts r) in
      let others = count_more marks (at r) (at s) f.later in
      record {
        bound = omega (arith, c.bound, calls, one, others);
        before = λ j is. omega (arith, c.before j is, lt);
        each = λ j is. mark_on r s f j (c.each j is);
      }

  -- ---- the next round at the same call
  module _ (r s : Rounded) (f : Follows r s) (here : at r ≡ at s) (b : Bool) (p : List ℕ) (placed_at : place_of r.need ≡ Some (b, p)) where
    one_state : (comes r).state ≡ (comes s).state
    one_state =
        some_same (comes r).state (comes s).state
        (sym (state_is caps code (at r) first (comes r).state r.part r.stops.known (comes r).learns) ∙ ap (state_after caps code first) here ∙ state_is caps code (at s) first (comes s).state s.part s.stops.known (comes s).learns)

    call_is : (i j : ℕ) → Some (Call i) ≡ Some (Call j) → i ≡ j
    call_is i j e = cc

    one_id : r.stops.id ≡ s.stops.id
    one_id = call_is r.stops.id s.stops.id (sym (comes r).calls ∙ ap (λ (u : State ℕ). fetch code u.slot) one_state ∙ (comes s).calls)

    one_helper : s.stops.helper ≡ r.stops.helper
    one_helper = some_same s.stops.helper r.stops.helper (sym s.stops.found ∙ ap helper_of (sym one_id) ∙ r.stops.found)

    one_given : s.stops.given ≡ r.stops.given
    one_given =
        let g : (comes s).asks.0 ≡ (comes r).asks.0 =
        some_same (comes s).asks.0 (comes r).asks.0 (sym (comes s).asks.2 ∙ ap (λ (h : Helper). arguments caps (first_layout caps) (comes s).state (row h).takes.arguments 1) one_helper ∙ ap (λ (u : State ℕ). arguments caps (first_layout caps) u (row r.stops.helper).takes.arguments 1) (sym one_state) ∙ (comes r).asks.2) in
        sym (comes s).asks.1 ∙ ap asked g ∙ (comes r).asks.1

    gap : (r.stops.helper ≡ next_of b) × GapOf b r.stops.known (text r.stops.given 0) p
    gap = gap_at r.stops.known r.stops.given r.stops.helper r.need b p placed_at r.stops.stops

    needs_next : NeededBy (next_of b) s.stops.known r.stops.given s.need
    needs_next =
        subst (λ (g : Given). NeededBy (next_of b) s.stops.known g s.need) one_given
        (subst (λ (h : Helper). NeededBy h s.stops.known s.stops.given s.need) (one_helper ∙ gap.0) s.stops.stops)

    abbrev q : List ℕ
    q = (place_at s.stops.known r.stops.given b s.need needs_next).0

    q_is : place_of s.need ≡ Some (b, q)
    q_is = (place_at s.stops.known r.stops.given b s.need needs_next).1

    gap_next : GapOf b s.stops.known (text r.stops.given 0) q
    gap_next = (gap_at s.stops.known r.stops.given (next_of b) s.need b q q_is needs_next).1

    -- a part's intervals are those that the call has as it stops
    same_span : (t : Rounded) (place : List ℕ) → is_known (names_of b t.stops.known) place ≡ false → (names_of b t.stops.known).intervals ≡ (names_of b t.part).intervals
    same_span t place unknown = by (span caps code first t.part b (at t) (comes t).state t.stops.known (comes t).learns)
      where
        by : Span caps code first t.part b t.stops.known → (names_of b t.stops.known).intervals ≡ (names_of b t.part).intervals
        by (same e) = e
        by (whole held) = absurd (apart _ (held place) (not_held _ _ unknown))

    free : is_held (names_of b s.part).intervals q ≡ false
    free = ap (λ is. is_held is q) (sym (same_span s q gap_next.unknown)) ∙ not_held _ _ gap_next.unknown

    abbrev low : List ℕ
    low = least_from (text r.stops.given 0)

    over : Passed (map_of b o) (names_of b s.part).intervals low q
    over =
        passed (map_of b o) (names_of b s.part).intervals low p q
        (λ a from to. f.more b a (ap (λ is. is_held is a) (sym (same_span r p gap.1.unknown)) ∙ gap.1.first a from to))
        (λ a from to. ap (λ is. is_held is a) (sym (same_span s q gap_next.unknown)) ∙ gap_next.first a from to)
        gap.1.from gap_next.from free (f.next b p placed_at)

    -- the name was there, and isn't any more
    held : is_held (names_of b s.part).intervals over.name ≡ true
    held = ap (λ is. is_held is over.name) (sym (same_span s q gap_next.unknown)) ∙ gap_next.first over.name over.from over.before

    was_there : is_some (fin.get (names_of b s.part).entries over.name) ≡ true
    was_there =
        ap is_some (sym (agrees_of b s.part o s.may_be.stands over.name (held_known _ _ held))) ∙ over.there

    is_not : fin.get (names_of b s.stops.known).entries over.name ≡ None
    is_not =
        none_between (names_of b s.stops.known).entries (text r.stops.given 0) over.name
        (from_above (text r.stops.given 0) over.name (named b o s.may_be.formed over.name over.there) over.from)
        (before (key_above (names_of b s.stops.known).entries (text r.stops.given 0)) gap_next.before)
      where
        before : (e : Option (List ℕ)) → is_before q e ≡ true → is_before over.name e ≡ true
        before None h = refl
        before (Some n) h = below_chain over.name q n over.before h

    removal : (j : ℕ) × (j < at s) × RemovedAt caps code first j b over.name
    removal = by (fate caps code first s.part b over.name (at s) (comes s).state s.stops.known (comes s).learns was_there)
      where
        by : Fate caps code first s.part b over.name (at s) s.stops.known → (j : ℕ) × (j < at s) × RemovedAt caps code first j b over.name
        by (stays there) = absurd (some_none _ there is_not)
        by (gone j lt removed) = (j, lt, removed)
        by (all known) = absurd (apart _ (known q) (not_held _ _ gap_next.unknown))

    new_mark : Mark s removal.0
    new_mark = record {
      kind = b;
      name = over.name;
      removed = removal.2;
      covers = λ k wider next. over.covers (names_of b k).intervals (wider b) (next b q q_is);
    }

    unmarked : (n : ℕ) (marks : ℕ → Bool) → Counted n r marks → marks removal.0 ≡ false
    unmarked n marks c = by (marks removal.0) refl
      where
        by : (e : Bool) → marks removal.0 ≡ e → e ≡ false
        by false e = refl
        by true e =
            let mark = c.each removal.0 e in
            let one = one_removal caps code first removal.0 mark.kind b mark.name over.name mark.removed removal.2 in
            let covered = mark.covers s.part f.more f.next in
            absurd (over.open_there (subst (λ (x : List ℕ). IsCovered (map_of b o) (names_of b s.part).intervals x) one.1
            (subst (λ (k : Bool). IsCovered (map_of k o) (names_of k s.part).intervals mark.name) one.0 covered)))

    same_round : (n : ℕ) (marks : ℕ → Bool) → Counted n r marks → Counted (suc n) s (and_one marks removal.0)
    same_round n marks c =
        let one = count_one marks removal.0 (at s) removal.1 (unmarked n marks c) in
        let moved : n ≤ suc (calls_in caps code first (at s) + count_below marks (at s)) =
        subst (λ t. n ≤ suc (calls_in caps code first t + count_below marks t)) here c.bound in
        record {
          bound = omega (arith, one, moved);
          before = λ j is. elim (either marks removal.0 j is) [
            | inl old ↦ subst (λ t. j < t) here (c.before j old)
            | inr new ↦ subst (λ i. i < at s) (sym new) removal.1
          ];
          each = λ j is. elim (either marks removal.0 j is) [
            | inl old ↦ mark_on r s f j (c.each j old)
            | inr new ↦ subst (λ i. Mark s i) (sym new) new_mark
          ];
        }

  -- ---- each next round
  next_round : (n : ℕ) (r s : Rounded) (marks : ℕ → Bool) → Counted n r marks → Follows r s → (new : ℕ → Bool) × Counted (suc n) s new
  next_round n r s marks c f = elim (cases_lt (at r) (at s)) [
    | inl lt ↦ (marks, later_round n r s marks c f lt)
    | inr back ↦ elim f.once [
      | inl place ↦ (
          let here : at r ≡ at s = omega (arith, back, f.later) in
          (and_one marks (removal r s f here place.0 place.1 place.2).0, same_round r s f here place.0 place.1 place.2 n marks c)
          )
      | inr lt ↦ absurd (omega (arith, back, lt))
    ]
  ]

  abbrev pub AllFollow : Rounded → List Rounded → Type 0
  AllFollow r [] = Unit {0}
  AllFollow r (s ∷ rounds) = Follows r s × AllFollow s rounds

  all_rounds : (n : ℕ) (r : Rounded) (marks : ℕ → Bool) → Counted n r marks → (rounds : List Rounded) → AllFollow r rounds →
      n + length rounds ≤ calls_on limits m o caller input (suc (last_stop r rounds)) + removals_on limits m o caller input (last_stop r rounds)
  all_rounds n r marks c [] f =
      let one = count_next (λ k. some_with (calls_next caps code (λ helper. true)) (state_after caps code first k)) (at r) (call_counts r) in
      let removals = count_implied marks (removes_at caps code first) (at r) (λ j is. let mark = c.each j is in removal_counts caps code first j mark.kind mark.name mark.removed) in
      omega (arith, c.bound, one, removals)
  all_rounds n r marks c (s ∷ rounds) f =
      let next = next_round n r s marks c f.0 in
      let rest = all_rounds (suc n) s next.0 next.1 rounds f.1 in
      omega (arith, rest)

  pub few : (r : Rounded) (rounds : List Rounded) → AllFollow r rounds →
      length (r ∷ rounds) ≤ calls_on limits m o caller input (suc (last_stop r rounds)) + removals_on limits m o caller input (last_stop r rounds)
  few r rounds f =
      let none : Counted 1 r (λ j. false) = record { bound = omega arith; before = λ j is. absurd (cc is); each = λ j is. absurd (cc is) } in
      let all = all_rounds 1 r (λ j. false) none rounds f in
      omega (arith, all)

  -- the counts of the whole run are no lower
  pub in_run : (k : ℕ) (r : Rounded) (rounds : List Rounded) (n : ℕ) → last_stop r rounds < n →
      k ≤ calls_on limits m o caller input (suc (last_stop r rounds)) + removals_on limits m o caller input (last_stop r rounds) →
      k ≤ calls_on limits m o caller input n + removals_on limits m o caller input n
  in_run k r rounds n lt bound =
      let calls = count_more (λ k. some_with (calls_next caps code (λ helper. true)) (state_after caps code first k)) (suc (last_stop r rounds)) n lt in
      let removals = count_more (removes_at caps code first) (last_stop r rounds) n (omega (arith, lt)) in
      omega (arith, bound, calls, removals)

  -- ---- of what calls know
  follows : MoreStopsNoEarlier → NeededOnce → (r s : Rounded) → IsNext r s → Follows r s
  follows no_earlier needed_once r s is = record {
    more = more_of_each;
    later = later;
    next = next_held o s.part r.need is.named;
    once = by (sort o s.part r.need is.named);
  }
    where
      more_of_each : (b : Bool) (a : List ℕ) → is_held (names_of b r.part).intervals a ≡ true → is_held (names_of b s.part).intervals a ≡ true
      more_of_each b a h = more_of b r.part s.part is.more a h

      later : at r ≤ at s
      later =
          no_earlier limits m o caller input r.part s.part is.more r.stops.steps r.stops.id r.stops.helper r.stops.given r.stops.known (comes r)
          s.stops.steps s.stops.id s.stops.helper s.stops.given s.stops.known s.stops.found (comes s) s.need s.stops.stops

      by : Sort o s.part r.need → ((b : Bool) × (p : List ℕ) × (place_of r.need ≡ Some (b, p))) ⊎ (at r < at s)
      by (placed b p e) = inl (b, p, e)
      by (plain has) =
          inr (needed_once limits m o caller input r.part s.part is.more r.stops.steps r.stops.id r.stops.helper r.stops.given r.stops.known r.stops.found (comes r)
          r.need r.stops.stops has s.stops.steps s.stops.id s.stops.helper s.stops.given s.stops.known s.stops.found (comes s) s.need s.stops.stops)

  all_follow : MoreStopsNoEarlier → NeededOnce → (r : Rounded) (rounds : List Rounded) → AreNext r rounds → AllFollow r rounds
  all_follow no_earlier needed_once r [] are = tt
  all_follow no_earlier needed_once r (s ∷ rounds) are = (follows no_earlier needed_once r s are.0, all_follow no_earlier needed_once s rounds are.1)

pub rounds_are_few : MoreStopsNoEarlier → NeededOnce → RoundsAreFew
rounds_are_few no_earlier needed_once limits m o caller input r rounds are =
    few limits m o caller input r rounds (all_follow limits m o caller input no_earlier needed_once r rounds are)

pub few_in_run : MoreStopsNoEarlier → NeededOnce → RoundsAreFewInRun
few_in_run no_earlier needed_once limits m o caller input r rounds are n lt =
    in_run limits m o caller input (length (r ∷ rounds)) r rounds n lt (rounds_are_few no_earlier needed_once limits m o caller input r rounds are)

-- What becomes of a name that is known to be there, along a run, and of the intervals.
use Rattle.std.proofs.Common.{◌≡◌, ◌∙◌, inl, inr, ℕ, zero, suc, ◌+◌, ◌<◌, ◌==◌, Bool, true, false, cond, ◌&&◌, List, [], ◌∷◌, Option, Some, None, is_some, refl, ap, sym, arith}
use Rattle.std.specs.Prelude.{if◌then◌else◌}
use Rattle.std.specs.Ordering.{nat_cmp, is_eq, eq_by_cmp}
use Rattle.std.specs.Option.{option_map}
use Rattle.std.specs.Cmp.Lexicographic.{slice_cmp}
use Rattle.std.specs.declared.cmp.Ordering.{Ordering}
use Rattle.std.specs.declared.cmp.Ordering.TheVariants.{Less, Equal, Greater}
use Rattle.std.proofs.lemmas.Cmp.{nat_list_cmp_total}
use Rattle.std.proofs.lemmas.Map.Lookups.{exact_bytes}
use Rattle.std.specs.FinMap as fin
use Rattle.bpf_decode.specs.declared.insn.Insn.{Insn}
use Rattle.bpf_decode.specs.declared.insn.Insn.TheVariants.{Call}
use Rattle.bpf_machine.specs.declared.caps.Caps.{Caps}
use Rattle.bpf_machine.specs.State.{◌>>=◌, State, reg, go}
use Rattle.bpf_machine.specs.Helper.{Given, asked}
use Rattle.bpf_machine.specs.Flat.{arguments, help}
use Rattle.bpf_machine.specs.Typed.{fetch}
use Rattle.bpf_machine.specs.Decoded.{insn_act, insn_step}
use Rattle.bpf_machine.specs.Safe.{first_layout}
use Rattle.helpers.specs.declared.helper.Helper.{Helper}
use Rattle.helpers.specs.Effect as table
use Rattle.helpers.specs.Effect.{text}
use Rattle.helpers.specs.Table.{row, helper_of, effect, effect_of, signature_of}
use Rattle.interp.proofs.Options.{bind_exists, only_exists}
use Rattle.part_names.specs.Order.{is_held}
use Rattle.part_names.specs.Known.{PlainNames}
use Rattle.part_names.specs.Changes.{none_there, without_entry}
use Rattle.parts.specs.Known.{KnownObject}
use Rattle.parts.specs.Grows.{is_done}
use Rattle.part_calls.specs.Parts.{Calls, LearnsAlong}
use Rattle.part_calls.proofs.Growing.{call_or_not, step_at, step_grows}
use Rattle.part_rounds.specs.Counts.{answers_zero, called_by, calls_next, removes_name, some_with, state_after}
use Rattle.part_rounds.proofs.NameKinds.{Change, keeps, sets, removes, empties, change, grows_of, learned_is, learned_of, names_of, one_kind, rm_answers, rm_of, rm_removes}

some_same : {A : Type 0} (a b : A) → Some a ≡ Some b → a ≡ b
some_same a b e = cc

both : (a b : Bool) → a ≡ true → b ≡ true → (a && b) ≡ true
both true b p q = q
both false b p q = absurd (cc)

all_held : (most : ℕ) (name : List ℕ) → is_held (none_there most).intervals name ≡ true
all_held most [] = refl
all_held most (x ∷ xs) = refl

reg_same : (s t : State ℕ) → Some s ≡ Some t → reg t 0 ≡ reg s 0
reg_same s t e = ap (λ (u : State ℕ). reg u 0) (some_same t s (sym e))

module _ (caps : Caps) (code : List (Option Insn)) where
  -- a chain of steps leads to the state after as many
  pub state_is : (n : ℕ) (first s : State ℕ) (k known : KnownObject) → LearnsAlong caps code n first k s known → state_after caps code first n ≡ Some s
  state_is zero first s k known l = ap Some l.0
  state_is (suc n) first s k known l =
      ap (λ (o : Option (State ℕ)). o >>= λ r. insn_step caps (first_layout caps) code r) (state_is n first l.0 k l.1 l.2) ∙ l.3

  -- what a helper answers stands in register 0 after its call
  call_answers : (s t : State ℕ) (id : ℕ) (h : Helper) (g : Given) → fetch code s.slot ≡ Some (Call id) → helper_of id ≡ Some h →
      arguments caps (first_layout caps) s (row h).takes.arguments 1 ≡ Some g → insn_step caps (first_layout caps) code s ≡ Some t →
      reg t 0 ≡ Some ((row h).effect s.object (asked g)).answer
  call_answers s t id h g at found asks step =
      let lay = first_layout caps in
      let acts : insn_act caps lay (Call id) s ≡ Some t = sym (ap (λ (q : Option Insn). q >>= λ i. insn_act caps lay i s) at) ∙ step in
      let helped = bind_exists (help caps lay id s) (λ (u : State ℕ). Some (go (s.slot + 1) u)) t acts in
      let signed = bind_exists (signature_of id) _ helped.0 helped.1 in
      let takes : signed.0 ≡ (row h).takes = some_same signed.0 (row h).takes (sym signed.1 ∙ ap (option_map (λ (h : Helper). (row h).takes)) found) in
      let may = only_exists _ _ helped.0 signed.2 in
      let given = bind_exists (arguments caps lay s signed.0.arguments 1) _ helped.0 may.1 in
      let same : given.0 ≡ g = some_same given.0 g (sym given.1 ∙ ap (λ (k : table.Takes). arguments caps lay s k.arguments 1) takes ∙ asks) in
      ap (λ (u : State ℕ). reg u 0) (sym (some_same (go (s.slot + 1) helped.0) t helped.2))
      ∙ reg_same _ helped.0 given.2
      ∙ ap (λ (i : Given). Some (effect id s.object (asked i)).answer) same
      ∙ ap (λ (f : Option Helper). Some (effect_of f s.object (asked g)).answer) found

  module _ (first : State ℕ) where
    -- a run's instruction of a number removes a name
    pub record RemovedAt (j : ℕ) (b : Bool) (x : List ℕ) : Type 0 where
      pub state : State ℕ
      pub reached : state_after caps code first j ≡ Some state
      pub id : ℕ
      pub calls : fetch code state.slot ≡ Some (Call id)
      pub found : helper_of id ≡ Some (rm_of b)
      pub given : Given
      pub asks : arguments caps (first_layout caps) state (row (rm_of b)).takes.arguments 1 ≡ Some given
      pub name : text (asked given) 0 ≡ x
      pub done : answers_zero caps code state ≡ true

    -- it counts as such
    abbrev pub removes_at : ℕ → Bool
    removes_at j = some_with (λ s. calls_next caps code removes_name s && answers_zero caps code s) (state_after caps code first j)

    pub removal_counts : (j : ℕ) (b : Bool) (x : List ℕ) → RemovedAt j b x → removes_at j ≡ true
    removal_counts j b x r =
        ap (λ (o : Option (State ℕ)). some_with (λ s. calls_next caps code removes_name s && answers_zero caps code s) o) r.reached
        ∙ both _ _ (ap (λ (i : Option Insn). some_with removes_name (i >>= called_by)) r.calls ∙ ap (some_with removes_name) r.found ∙ rm_removes b) r.done

    -- and removes one name
    pub one_removal : (j : ℕ) (a b : Bool) (x y : List ℕ) → RemovedAt j a x → RemovedAt j b y → (a ≡ b) × (x ≡ y)
    one_removal j a b x y r s =
        let state : r.state ≡ s.state = some_same r.state s.state (sym r.reached ∙ s.reached) in
        let call : Call r.id ≡ Call s.id = some_same (Call r.id) (Call s.id) (sym r.calls ∙ ap (λ (u : State ℕ). fetch code u.slot) state ∙ s.calls) in
        let id : r.id ≡ s.id = call_is r.id s.id call in
        let kind : a ≡ b = one_kind a b (some_same (rm_of a) (rm_of b) (sym r.found ∙ ap helper_of id ∙ s.found)) in
        let given : r.given ≡ s.given =
        some_same r.given s.given (sym r.asks ∙ ap (λ (k : Bool). arguments caps (first_layout caps) r.state (row (rm_of k)).takes.arguments 1) kind ∙ ap (λ (u : State ℕ). arguments caps (first_layout caps) u (row (rm_of b)).takes.arguments 1) state ∙ s.asks) in
        (kind, sym r.name ∙ ap (λ (g : Given). text (asked g) 0) given ∙ s.name)
      where
        call_is : (i j : ℕ) → Call i ≡ Call j → i ≡ j
        call_is i j e = cc

    -- ---- a name that is known to be there stays, or is removed, or the whole object is
    module _ (k : KnownObject) (b : Bool) (x : List ℕ) where
      pub data Fate (n : ℕ) (known : KnownObject) : Type 0 where
        stays : is_some (fin.get (names_of b known).entries x) ≡ true → Fate n known
        gone : (j : ℕ) → j < n → RemovedAt j b x → Fate n known
        all : ((q : List ℕ) → is_held (names_of b known).intervals q ≡ true) → Fate n known

      -- by a helper
      module _ (n : ℕ) (r s : State ℕ) (old known : KnownObject) (id : ℕ) (reached : state_after caps code first n ≡ Some r)
          (at : fetch code r.slot ≡ Some (Call id)) (step : insn_step caps (first_layout caps) code r ≡ Some s)
          (c : Calls caps r old known id) (here : is_some (fin.get (names_of b old).entries x) ≡ true) where
        abbrev answer : ℕ
        answer = ((row c.helper).effect r.object (asked c.given)).answer

        abbrev entry : PlainNames → Bool
        entry names = is_some (fin.get names.entries x)

        abbrev learned : PlainNames
        learned = learned_of b c.helper (asked c.given) (names_of b old)

        undone : is_done answer ≡ false → Fate (suc n) known
        undone not = stays (ap entry (learned_is b c.helper (asked c.given) old known answer c.answered.learned ∙ ap (λ (d : Bool). if d then learned else names_of b old) not) ∙ here)

        module _ (done : is_done answer ≡ true) where
          after : names_of b known ≡ learned
          after = learned_is b c.helper (asked c.given) old known answer c.answered.learned ∙ ap (λ (d : Bool). if d then learned else names_of b old) done

          removed : c.helper ≡ rm_of b → x ≡ text (asked c.given) 0 → RemovedAt n b x
          removed is name =
              let zero : answer ≡ 0 =
              ap (λ (h : Helper). ((row h).effect r.object (asked c.given)).answer) is ∙ rm_answers b r.object (asked c.given) (ap (λ (h : Helper). is_done ((row h).effect r.object (asked c.given)).answer) (sym is) ∙ done) in
              record {
                state = r;
                reached = reached;
                id = id;
                calls = at;
                found = c.found ∙ ap Some is;
                given = c.given;
                asks = ap (λ (h : Helper). arguments caps (first_layout caps) r (row h).takes.arguments 1) (sym is) ∙ c.asks;
                name = sym name;
                done =
                    ap (λ (o : Option (State ℕ)). some_with (λ n. n == 0) (o >>= λ t. reg t 0)) step
                    ∙ ap (λ (o : Option ℕ). some_with (λ n. n == 0) o) (call_answers r s id c.helper c.given at c.found c.asks step)
                    ∙ ap (λ n. n == 0) zero;
              }

          unset : (e : Bool) → eq_by_cmp (slice_cmp nat_cmp) x (text (asked c.given) 0) ≡ e → c.helper ≡ rm_of b → learned ≡ without_entry (names_of b old) (text (asked c.given) 0) → Fate (suc n) known
          unset true tied is f = gone n (omega arith) (removed is (by (slice_cmp nat_cmp x (text (asked c.given) 0)) refl tied))
            where
              by : (o : Ordering) → slice_cmp nat_cmp x (text (asked c.given) 0) ≡ o → is_eq o ≡ true → x ≡ text (asked c.given) 0
              by Less e g = absurd (cc g)
              by Equal e g = exact_bytes x (text (asked c.given) 0) e
              by Greater e g = absurd (cc g)
          unset false tied is f =
              stays (ap entry (after ∙ f)
              ∙ ap is_some (fin.get-remove nat_list_cmp_total (names_of b old).entries (text (asked c.given) 0) x)
              ∙ ap (λ (d : Bool). is_some (cond d None (fin.get (names_of b old).entries x))) tied ∙ here)

          set : (e : Bool) → is_some (cond e (Some (text (asked c.given) 1)) (fin.get (names_of b old).entries x)) ≡ true
          set true = refl
          set false = here

          by_change : Change b c.helper (asked c.given) → Fate (suc n) known
          by_change (keeps f) = stays (ap entry (after ∙ f (names_of b old)) ∙ here)
          by_change (sets f) =
              stays (ap entry (after ∙ f (names_of b old))
              ∙ ap is_some (fin.get-insert nat_list_cmp_total (names_of b old).entries (text (asked c.given) 0) (text (asked c.given) 1) x)
              ∙ set (eq_by_cmp (slice_cmp nat_cmp) x (text (asked c.given) 0)))
          by_change (removes is f) = unset (eq_by_cmp (slice_cmp nat_cmp) x (text (asked c.given) 0)) refl is (f (names_of b old))
          by_change (empties f) =
              all (λ q. ap (λ (m : PlainNames). is_held m.intervals q) (after ∙ f (names_of b old)) ∙ all_held (names_of b old).most q)

        by_call : Fate (suc n) known
        by_call = of (is_done answer) refl
          where
            of : (d : Bool) → is_done answer ≡ d → Fate (suc n) known
            of true e = by_change e (change b c.helper (asked c.given))
            of false e = undone e

      pub fate : (n : ℕ) (s : State ℕ) (known : KnownObject) → LearnsAlong caps code n first k s known → is_some (fin.get (names_of b k).entries x) ≡ true → Fate n known
      fate zero s known l here = stays (ap (λ (m : KnownObject). is_some (fin.get (names_of b m).entries x)) (sym l.1) ∙ here)
      fate (suc n) s known l here = on (fate n l.0 l.1 l.2 here)
        where
          on : Fate n l.1 → Fate (suc n) known
          on (gone j lt r) = gone j (omega (arith, lt)) r
          on (all held) =
              let at = step_at caps code l.0 s l.3 in
              all (λ q. grows_of b l.1 known (step_grows caps code l.0 l.1 known at.0 at.1 l.4) q (held q))
          on (stays there) =
              let at = step_at caps code l.0 s l.3 in
              elim (call_or_not at.0) [
                | inl call ↦ by_call n l.0 s l.1 known call.0 (state_is n first l.0 k l.1 l.2) (at.1 ∙ ap Some call.1) l.3 (l.4.calls call.0 (at.1 ∙ ap Some call.1)) there
                | inr plain ↦ stays (ap (λ (m : KnownObject). is_some (fin.get (names_of b m).entries x)) (l.4.others at.0 at.1 plain) ∙ there)
              ]

    -- ---- intervals stay, or hold all strings
    module _ (k : KnownObject) (b : Bool) where
      pub data Span (known : KnownObject) : Type 0 where
        same : (names_of b known).intervals ≡ (names_of b k).intervals → Span known
        whole : ((q : List ℕ) → is_held (names_of b known).intervals q ≡ true) → Span known

      module _ (r : State ℕ) (old known : KnownObject) (id : ℕ) (c : Calls caps r old known id) (before : (names_of b old).intervals ≡ (names_of b k).intervals) where
        span_call : Span known
        span_call = of (is_done ((row c.helper).effect r.object (asked c.given)).answer) refl
          where
            after : (d : Bool) → is_done ((row c.helper).effect r.object (asked c.given)).answer ≡ d → names_of b known ≡ (if d then learned_of b c.helper (asked c.given) (names_of b old) else names_of b old)
            after d e = learned_is b c.helper (asked c.given) old known _ c.answered.learned ∙ ap (λ (d : Bool). if d then learned_of b c.helper (asked c.given) (names_of b old) else names_of b old) e

            on : Change b c.helper (asked c.given) → names_of b known ≡ learned_of b c.helper (asked c.given) (names_of b old) → Span known
            on (keeps f) e = same (ap (λ (m : PlainNames). m.intervals) (e ∙ f (names_of b old)) ∙ before)
            on (sets f) e = same (ap (λ (m : PlainNames). m.intervals) (e ∙ f (names_of b old)) ∙ before)
            on (removes is f) e = same (ap (λ (m : PlainNames). m.intervals) (e ∙ f (names_of b old)) ∙ before)
            on (empties f) e = whole (λ q. ap (λ (m : PlainNames). is_held m.intervals q) (e ∙ f (names_of b old)) ∙ all_held (names_of b old).most q)

            of : (d : Bool) → is_done ((row c.helper).effect r.object (asked c.given)).answer ≡ d → Span known
            of true e = on (change b c.helper (asked c.given)) (after true e)
            of false e = same (ap (λ (m : PlainNames). m.intervals) (after false e) ∙ before)

      pub span : (n : ℕ) (s : State ℕ) (known : KnownObject) → LearnsAlong caps code n first k s known → Span known
      span zero s known l = same (ap (λ (m : KnownObject). (names_of b m).intervals) (sym l.1))
      span (suc n) s known l = on (span n l.0 l.1 l.2)
        where
          on : Span l.1 → Span known
          on (whole held) =
              let at = step_at caps code l.0 s l.3 in
              whole (λ q. grows_of b l.1 known (step_grows caps code l.0 l.1 known at.0 at.1 l.4) q (held q))
          on (same before) =
              let at = step_at caps code l.0 s l.3 in
              elim (call_or_not at.0) [
                | inl call ↦ span_call l.0 l.1 known call.0 (l.4.calls call.0 (at.1 ∙ ap Some call.1)) before
                | inr plain ↦ same (ap (λ (m : KnownObject). (names_of b m).intervals) (l.4.others at.0 at.1 plain) ∙ before)
              ]

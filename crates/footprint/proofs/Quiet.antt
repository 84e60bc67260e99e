-- A run whose helpers change nothing leaves the empty list.
use Rattle.std.proofs.Common.{◌≡◌, ◌∙◌, ℕ, zero, suc, ◌+◌, ◌-◌, ◌^◌, ◌≤◌, Bool, true, false, List, [], ◌∷◌, Option, Some, None, refl, ap, sym, subst, arith}
use Rattle.std.specs.Prelude.{if◌then◌else◌, nat_lt, unwrap_or}
use Rattle.std.specs.List.{AllByRecursion}
use Rattle.std.proofs.lemmas.Option.{none-some, same_Some}
use Rattle.std.proofs.lemmas.Bool.{cond-false, le-ltb}
use Rattle.bpf_decode.specs.declared.insn.Insn.{Insn}
use Rattle.bpf_decode.specs.declared.insn.Insn.TheVariants.{Call}
use Rattle.bpf_decode.specs.Instruction.{AllFit, slot_count, spelling, slots}
use Rattle.object_store.specs.Object.{PlainObject}
use Rattle.txn.specs.Edits.{Edit}
use Rattle.helpers.specs.declared.helper.Helper.{Helper}
use Rattle.helpers.specs.declared.helper.Helper.TheVariants.{Stat, Read, Write, Truncate, Remove, GetXattr, SetXattr, RmXattr, MapGet, MapSet, MapRm, MapNext, OutLen, Create, Caller, Compare, Copy, XattrNext}
use Rattle.helpers.specs.Effect.{Given}
use Rattle.helpers.specs.Table.{row, helper_of, effect_of, effect}
use Rattle.helpers.specs.Edits.{if_done, edits_row, edits_of, edits}
use Rattle.std.specs.Option.{option_map}
use Rattle.bpf_machine.specs.declared.caps.Caps.{Caps}
use Rattle.bpf_machine.specs.State.{State, Outcome, reg, go, with_edits}
use Rattle.bpf_machine.specs.Helper.{asked}
use Rattle.bpf_machine.specs.Flat.{Layout, Chain}
use Rattle.bpf_machine.specs.Lists.{ListsAtExit, listed_entry}
use Rattle.bpf_machine.specs.Typed.{fetch}
use Rattle.bpf_machine.specs.Blind.{StepsAreBlind}
use Rattle.bpf_machine.specs.Safe.{caps_of, BytesAreInstructions, ElsewhereIsStuck, HasLayout, first_layout}
use Rattle.footprint.specs.Calls.{writes_by, may_change}
use Rattle.footprint.specs.Lengths.{ChangesNothing, NoChangeLeavesNothing, OnlyReads, ReadersLeaveNothing}
use Rattle.footprint.proofs.Calls.{later, false_true}
use Rattle.footprint.proofs.Moves.{helped, plain_leaves, Stepped, stepped}

-- ---- a helper that changes nothing leaves no edits
none : (n : ℕ) → if_done n [] ≡ []
none n = by (nat_lt n (2 ^ 63))
  where
    by : (b : Bool) → ◌≡◌ {A = List Edit} (if b then [] else []) []
    by true = refl
    by false = refl

negative : (n : ℕ) (es : List Edit) → 2 ^ 63 ≤ n → if_done n es ≡ []
negative n es h = cond-false (nat_lt n (2 ^ 63)) es [] (le-ltb n (2 ^ 63) h)

pub quiet : (h : Helper) (o : PlainObject) (g : Given) → ((row h).takes.writes ≡ true → 2 ^ 63 ≤ ((row h).effect o g).answer) → if_done ((row h).effect o g).answer (edits_row h o g) ≡ []
quiet Stat o g n = none ((row Stat).effect o g).answer
quiet Read o g n = none ((row Read).effect o g).answer
quiet Write o g n = negative ((row Write).effect o g).answer (edits_row Write o g) (n refl)
quiet Truncate o g n = negative ((row Truncate).effect o g).answer (edits_row Truncate o g) (n refl)
quiet Remove o g n = negative ((row Remove).effect o g).answer (edits_row Remove o g) (n refl)
quiet GetXattr o g n = none ((row GetXattr).effect o g).answer
quiet SetXattr o g n = negative ((row SetXattr).effect o g).answer (edits_row SetXattr o g) (n refl)
quiet RmXattr o g n = negative ((row RmXattr).effect o g).answer (edits_row RmXattr o g) (n refl)
quiet MapGet o g n = none ((row MapGet).effect o g).answer
quiet MapSet o g n = negative ((row MapSet).effect o g).answer (edits_row MapSet o g) (n refl)
quiet MapRm o g n = negative ((row MapRm).effect o g).answer (edits_row MapRm o g) (n refl)
quiet MapNext o g n = none ((row MapNext).effect o g).answer
quiet OutLen o g n = none ((row OutLen).effect o g).answer
quiet Create o g n = negative ((row Create).effect o g).answer (edits_row Create o g) (n refl)
quiet Caller o g n = none ((row Caller).effect o g).answer
quiet Compare o g n = none ((row Compare).effect o g).answer
quiet Copy o g n = none ((row Copy).effect o g).answer
quiet XattrNext o g n = none ((row XattrNext).effect o g).answer

quiet_edits : (id : ℕ) (o : PlainObject) (g : Given) → (may_change id ≡ true → 2 ^ 63 ≤ (effect id o g).answer) → edits id o g ≡ []
quiet_edits id o g n = by (helper_of id) n
  where
    by : (h : Option Helper) → (writes_by (option_map (λ h. (row h).takes) h) ≡ true → 2 ^ 63 ≤ (effect_of h o g).answer) → edits_of h o g ≡ []
    by None n = refl
    by (Some h) n = quiet h o g n

-- ---- so the list stays empty
module _ (blind : StepsAreBlind) (begins : BytesAreInstructions) (elsewhere : ElsewhereIsStuck) (caps : Caps) (lay : Layout) (is : List Insn) (fit : AllFit is) where
  -- the rest of a run in which each helper that may change the object answers a negative number
  step_quiet : (s t : State ℕ) → ((id answer : ℕ) → fetch (slots is) s.slot ≡ Some (Call id) → may_change id ≡ true → reg t 0 ≡ Some answer → 2 ^ 63 ≤ answer) → Stepped caps lay is s t → s.edits ≡ Some [] → t.edits ≡ Some []
  step_quiet s t n (Stepped.plain i other at e) kept = ap (λ (u : State ℕ). u.edits) (plain_leaves blind caps lay i s t other e) ∙ kept
  step_quiet s t n (Stepped.called id g at is_given same) kept =
      let u : State ℕ = go (s.slot + 1) (helped id s g) in
      let empty = quiet_edits id s.object (asked g) (λ writes. n id (effect id s.object (asked g)).answer at writes (ap (λ (v : State ℕ). reg v 0) (sym same))) in
      sym (ap (λ (v : State ℕ). v.edits) same) ∙ ap (λ (es : List Edit). with_edits es s.edits) empty ∙ ap (with_edits []) kept

  chain_quiet : (n : ℕ) (s l : State ℕ) → ChangesNothing caps lay is s → Chain caps lay (spelling is) n s l → s.edits ≡ Some [] → l.edits ≡ Some []
  chain_quiet zero s l h c kept = sym (ap (λ (u : State ℕ). u.edits) c) ∙ kept
  chain_quiet (suc n) s l h c kept =
      chain_quiet n c.0 l
      (λ k u v id answer way. h (suc k) u v id answer (c.0, c.1, way)) c.2
      (step_quiet s c.0 (λ id answer at writes answers. h zero s c.0 id answer refl at writes c.1 answers) (stepped caps lay is fit begins elsewhere s c.0 c.1) kept)

  ends_quiet : (before : PlainObject) (s : State ℕ) (outcome : Outcome) (steps : ℕ) (list : List Edit) → ChangesNothing caps lay is s → ListsAtExit caps lay (spelling is) before s outcome steps list → s.edits ≡ Some [] → list ≡ []
  ends_quiet before s outcome steps list h l kept = l.list_is ∙ by (nat_lt l.ends.value (2 ^ 63))
    where
      by : (b : Bool) → (if b then unwrap_or l.ends.last.edits [] else []) ≡ []
      by true = ap (λ (es : Option (List Edit)). unwrap_or es []) (chain_quiet l.ends.before_exit s l.ends.last h l.ends.chain kept)
      by false = refl

pub no_change_leaves_nothing : StepsAreBlind → BytesAreInstructions → ElsewhereIsStuck → NoChangeLeavesNothing
no_change_leaves_nothing blind begins elsewhere m is_method lay object caller input outcome steps list h l =
    ends_quiet blind begins elsewhere (caps_of m) lay m.instructions is_method.fit object (listed_entry (caps_of m) lay object caller input) outcome steps list h l refl

-- ---- code that calls no helper which may change the object
-- what holds of each instruction holds of one at a slot
pub of_each : (P : Insn → Type 0) (is : List Insn) (k : ℕ) (i : Insn) → AllByRecursion P is → fetch (slots is) k ≡ Some i → P i
of_each P [] k i all e = absurd (none-some i e)
of_each P (j ∷ is) zero i all e = subst P (same_Some j i e) all.0
of_each P (j ∷ is) (suc k) i all e = let l = later (slot_count j - 1) k (slots is) i e in of_each P is l.0 i all.1 l.1

pub readers_leave_nothing : StepsAreBlind → BytesAreInstructions → ElsewhereIsStuck → HasLayout → ReadersLeaveNothing
readers_leave_nothing blind begins elsewhere layouts m is_method reads object caller input outcome steps list lists =
    let caps = caps_of m in
    let lay = first_layout caps in
    no_change_leaves_nothing blind begins elsewhere m is_method lay object caller input outcome steps list
    (λ n s t id answer way at writes st answers. false_true (sym (of_each OnlyReads m.instructions s.slot (Call id) reads at) ∙ writes))
    (lists lay (layouts caps (omega (arith, is_method.in_cap)) (omega (arith, is_method.out_cap))))

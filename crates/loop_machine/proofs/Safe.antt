-- A method whose typed runs by a budget are never stuck is safe by it.
use Rattle.std.proofs.Common.{◌≡◌, ℕ, zero, suc, ◌+◌, ◌<◌, ◌≤◌, ◌⊎◌, inl, inr, List, [], Option, Some, None, refl, ap, ◌∙◌, sym, subst, arith}
use Rattle.bpf_decode.specs.Class.{ClassMethod}
use Rattle.bpf_decode.specs.declared.insn.Insn.{Insn}
use Rattle.bpf_decode.specs.Instruction.{spelling, slots, AllFit}
use Rattle.object_store.specs.declared.limits.Limits.{Limits}
use Rattle.object_store.specs.Limits.{IsLimits}
use Rattle.object_store.specs.Object.{PlainObject}
use Rattle.txn.specs.Edits.{Edit}
use Rattle.txn.specs.Made.{all_made}
use Rattle.helpers.specs.Edits.{edits, EditsMake}
use Rattle.bpf_machine.specs.declared.caps.Caps.{Caps}
use Rattle.bpf_machine.specs.State.{State}
use Rattle.bpf_machine.specs.Flat.{Layout, IsLayout}
use Rattle.bpf_machine.specs.Typed.{Typed, fetch, typed_outcome, typed_host_entry, image}
use Rattle.bpf_machine.specs.Safe.{caps_of}
use Rattle.bpf_machine.specs.Lists.{list_of, listed_host_entry}
use Rattle.bpf_machine.proofs.Listed.{IsPath, both_made}
use Rattle.bpf_machine.proofs.Runs.{entry_image}
use Rattle.loop_machine.specs.Runs.{weight_at, EndsWithinBudget, EndsByBudget, spent_outcome}
use Rattle.loop_machine.specs.Typed.{weight_if, NeverStuckIsSafe}
use Rattle.loop_machine.proofs.Weights.{weighs, bytes_weigh, instructions_weigh}
use Rattle.loop_machine.proofs.Walks.{Leads, Leaves, RunsOut, Walk, walk, exit_at, way_of, none_stuck, way_keeps, list_makes}

module _ (caps : Caps) (is : List Insn) (fit : AllFit is) where
  -- steps are no more than what they take
  few : (n taken : ℕ) (a b : Typed) → Leads caps (slots is) n taken a b → n ≤ taken
  few zero taken a b h = omega arith
  few (suc n) taken a b (i, c, later, e, acts, sum, more) =
      omega (arith, instructions_weigh i, few n later c b more, sum)

  -- what is due in bytes is at least what the typed machine lacks
  due : (budget taken : ℕ) (last : Typed) → taken ≤ budget → budget < taken + weight_if (fetch (slots is) last.slot) → budget < taken + weight_at (spelling is) last.slot
  due budget taken last within short = by (fetch (slots is) last.slot) refl short
    where
      by : (o : Option Insn) → fetch (slots is) last.slot ≡ o → budget < taken + weight_if o → budget < taken + weight_at (spelling is) last.slot
      by None e short = omega (arith, bytes_weigh (spelling is) last.slot)
      by (Some i) e short = omega (arith, weighs is fit last.slot i e)

module _ (m : ClassMethod) (fit : AllFit m.instructions) (budget : ℕ) (limits : Limits) (object : PlainObject) (caller : ℕ) (input : List ℕ) where
  abbrev caps : Caps
  caps = caps_of m

  abbrev is : List Insn
  is = m.instructions

  abbrev begin : Typed
  begin = record (typed_host_entry limits caps object caller input) { edits = Some [] }

  -- what the flat machine begins with is the image of what the typed one does
  begins_so : (lay : Layout) → IsLayout caps lay → image lay begin ≡ listed_host_entry limits caps lay object caller input
  begins_so lay ok = ap (λ (s : State ℕ). record s { limits = limits; edits = Some [] }) (entry_image caps lay ok object caller input)

  module _ (allowed : IsLimits limits) (law : EditsMake) (w : Walk caps (slots is) budget begin) where
    leaves : Leaves caps (slots is) budget w.taken w.last → EndsByBudget limits m budget object caller input
    leaves e =
        let heavy = instructions_weigh e.insn in
        let paid = e.paid in
        let count = few caps is fit w.count w.taken begin w.last w.way in
        record {
          outcome = typed_outcome object e.value w.last;
          steps = suc w.count;
          list = list_of e.value w.last;
          runs = λ lay ok.
              let way = way_of caps lay ok is fit w.count w.taken begin w.last w.way in
              let exit = exit_at caps lay ok is fit w.last e.insn e.value e.at e.exit in
              subst (λ s. EndsWithinBudget caps lay (spelling is) budget object s (typed_outcome object e.value w.last) (suc w.count) (list_of e.value w.last)) (begins_so lay ok)
              (record {
                count = w.count;
                taken = w.taken;
                last = image lay w.last;
                chain = way;
                within = w.within;
                ends = inl (record { value = e.value; exit = exit; paid = omega arith; outcome_is = refl; counted = refl; list_is = refl });
                never_stuck = λ n spent t b paid stuck. none_stuck caps lay (spelling is) w.count n budget w.taken spent (image lay begin) (image lay w.last) t way (inl (e.value, exit)) b paid stuck;
              });
          bounded = omega arith;
          makes = list_makes limits object Makes path caps w.last e.value (way_keeps limits object Makes path caps (slots is) w.count w.taken begin w.last w.way (record { limits = refl; list = []; kept = refl; leads = refl }));
        }
      where
        Makes : List Edit → PlainObject → Type 0
        Makes es o = all_made es object ≡ o

        path : IsPath limits object Makes
        path = record {
          begins = refl;
          goes_on = λ es mid id g l e.
              both_made es (edits id mid g) object
              ∙ ap (all_made (edits id mid g)) e
              ∙ law id mid g (subst IsLimits (sym l) allowed);
        }

    runs_out : RunsOut caps (slots is) budget w.taken w.last → EndsByBudget limits m budget object caller input
    runs_out e = record {
      outcome = spent_outcome object;
      steps = budget;
      list = [];
      runs = λ lay ok.
          let way = way_of caps lay ok is fit w.count w.taken begin w.last w.way in
          let short : budget < w.taken + weight_at (spelling is) w.last.slot = due caps is fit budget w.taken w.last w.within e.short in
          subst (λ s. EndsWithinBudget caps lay (spelling is) budget object s (spent_outcome object) budget []) (begins_so lay ok)
          (record {
            count = w.count;
            taken = w.taken;
            last = image lay w.last;
            chain = way;
            within = w.within;
            ends = inr (record { short = short; outcome_is = refl; counted = refl; list_is = refl });
            never_stuck = λ n spent t b paid stuck. none_stuck caps lay (spelling is) w.count n budget w.taken spent (image lay begin) (image lay w.last) t way (inr short) b paid stuck;
          });
      bounded = omega arith;
      makes = refl;
    }

    pub ends : EndsByBudget limits m budget object caller input
    ends = by w.ends
      where
        by : Leaves caps (slots is) budget w.taken w.last ⊎ RunsOut caps (slots is) budget w.taken w.last → EndsByBudget limits m budget object caller input
        by (inl e) = leaves e
        by (inr e) = runs_out e

pub never_stuck_is_safe : EditsMake → NeverStuckIsSafe
never_stuck_is_safe law m fit budget never limits object caller input call =
    let w = walk (caps_of m) (slots m.instructions) object (suc budget) budget (begin m fit budget limits object caller input) (omega arith) (never limits object caller input call (suc budget)) in
    ends m fit budget limits object caller input call.allowed law w

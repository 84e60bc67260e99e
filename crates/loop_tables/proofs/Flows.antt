-- Along an edge from a slot that no rule refuses the run comes to a slot whose frame is true of its state.
use Rattle.std.proofs.Common.{◌≡◌, ℕ, zero, suc, ◌<◌, List, Option, Some, None, true, refl, ap, ◌∙◌, sym, subst, arith, length, ⊎_elim}
use Rattle.std.specs.Option.{option_map}
use Rattle.std.proofs.lemmas.Bool.{cases_lt, false≢true}
use Rattle.bpf_decode.specs.declared.insn.Insn.{Insn}
use Rattle.bpf_decode.specs.declared.value.Value.{Value}
use Rattle.bpf_machine.specs.declared.caps.Caps.{Caps}
use Rattle.bpf_machine.specs.Typed.{fetch}
use Rattle.abstract_num.specs.declared.precision.Precision.TheVariants.{Halves}
use Rattle.abstract_regs.specs.Frame.{PlainFrame}
use Rattle.abstract_regs.specs.Moves.{Among}
use Rattle.abstract_regs.specs.Laws.{JoinsHold}
use Rattle.verifier.specs.declared.rule.Rule.{Rule}
use Rattle.verifier.specs.Verdict.{Table, frame_at, along, unless_refused}
use Rattle.verifier.proofs.Flows.{Meets, Both, along_keeps, along_meets}
use Rattle.loop_heads.specs.declared.place.HeadPlace.{HeadPlace}
use Rattle.loop_heads.specs.Loops.{PlainHead, head_at}
use Rattle.loop_frames.specs.Heads.{head_frame}
use Rattle.loop_frames.specs.Laws.{HeadsKeep, IsWhole, GreaterKeeps}
use Rattle.loop_tables.specs.Rules.{rule_below}
use Rattle.loop_tables.specs.Table.{edges_at, flow_below, incoming_below, with_head, loop_table}
use Rattle.loop_tables.specs.Verdict.{is_kept}
use Rattle.loop_tables.proofs.Tables.{whole_at}

-- what is declared at a head leaves true what was
pub head_meets : HeadsKeep → (o : Option (List HeadPlace)) (inflow : Option PlainFrame) (cs vs : List (Option Value)) → Meets inflow cs vs → Meets (with_head o inflow) cs vs
head_meets law None inflow cs vs h = h
head_meets law (Some places) inflow cs vs h =
    let kept = law Halves places h.frame in
    let all = kept.keeps cs vs (record { registers = h.holds; slots = h.slots; links = h.links }) in
    record { frame = head_frame Halves places h.frame; is = ap (option_map (head_frame Halves places)) h.is; holds = all.registers; slots = all.slots; links = all.links }

module _ (law : JoinsHold) (heads_keep : HeadsKeep) (caps : Caps) (heads : List PlainHead) (code : List (Option Insn)) where
  unless_keeps : (r : Option Rule) (flown inflow : Option PlainFrame) (cs vs : List (Option Value)) → Meets flown cs vs → Meets inflow cs vs → Meets (unless_refused r flown inflow) cs vs
  unless_keeps None flown inflow cs vs a b = a
  unless_keeps (Some rule) flown inflow cs vs a b = b

  flow_keeps : (p q : ℕ) (o : Option Insn) (frame inflow : Option PlainFrame) (cs vs : List (Option Value)) → Meets inflow cs vs → Meets (flow_below caps heads code p q o frame inflow) cs vs
  flow_keeps p q None frame inflow cs vs h = h
  flow_keeps p q (Some i) None inflow cs vs h = h
  flow_keeps p q (Some i) (Some f) inflow cs vs h = unless_keeps (rule_below caps heads code p i (Some f)) (along (edges_at caps i p f) q inflow) inflow cs vs (along_keeps law (edges_at caps i p f) q inflow cs vs h) h

  -- the flow from slot p is in what the slots below n bring to q, if p is below n
  flowed : (table : Table) (p q : ℕ) (i : Insn) (f g : PlainFrame) (cs vs : List (Option Value)) → fetch code p ≡ Some i → frame_at table p ≡ Some f → rule_below caps heads code p i (Some f) ≡ None → Both g cs vs → Among q g (edges_at caps i p f) → (n : ℕ) → p < n → Meets (incoming_below caps heads code table q n) cs vs
  flowed table p q i f g cs vs at is none h to zero lt = absurd (omega arith)
  flowed table p q i f g cs vs at is none h to (suc n) lt =
      ⊎_elim (λ less. flow_keeps n q (fetch code n) (frame_at table n) (incoming_below caps heads code table q n) cs vs (flowed table p q i f g cs vs at is none h to n less))
      (λ le. let same : p ≡ n = omega arith in subst (λ n. Meets (incoming_below caps heads code table q (suc n)) cs vs) same here) (cases_lt p n)
    where
      here : Meets (incoming_below caps heads code table q (suc p)) cs vs
      here =
          let inflow = incoming_below caps heads code table q p in
          subst (λ o. Meets o cs vs) (sym (ap (λ o. flow_below caps heads code p q o (frame_at table p) inflow) at
          ∙ ap (λ f. flow_below caps heads code p q (Some i) f inflow) is
          ∙ ap (λ r. unless_refused r (along (edges_at caps i p f) q inflow) inflow) none)) (along_meets law (edges_at caps i p f) q g inflow cs vs h to)

  -- a flow to a later slot is part of the frame there
  pub arrives : (p q : ℕ) (i : Insn) (f g : PlainFrame) (cs vs : List (Option Value)) → fetch code p ≡ Some i → frame_at (loop_table caps heads code) p ≡ Some f → rule_below caps heads code p i (Some f) ≡ None → Both g cs vs → Among q g (edges_at caps i p f) → p < q → q < length code → Meets (frame_at (loop_table caps heads code) q) cs vs
  arrives p q i f g cs vs at is none h to lt inside =
      subst (λ o. Meets o cs vs) (sym (whole_at caps heads code q inside))
      (head_meets heads_keep (head_at heads q) (incoming_below caps heads code (loop_table caps heads code) q q) cs vs (flowed (loop_table caps heads code) p q i f g cs vs at is none h to q lt))

-- a flow that goes back is below the frame there
pub goes_back : GreaterKeeps → (g : PlainFrame) (o : Option PlainFrame) (cs vs : List (Option Value)) → is_kept g o ≡ true → IsWhole g → ((f : PlainFrame) → o ≡ Some f → IsWhole f) → Both g cs vs → Meets o cs vs
goes_back law g None cs vs kept whole there h = absurd (false≢true kept)
goes_back law g (Some f) cs vs kept whole there h =
    let all = law g f whole (there f refl) kept cs vs (record { registers = h.holds; slots = h.slots; links = h.links }) in
    record { frame = f; is = refl; holds = all.registers; slots = all.slots; links = all.links }

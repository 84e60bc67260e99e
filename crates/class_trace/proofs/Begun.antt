-- A call whose run ends, from its entry on in the first layout.
use Rattle.std.proofs.Common.{◌≡◌, ℕ, List, ap, subst, sym, ◌∙◌, length}
use Rattle.bpf_decode.specs.declared.insn.Insn.{Insn}
use Rattle.bpf_decode.specs.Class.{ClassMethod}
use Rattle.bpf_decode.specs.Instruction.{spelling}
use Rattle.bpf_machine.specs.declared.caps.Caps.{Caps}
use Rattle.object_store.specs.Object.{PlainObject}
use Rattle.bpf_machine.specs.State.{State, Outcome, Ended}
use Rattle.bpf_machine.specs.Flat.{EndsAtExit, IsLayout, Layout, entry, run}
use Rattle.bpf_machine.specs.Safe.{RunsAreChains, caps_of, first_layout, outcome_or_none}
use Rattle.flat_machine.specs.declared.machine.Machine.{Machine}
use Rattle.flat_machine.specs.View.{layout_of}
use Rattle.class_trace.specs.Trace.{AreRecords, Ends, IsTraceOf, Seen}

-- what a run is made of, at its entry
pub record IsBegun (m : ClassMethod) (object : PlainObject) (caller : ℕ) (input : List ℕ) (caps : Caps) (lay : Layout) (code : List ℕ)
    (insns : List Insn) (s : State ℕ) : Type 0 where
  pub caps_are : caps ≡ caps_of m
  pub lay_is : lay ≡ first_layout (caps_of m)
  pub code_is : code ≡ spelling m.instructions
  pub insns_are : insns ≡ m.instructions
  pub state_is : s ≡ entry (caps_of m) (first_layout (caps_of m)) object caller input

-- for a machine in the first layout, and what its run begins with
pub is_begun : (m : ClassMethod) (object : PlainObject) (caller : ℕ) (input : List ℕ) (caps : Caps) (machine entered : Machine) (code : List ℕ) (insns : List Insn) (s : State ℕ) →
    machine.caps ≡ caps → layout_of machine.layout ≡ first_layout caps → caps ≡ caps_of m → entered ≡ machine → code ≡ spelling insns → insns ≡ m.instructions
    → s ≡ entry machine.caps (layout_of machine.layout) object caller input → IsBegun m object caller input entered.caps (layout_of entered.layout) code insns s
is_begun m object caller input caps machine entered code insns s mc ml cm em ci im se =
    let caps_are : machine.caps ≡ caps_of m = mc ∙ cm in
    let lay_is : layout_of machine.layout ≡ first_layout (caps_of m) = ml ∙ ap first_layout cm in record {
      caps_are = ap (λ (x : Machine). x.caps) em ∙ caps_are;
      lay_is = ap (λ (x : Machine). layout_of x.layout) em ∙ lay_is;
      code_is = ci ∙ ap spelling im;
      insns_are = im;
      state_is =
          se ∙ ap (λ (x : Caps). entry x (layout_of machine.layout) object caller input) caps_are
          ∙ ap (λ (x : Layout). entry (caps_of m) x object caller input) lay_is;
    }

-- its layout is one
pub is_laid : (m : ClassMethod) (caps : Caps) (machine : Machine) → machine.caps ≡ caps → layout_of machine.layout ≡ first_layout caps → caps ≡ caps_of m
    → IsLayout (caps_of m) (first_layout (caps_of m))
is_laid m caps machine mc ml cm =
    subst (λ (x : Caps). IsLayout x (first_layout (caps_of m))) (mc ∙ cm) (subst (λ (x : Layout). IsLayout machine.caps x) (ml ∙ ap first_layout cm) machine.apart)

module _ (chains : RunsAreChains) (m : ClassMethod) (object : PlainObject) (caller : ℕ) (input : List ℕ) where
  -- its caps, its layout, its code and its entry
  abbrev c0 : Caps
  c0 = caps_of m

  abbrev l0 : Layout
  l0 = first_layout (caps_of m)

  abbrev b0 : List ℕ
  b0 = spelling m.instructions

  abbrev s0 : State ℕ
  s0 = entry (caps_of m) (first_layout (caps_of m)) object caller input

  run_ends : IsLayout c0 l0 → (e : Ends m object caller input) → run c0 l0 b0 object (length m.instructions) s0 ≡ Ended e.0 e.1
  run_ends laid e = (chains c0 l0 b0 object (length m.instructions) s0 e.0 e.1).1 (e.2, e.3 l0 laid)

  is_trace : (rs : List Seen) → AreRecords c0 l0 b0 (length m.instructions) s0 rs → IsTraceOf m object caller input rs
  is_trace rs r =
      let ended = ((chains c0 l0 b0 object (length m.instructions) s0 r.outcome (length rs)).0 r.ends).1 in
      record {
        steps = r.trace;
        ends = subst (λ (x : Outcome). EndsAtExit c0 l0 b0 object s0 x (length rs)) (sym (ap (outcome_or_none object) r.ends)) ended;
      }

  module _ (caps : Caps) (lay : Layout) (code : List ℕ) (insns : List Insn) (s : State ℕ) (b : IsBegun m object caller input caps lay code insns s) where
    -- the run ends
    pub begun_ends : IsLayout c0 l0 → Ends m object caller input → (outcome : Outcome) × (steps : ℕ) × (run caps lay code s.object (length insns) s ≡ Ended outcome steps)
    begun_ends laid e =
        let E = Ended e.0 e.1 in
        let h = run_ends laid e in
        let h1 = subst (λ (x : State ℕ). run c0 l0 b0 x.object (length m.instructions) x ≡ E) (sym b.state_is) h in
        let h2 = subst (λ (x : List Insn). run c0 l0 b0 s.object (length x) s ≡ E) (sym b.insns_are) h1 in
        let h3 = subst (λ (x : List ℕ). run c0 l0 x s.object (length insns) s ≡ E) (sym b.code_is) h2 in
        let h4 = subst (λ (x : Layout). run c0 x code s.object (length insns) s ≡ E) (sym b.lay_is) h3 in
        (e.0, e.1, subst (λ (x : Caps). run x lay code s.object (length insns) s ≡ E) (sym b.caps_are) h4)

    -- what is seen of it is its trace
    pub begun_trace : (rs : List Seen) → AreRecords caps lay code (length insns) s rs → IsTraceOf m object caller input rs
    begun_trace rs r =
        let r1 = subst (λ (x : Caps). AreRecords x lay code (length insns) s rs) b.caps_are r in
        let r2 = subst (λ (x : Layout). AreRecords c0 x code (length insns) s rs) b.lay_is r1 in
        let r3 = subst (λ (x : List ℕ). AreRecords c0 l0 x (length insns) s rs) b.code_is r2 in
        let r4 = subst (λ (x : List Insn). AreRecords c0 l0 b0 (length x) s rs) b.insns_are r3 in
        is_trace rs (subst (λ (x : State ℕ). AreRecords c0 l0 b0 (length m.instructions) x rs) b.state_is r4)

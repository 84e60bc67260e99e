-- A run of a method with heads that no rule refuses isn't stuck.
use Rattle.std.proofs.Common.{◌≡◌, ◌≢◌, ℕ, zero, suc, ◌+◌, ◌-◌, ◌<◌, ◌≤◌, List, [], Option, Some, None, true, refl, ap, ◌∙◌, sym, subst, arith, length, ⊎_elim}
use Rattle.std.specs.Prelude.{is_some, nat_le}
use Rattle.std.proofs.lemmas.Bool.{cases_lt, cond_both, false≢true}
use Rattle.std.proofs.lemmas.Option.{slice_get_within}
use Rattle.bpf_decode.specs.declared.insn.Insn.{Insn}
use Rattle.bpf_decode.specs.declared.insn.Insn.TheVariants.{Alu, Neg, Mov, MovSigned, End, LoadWide, Load, LoadSigned, Store, Jump, JumpLong, Branch, Call, CallLocal, Exit}
use Rattle.bpf_decode.specs.Instruction.{AllFit, slots}
use Rattle.bpf_decode.specs.declared.rule_set.RuleSet.TheVariants.{Three}
use Rattle.object_store.specs.Object.{PlainObject}
use Rattle.bpf_machine.specs.declared.caps.Caps.{Caps}
use Rattle.bpf_machine.specs.State.{◌>>=◌, AreCapacities}
use Rattle.bpf_machine.specs.Safe.{caps_of}
use Rattle.bpf_machine.specs.Slots.{slot_values}
use Rattle.bpf_machine.specs.Typed.{Typed, fetch, typed_exit_of, typed_host_entry}
use Rattle.abstract_regs.specs.Frame.{PlainFrame}
use Rattle.abstract_regs.specs.Moves.{NamesBelow}
use Rattle.abstract_regs.specs.Laws.{FlowsKeepLinks, JoinsKeepLinks}
use Rattle.verifier.specs.Frame.{entry, IsWithin, Holds}
use Rattle.verifier.specs.Verdict.{frame_at}
use Rattle.verifier.proofs.Accepts.{first_begins}
use Rattle.verifier.proofs.Acts.{exits}
use Rattle.verifier.proofs.Flows.{Meets, Both}
use Rattle.verifier.proofs.Memory.{Laws}
use Rattle.verifier.proofs.Passed.{passed}
use Rattle.verifier.proofs.Runs.{fit_at, inner, none_named, entry_is_held}
use Rattle.loop_heads.specs.Loops.{PlainHead, head_at}
use Rattle.loop_machine.specs.Typed.{weight_of, weight_if, loop_act, LoopEnding, Ended, Spent, Stuck, Unfinished, one_later, goes, ends_at, pays, loop_run}
use Rattle.loop_frames.specs.Pairs.{pair_of}
use Rattle.loop_frames.specs.Laws.{HeadsKeep, IsWhole, GreaterKeeps, PairsStep}
use Rattle.loop_tables.specs.Rules.{rule_below}
use Rattle.loop_tables.specs.Table.{edges_at, with_head, loop_table}
use Rattle.loop_tables.specs.Verdict.{back_rule, loop_verdict}
use Rattle.loop_tables.specs.Safety.{AreCodeFrames, AcceptedIsNeverStuck}
use Rattle.loop_tables.proofs.Tables.{whole_at}
use Rattle.loop_tables.proofs.Verdicts.{neither_rule, passes, kept_edge, back_kept}
use Rattle.loop_tables.proofs.Shapes.{shape_and_frame, plain_rule}
use Rattle.loop_tables.proofs.Frames.{Fitting, TableLaws, fitting_at, edges_fit, edge_begins}
use Rattle.loop_tables.proofs.Flows.{head_meets, arrives, goes_back}
use Rattle.loop_tables.proofs.Steps.{FlowsKeep, goes_on}

-- what is proved of heads, of greater frames and of pairs, and of the number of links
pub record LoopLaws : Type 0 where
  pub heads : HeadsKeep
  pub greater : GreaterKeeps
  pub pairs : PairsStep
  pub links : FlowsKeepLinks
  pub joined_links : JoinsKeepLinks

-- ---- endings

pays_on : (weight left : ℕ) (e : LoopEnding) → e ≢ Stuck → pays weight left e ≢ Stuck
pays_on weight left e h = cond_both (nat_le weight left) e Spent (λ x. x ≢ Stuck) (λ _. h) (λ _ x. cc)

later_on : (e : LoopEnding) → e ≢ Stuck → one_later e ≢ Stuck
later_on (Ended outcome steps last code) h x = cc
later_on Spent h x = cc
later_on Stuck h x = h x
later_on Unfinished h x = cc

there : {A : Type 0} (o : Option A) → is_some o ≡ true → (x : A) × (o ≡ Some x)
there None h = absurd (false≢true h)
there (Some x) h = (x, refl)

-- the laws by which every frame of the table is whole
table_laws : Laws → LoopLaws → TableLaws
table_laws laws loops = record {
  slots = laws.along;
  joined_slots = laws.joined;
  links = loops.links;
  joined_links = loops.joined_links;
  names = laws.names;
  joined_names = laws.joined_names;
  heads = loops.heads;
}

module _ (laws : Laws) (loops : LoopLaws) (keeps : FlowsKeep) (caps : Caps) (heads : List PlainHead) (is : List Insn) (fit : AllFit is) (first : (n : ℕ) → NamesBelow n (entry Three caps)) (code_frames : AreCodeFrames (loop_table caps heads (slots is))) (clear : loop_verdict caps heads (slots is) ≡ None) (before : PlainObject) where
  -- a state at an instruction, of which the frame there is true
  record At (s : Typed) : Type 0 where
    insn : Insn
    there : fetch (slots is) s.slot ≡ Some insn
    frame : PlainFrame
    is_frame : frame_at (loop_table caps heads (slots is)) s.slot ≡ Some frame
    holds : Holds 64 frame s

  fitting : (p : ℕ) (g : PlainFrame) → p < length (slots is) → frame_at (loop_table caps heads (slots is)) p ≡ Some g → Fitting p g
  fitting p g inside e = fitting_at (table_laws laws loops) caps first heads (slots is) p inside g e

  inside_at : (p : ℕ) (i : Insn) → fetch (slots is) p ≡ Some i → p < length (slots is)
  inside_at p i e = slice_get_within (slots is) p (Some i) (inner _ _ e)

  -- a frame there that is true of the state
  at_of : (t : Typed) (i : Insn) → fetch (slots is) t.slot ≡ Some i → IsWithin 64 t → Meets (frame_at (loop_table caps heads (slots is)) t.slot) t.regs (slot_values 64 t.memory.stack) → At t
  at_of t i begins within meets =
      let fits = fitting t.slot meets.frame (inside_at t.slot i begins) meets.is in
      let whole = fits.whole in
      record { insn = i; there = begins; frame = meets.frame; is_frame = meets.is; holds = record { regs = meets.holds; long = whole.slots; slots = meets.slots; links = meets.links; within = within } }

  -- neither rule refuses it
  clear_at : (s : Typed) (a : At s) → (rule_below caps heads (slots is) s.slot a.insn (Some a.frame) ≡ None) × (back_rule caps (loop_table caps heads (slots is)) s.slot a.insn (Some a.frame) ≡ None)
  clear_at s a =
      let both = neither_rule (rule_below caps heads (slots is) s.slot a.insn (frame_at (loop_table caps heads (slots is)) s.slot)) (back_rule caps (loop_table caps heads (slots is)) s.slot a.insn (frame_at (loop_table caps heads (slots is)) s.slot)) (passes caps heads (slots is) s.slot a.insn clear a.there) in (
        sym (ap (rule_below caps heads (slots is) s.slot a.insn) a.is_frame) ∙ both.0,
        sym (ap (back_rule caps (loop_table caps heads (slots is)) s.slot a.insn) a.is_frame) ∙ both.1,
      )

  record Next (s : Typed) (a : At s) : Type 0 where
    to : Typed
    act : loop_act caps a.insn s ≡ Some to
    next : At to

  next_of : (s : Typed) (a : At s) → a.insn ≢ Exit → Next s a
  next_of s a not_exit =
      let rules = clear_at s a in
      let inside = inside_at s.slot a.insn a.there in
      let fits = fitting s.slot a.frame inside a.is_frame in
      let is_code = code_frames s.slot a.frame a.is_frame in
      let t = goes_on laws keeps loops.pairs caps heads (slots is) a.frame s a.holds is_code.fits is_code.eleven fits.names a.insn (fit_at is s.slot a.insn fit a.there) rules.0 not_exit in
      let reached = t.reaches in
      let to = there (fetch (slots is) t.to.slot) (edge_begins caps heads (slots is) a.insn s.slot a.frame rules.0 t.to.slot reached.frame reached.there) in
      let both : Both reached.frame t.to.regs (slot_values 64 t.to.memory.stack) = record { holds = reached.holds; slots = reached.slots; links = reached.links } in
      let flown = edges_fit (table_laws laws loops) caps first a.insn s.slot a.frame (pair_of caps a.frame a.insn) refl fits t.to.slot reached.frame reached.there (s.slot + 1) (omega arith) in
      let whole_there = λ (f : PlainFrame) (is_f : frame_at (loop_table caps heads (slots is)) t.to.slot ≡ Some f). whole_of t.to.slot f (fitting t.to.slot f (inside_at t.to.slot to.0 to.1) is_f) in
      record {
        to = t.to;
        act = t.act;
        next = at_of t.to to.0 to.1 t.within (⊎_elim
            (λ (forward : s.slot < t.to.slot). arrives laws.joins loops.heads caps heads (slots is) s.slot t.to.slot a.insn a.frame reached.frame t.to.regs (slot_values 64 t.to.memory.stack) a.there a.is_frame rules.0 both reached.there forward (inside_at t.to.slot to.0 to.1))
            (λ (back : t.to.slot ≤ s.slot). goes_back loops.greater reached.frame (frame_at (loop_table caps heads (slots is)) t.to.slot) t.to.regs (slot_values 64 t.to.memory.stack)
            (kept_edge (loop_table caps heads (slots is)) s.slot t.to.slot reached.frame (edges_at caps a.insn s.slot a.frame) (back_kept caps (loop_table caps heads (slots is)) s.slot a.insn a.frame rules.1) reached.there back)
            (whole_of (s.slot + 1) reached.frame flown) whole_there both)
            (cases_lt s.slot t.to.slot));
      }
    where
      whole_of : (n : ℕ) (g : PlainFrame) → Fitting n g → IsWhole g
      whole_of n g h = h.whole

  abbrev Later : ℕ → Type 0
  Later n = (left : ℕ) (t : Typed) → At t → loop_run caps (slots is) before n left t ≢ Stuck

  -- what a run comes to, by what begins there
  abbrev run_of : ℕ → ℕ → Typed → Option Insn → LoopEnding
  run_of n left s o = pays (weight_if o) left (ends_at before s (o >>= λ i. typed_exit_of i s) (goes (o >>= λ i. loop_act caps i s) (loop_run caps (slots is) before n (left - weight_if o))))

  on : (n left : ℕ) (s : Typed) (a : At s) → Later n → a.insn ≢ Exit → typed_exit_of a.insn s ≡ None → run_of n left s (Some a.insn) ≢ Stuck
  on n left s a later not_exit no_code =
      let t = next_of s a not_exit in
      let more = loop_run caps (slots is) before n (left - weight_of a.insn) in
      pays_on (weight_of a.insn) left (ends_at before s (typed_exit_of a.insn s) (goes (loop_act caps a.insn s) more))
      (subst (λ e. e ≢ Stuck) (sym (ap (λ c. ends_at before s c (goes (loop_act caps a.insn s) more)) no_code ∙ ap (λ o. goes o more) t.act)) (later_on (more t.to) (later (left - weight_of a.insn) t.to t.next)))

  out : (n left : ℕ) (s : Typed) (a : At s) → a.insn ≡ Exit → run_of n left s (Some a.insn) ≢ Stuck
  out n left s a exit =
      let rules = clear_at s a in
      let both = shape_and_frame caps heads (slots is) s.slot Exit a.frame (subst (λ i. rule_below caps heads (slots is) s.slot i (Some a.frame) ≡ None) exit rules.0) in
      let ok = passed Three caps (slots is) s.slot Exit a.frame (plain_rule caps (slots is) s.slot Exit a.frame both.0 both.1) in
      let c = exits Three caps (slots is) s.slot a.frame s a.holds ok in
      let more = goes (loop_act caps a.insn s) (loop_run caps (slots is) before n (left - weight_of a.insn)) in
      pays_on (weight_of a.insn) left (ends_at before s (typed_exit_of a.insn s) more)
      (subst (λ e. e ≢ Stuck) (sym (ap (λ c. ends_at before s c more) (ap (λ i. typed_exit_of i s) exit ∙ c.1))) (λ x. cc))

  here : (n left : ℕ) (s : Typed) (a : At s) (i : Insn) → a.insn ≡ i → Later n → run_of n left s (Some a.insn) ≢ Stuck
  here n left s a Exit e later = out n left s a e
  here n left s a (Alu bits operation dst source) e later = on n left s a later (λ x. cc) (ap (λ i. typed_exit_of i s) e)
  here n left s a (Neg bits dst) e later = on n left s a later (λ x. cc) (ap (λ i. typed_exit_of i s) e)
  here n left s a (Mov bits dst source) e later = on n left s a later (λ x. cc) (ap (λ i. typed_exit_of i s) e)
  here n left s a (MovSigned extension dst src) e later = on n left s a later (λ x. cc) (ap (λ i. typed_exit_of i s) e)
  here n left s a (End order width dst) e later = on n left s a later (λ x. cc) (ap (λ i. typed_exit_of i s) e)
  here n left s a (LoadWide dst value) e later = on n left s a later (λ x. cc) (ap (λ i. typed_exit_of i s) e)
  here n left s a (Load width dst from offset) e later = on n left s a later (λ x. cc) (ap (λ i. typed_exit_of i s) e)
  here n left s a (LoadSigned width dst from offset) e later = on n left s a later (λ x. cc) (ap (λ i. typed_exit_of i s) e)
  here n left s a (Store width to offset source) e later = on n left s a later (λ x. cc) (ap (λ i. typed_exit_of i s) e)
  here n left s a (Jump offset) e later = on n left s a later (λ x. cc) (ap (λ i. typed_exit_of i s) e)
  here n left s a (JumpLong distance) e later = on n left s a later (λ x. cc) (ap (λ i. typed_exit_of i s) e)
  here n left s a (Branch bits comparison dst source offset) e later = on n left s a later (λ x. cc) (ap (λ i. typed_exit_of i s) e)
  here n left s a (Call helper) e later = on n left s a later (λ x. cc) (ap (λ i. typed_exit_of i s) e)
  here n left s a (CallLocal distance) e later = on n left s a later (λ x. cc) (ap (λ i. typed_exit_of i s) e)

  never_stuck : (n : ℕ) → Later n
  never_stuck zero left s a x = cc
  never_stuck (suc n) left s a x = subst (λ o. run_of n left s o ≢ Stuck) (sym a.there) (here n left s a a.insn refl (never_stuck n)) x

  -- as the method begins, the frame at slot 0 is true of the state, whether that is a head or not
  pub begins_well : (s : Typed) (i : Insn) → s.slot ≡ 0 → fetch (slots is) 0 ≡ Some i → Holds 64 (entry Three caps) s → (n left : ℕ) → loop_run caps (slots is) before n left s ≢ Stuck
  begins_well s i zero_slot at h n left =
      let begins : fetch (slots is) s.slot ≡ Some i = ap (fetch (slots is)) zero_slot ∙ at in
      let meets = head_meets loops.heads (head_at heads 0) (Some (entry Three caps)) s.regs (slot_values 64 s.memory.stack) (record { frame = entry Three caps; is = refl; holds = h.regs; slots = h.slots; links = h.links }) in
      let is_first : frame_at (loop_table caps heads (slots is)) s.slot ≡ with_head (head_at heads 0) (Some (entry Three caps)) = ap (frame_at (loop_table caps heads (slots is))) zero_slot ∙ whole_at caps heads (slots is) 0 (inside_at 0 i at) in
      never_stuck n left s (at_of s i begins h.within (subst (λ o. Meets o s.regs (slot_values 64 s.memory.stack)) (sym is_first) meets))

-- the theorem
pub accepted : Laws → LoopLaws → FlowsKeep → AcceptedIsNeverStuck
accepted laws loops keeps m ok l code_frames clear limits object caller input call n =
    let caps = caps_of m in
    let sizes : AreCapacities (caps_of m) = record { input = ok.in_cap; output = ok.out_cap } in
    let begun = first_begins m.instructions ok.some_slot in
    let s : Typed = record (typed_host_entry limits (caps_of m) object caller input) { edits = Some [] } in
    let h = entry_is_held laws Three (caps_of m) sizes limits call.allowed object caller input call.formed call.client call.short call.bytes in
    let within = h.within in
    let memory = within.memory in
    begins_well laws loops keeps (caps_of m) l.heads m.instructions ok.fit (none_named laws Three (caps_of m) sizes) code_frames clear object s begun.0 refl begun.1
    (record {
      regs = h.regs;
      long = h.long;
      slots = h.slots;
      links = h.links;
      within = record { memory = memory; object = within.object; client = within.client; limits = within.limits };
    }) n l.budget

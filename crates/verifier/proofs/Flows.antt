-- A flow from a slot that no rule refuses is part of the frame at the slot to which it goes.
use Rattle.std.proofs.Common.{◌≡◌, ℕ, ℤ, pos, negsuc, zero, suc, ◌+◌, ◌^◌, ◌<◌, List, [], ◌∷◌, ◌⊎◌, Option, Some, None, true, refl, inl, inr, ap, ◌∙◌, sym, subst, arith, length, ⊎_elim, false}
use Rattle.std.specs.Prelude.{◌==◌, ◌++◌, is_some}
use Rattle.std.specs.Option.{option_map}
use Rattle.std.proofs.Math.Nat.{mod-eq_of_lt}
use Rattle.std.proofs.lemmas.Bool.{cases_lt, eq-eqb, cond-true, cond_both, false≢true}
use Rattle.bpf_decode.specs.declared.insn.Insn.{Insn}
use Rattle.bpf_decode.specs.declared.insn.Insn.TheVariants.{Alu, Neg, Mov, MovSigned, End, LoadWide, Load, LoadSigned, Store, Jump, JumpLong, Branch, Call, CallLocal, Exit}
use Rattle.bpf_decode.specs.Instruction.{Fits, byte_count}
use Rattle.bpf_decode.specs.Values.{extended}
use Rattle.bpf_decode.specs.declared.rule_set.RuleSet.{RuleSet}
use Rattle.bpf_decode.specs.declared.value.Value.{Value}
use Rattle.bpf_machine.specs.declared.caps.Caps.{Caps}
use Rattle.bpf_machine.specs.Typed.{fetch}
use Rattle.verifier.specs.declared.rule.Rule.{Rule}
use Rattle.abstract_regs.specs.Frame.{PlainFrame, kind_at, with_kind, join, after_call, after_store, operand_kind, HoldsEach}
use Rattle.abstract_regs.specs.Links.{relinked}
use Rattle.abstract_regs.specs.Flow.{target, edge_to, computed, along_edge, edges_of, flow}
use Rattle.abstract_num.specs.Plain.{Plain, constant}
use Rattle.abstract_regs.specs.Kind.{PlainKind, Num}
use Rattle.abstract_regs.specs.Moves.{Among, HoldsLinks}
use Rattle.abstract_regs.specs.Laws.{JoinsHold}
use Rattle.verifier.specs.Frame.{precision_of}
use Rattle.verifier.specs.Rules.{begins_at, rule_at, room_of}
use Rattle.verifier.specs.Answers.{answer_of}
use Rattle.verifier.specs.Verdict.{Table, frame_at, joined, met, along, unless_refused, flow_from, incoming, whole_table}
use Rattle.verifier.proofs.Passed.{Passed}
use Rattle.verifier.proofs.Holding.{not_false}
use Rattle.std.specs.Prelude.{FitsSigned}
use Rattle.std.specs.Int.{w16, is_negative}
use Rattle.std.specs.Int.Signed.{mag}
use Rattle.verifier.proofs.Tables.{whole_at}

-- a frame that is there and is true of the registers and of the slots
pub record Meets (inflow : Option PlainFrame) (cs vs : List (Option Value)) : Type 0 where
  pub frame : PlainFrame
  pub is : inflow ≡ Some frame
  pub holds : HoldsEach frame.registers cs
  pub slots : HoldsEach frame.slots vs
  pub links : HoldsLinks frame cs vs

-- a frame is true of both
pub record Both (f : PlainFrame) (cs vs : List (Option Value)) : Type 0 where
  pub holds : HoldsEach f.registers cs
  pub slots : HoldsEach f.slots vs
  pub links : HoldsLinks f cs vs

module _ (law : JoinsHold) where
  pub meets_joined : (inflow : Option PlainFrame) (g : PlainFrame) (cs vs : List (Option Value)) → Both g cs vs → Both (joined inflow g) cs vs
  meets_joined None g cs vs h = h
  meets_joined (Some f) g cs vs h = let both = law f g in record { holds = both.right cs h.holds; slots = both.slots_right vs h.slots; links = both.links_right cs vs h.links }

  pub meets_kept : (inflow : Option PlainFrame) (g : PlainFrame) (cs vs : List (Option Value)) → Meets inflow cs vs → Meets (Some (joined inflow g)) cs vs
  meets_kept inflow g cs vs h =
      let both = law h.frame g in
      record { frame = join h.frame g; is = ap (λ o. Some (joined o g)) h.is; holds = both.left cs h.holds; slots = both.slots_left vs h.slots; links = both.links_left cs vs h.links }

  -- a flow along an edge is joined in
  pub one_meets : (a q : ℕ) (g : PlainFrame) (inflow : Option PlainFrame) (cs vs : List (Option Value)) → Both g cs vs → q ≡ a → Meets (met a g q inflow) cs vs
  one_meets a q g inflow cs vs h e =
      let all = meets_joined inflow g cs vs h in
      record {
        frame = joined inflow g;
        is = cond-true (a == q) (Some (joined inflow g)) inflow (eq-eqb a q (sym e));
        holds = all.holds;
        slots = all.slots;
        links = all.links;
      }

  -- and one along another edge leaves what is there
  pub one_keeps : (a q : ℕ) (g : PlainFrame) (inflow : Option PlainFrame) (cs vs : List (Option Value)) → Meets inflow cs vs → Meets (met a g q inflow) cs vs
  one_keeps a q g inflow cs vs h = cond_both (a == q) (Some (joined inflow g)) inflow (λ o. Meets o cs vs) (λ _. meets_kept inflow g cs vs h) (λ _. h)

  pub along_keeps : (edges : List (ℕ × PlainFrame)) (q : ℕ) (inflow : Option PlainFrame) (cs vs : List (Option Value)) → Meets inflow cs vs → Meets (along edges q inflow) cs vs
  along_keeps [] q inflow cs vs h = h
  along_keeps (edge ∷ edges) q inflow cs vs h = along_keeps edges q (met edge.0 edge.1 q inflow) cs vs (one_keeps edge.0 q edge.1 inflow cs vs h)

  pub along_meets : (edges : List (ℕ × PlainFrame)) (q : ℕ) (g : PlainFrame) (inflow : Option PlainFrame) (cs vs : List (Option Value)) → Both g cs vs → Among q g edges → Meets (along edges q inflow) cs vs
  along_meets [] q g inflow cs vs h e = absurd e
  along_meets (edge ∷ edges) q g inflow cs vs h e = ⊎_elim
      (λ (here : (q ≡ edge.0) × (g ≡ edge.1)). along_keeps edges q (met edge.0 edge.1 q inflow) cs vs (one_meets edge.0 q edge.1 inflow cs vs (subst (λ (k : PlainFrame). Both k cs vs) here.1 h) here.0))
      (λ (later : Among q g edges). along_meets edges q g (met edge.0 edge.1 q inflow) cs vs h later) e

module _ (law : JoinsHold) (rules : RuleSet) (caps : Caps) (code : List (Option Insn)) where
  unless_keeps : (r : Option Rule) (flown inflow : Option PlainFrame) (cs vs : List (Option Value)) → Meets flown cs vs → Meets inflow cs vs → Meets (unless_refused r flown inflow) cs vs
  unless_keeps None flown inflow cs vs a b = a
  unless_keeps (Some rule) flown inflow cs vs a b = b

  flow_keeps : (p q : ℕ) (o : Option Insn) (frame inflow : Option PlainFrame) (cs vs : List (Option Value)) → Meets inflow cs vs → Meets (flow_from rules caps code p q o frame inflow) cs vs
  flow_keeps p q None frame inflow cs vs h = h
  flow_keeps p q (Some i) None inflow cs vs h = h
  flow_keeps p q (Some i) (Some f) inflow cs vs h = unless_keeps (rule_at rules caps code p i (Some f)) (along (flow (precision_of rules) (room_of i) (answer_of rules f i) i p f) q inflow) inflow cs vs (along_keeps law (flow (precision_of rules) (room_of i) (answer_of rules f i) i p f) q inflow cs vs h) h

  -- the flow from slot p is in what the slots below n bring to q, where p is below n
  flowed : (table : Table) (p q : ℕ) (i : Insn) (f g : PlainFrame) (cs vs : List (Option Value)) → fetch code p ≡ Some i → frame_at table p ≡ Some f → rule_at rules caps code p i (Some f) ≡ None → Both g cs vs → Among q g (flow (precision_of rules) (room_of i) (answer_of rules f i) i p f) → (n : ℕ) → p < n → Meets (incoming rules caps code table q n) cs vs
  flowed table p q i f g cs vs at is none h to zero lt = absurd (omega arith)
  flowed table p q i f g cs vs at is none h to (suc n) lt =
      ⊎_elim (λ less. flow_keeps n q (fetch code n) (frame_at table n) (incoming rules caps code table q n) cs vs (flowed table p q i f g cs vs at is none h to n less))
      (λ le. let same : p ≡ n = omega arith in subst (λ n. Meets (incoming rules caps code table q (suc n)) cs vs) same here) (cases_lt p n)
    where
      here : Meets (incoming rules caps code table q (suc p)) cs vs
      here =
          let inflow = incoming rules caps code table q p in
          subst (λ o. Meets o cs vs) (sym (ap (λ o. flow_from rules caps code p q o (frame_at table p) inflow) at
          ∙ ap (λ f. flow_from rules caps code p q (Some i) f inflow) is
          ∙ ap (λ r. unless_refused r (along (flow (precision_of rules) (room_of i) (answer_of rules f i) i p f) q inflow) inflow) none)) (along_meets law (flow (precision_of rules) (room_of i) (answer_of rules f i) i p f) q g inflow cs vs h to)

  -- so the frame at the slot is true of what the flow is true of
  pub arrives : (p q : ℕ) (i : Insn) (f g : PlainFrame) (cs vs : List (Option Value)) → fetch code p ≡ Some i → frame_at (whole_table rules caps code) p ≡ Some f → rule_at rules caps code p i (Some f) ≡ None → Both g cs vs → Among q g (flow (precision_of rules) (room_of i) (answer_of rules f i) i p f) → p < q → q < length code → Meets (frame_at (whole_table rules caps code) q) cs vs
  arrives p q i f g cs vs at is none h to lt inside =
      subst (λ o. Meets o cs vs) (sym (whole_at rules caps code q inside)) (flowed (whole_table rules caps code) p q i f g cs vs at is none h to q lt)

module _ (rules : RuleSet) (caps : Caps) (code : List (Option Insn)) where
  -- an edge goes forward, to an instruction
  pub record Edge (p q : ℕ) : Type 0 where
    pub forward : p < q
    pub to : Insn
    pub begins : fetch code q ≡ Some to

  there : {A : Type 0} (o : Option A) → is_some o ≡ true → (x : A) × (o ≡ Some x)
  there None h = absurd (false≢true h)
  there (Some x) h = (x, refl)

  edge_at : (p q : ℕ) → p < q → begins_at code q ≡ true → Edge p q
  edge_at p q lt t = let b = there (fetch code q) t in record { forward = lt; to = b.0; begins = b.1 }

  forward : (p : ℕ) (distance : ℤ) → p < 2 ^ 62 → mag distance < 2 ^ 31 → is_negative distance ≡ false → begins_at code (target p distance) ≡ true → Edge p (target p distance)
  forward p (pos n) small near ok there =
      let whole : p + 1 + n < 2 ^ 64 = omega arith in
      let same : target p (pos n) ≡ p + 1 + n = mod-eq_of_lt whole in
      edge_at p (target p (pos n)) (omega arith) there
  forward p (negsuc n) small near ok there = absurd (false≢true (sym ok))

  near16 : (z : ℤ) → FitsSigned w16 z → mag z < 2 ^ 31
  near16 z h = let s = h.sfits in omega arith

  -- an edge that may be dead goes to its slot
  only : (q a : ℕ) (g : PlainFrame) (o : Option PlainFrame) → Among q g (edge_to a o) → q ≡ a
  only q a g None e = absurd e
  only q a g (Some h) e = ⊎_elim (λ (here : (q ≡ a) × (g ≡ h)). here.0) (λ (x : ⊥). absurd x) e

  next : (p q a : ℕ) (g : PlainFrame) (o : Option PlainFrame) → p < a → begins_at code a ≡ true → Among q g (edge_to a o) → Edge p q
  next p q a g o lt begins e = subst (Edge p) (sym (only q a g o e)) (edge_at p a lt begins)

  next_computed : (p q a : ℕ) (g f : PlainFrame) (d : ℕ) (x : Option PlainKind) → p < a → begins_at code a ≡ true → Among q g (computed a f d x) → Edge p q
  next_computed p q a g f d x lt begins e = next p q a g (option_map (with_kind f d) x) lt begins e

  jump : (p q : ℕ) (distance : ℤ) (g h : PlainFrame) → p < 2 ^ 62 → mag distance < 2 ^ 31 → is_negative distance ≡ false → begins_at code (target p distance) ≡ true → Among q g ((target p distance, h) ∷ []) → Edge p q
  jump p q distance g h small near ok there e = subst (Edge p) (sym (only q (target p distance) g (Some h) e)) (forward p distance small near ok there)

  either : (q a b : ℕ) (g : PlainFrame) (x y : Option PlainFrame) → Among q g (edge_to a x ++ edge_to b y) → (q ≡ a) ⊎ (q ≡ b)
  either q a b g None y e = inr (only q b g y e)
  either q a b g (Some h) y e = ⊎_elim (λ (here : (q ≡ a) × (g ≡ h)). inl here.0) (λ (later : Among q g (edge_to b y)). inr (only q b g y later)) e

  -- of an instruction whose links are h's
  edge_of : (p q : ℕ) (answer : Plain) (i : Insn) (f h g : PlainFrame) → p < 2 ^ 62 → Fits i → Passed rules caps code p i f → Among q g (edges_of (precision_of rules) (room_of i) answer i p h) → Edge p q
  edge_of p q answer (Alu bits operation d x) f h g small fit ok e = next_computed p q (p + 1) g h d _ (omega arith) (not_false _ ok.falls) e
  edge_of p q answer (Neg bits d) f h g small fit ok e = next_computed p q (p + 1) g h d _ (omega arith) (not_false _ ok.falls) e
  edge_of p q answer (Mov bits d x) f h g small fit ok e = next_computed p q (p + 1) g h d _ (omega arith) (not_false _ ok.falls) e
  edge_of p q answer (MovSigned extension d src) f h g small fit ok e = next_computed p q (p + 1) g h d _ (omega arith) (not_false _ ok.falls) e
  edge_of p q answer (End order width d) f h g small fit ok e = next_computed p q (p + 1) g h d _ (omega arith) (not_false _ ok.falls) e
  edge_of p q answer (LoadWide d value) f h g small fit ok e = next_computed p q (p + 2) g h d (Some (Num (constant value))) (omega arith) (not_false _ ok.falls) e
  edge_of p q answer (Load width d from offset) f h g small fit ok e = next_computed p q (p + 1) g h d _ (omega arith) (not_false _ ok.falls) e
  edge_of p q answer (LoadSigned width d from offset) f h g small fit ok e = next_computed p q (p + 1) g h d _ (omega arith) (not_false _ ok.falls) e
  edge_of p q answer (Store width to offset x) f h g small fit ok e = next p q (p + 1) g (Some (after_store (precision_of rules) h (kind_at h to) (extended offset) (byte_count width) (operand_kind h x))) (omega arith) (not_false _ ok.falls) e
  edge_of p q answer (Call helper) f h g small fit ok e = next p q (p + 1) g (Some (after_call (room_of (Call helper)) answer h)) (omega arith) (not_false _ ok.falls) e
  edge_of p q answer (Jump offset) f h g small fit ok e = jump p q offset g _ small (near16 offset fit) ok.backward (not_false _ ok.target) e
  edge_of p q answer (JumpLong distance) f h g small fit ok e = jump p q distance g _ small fit.sfits ok.backward (not_false _ ok.target) e
  edge_of p q answer (Branch bits comparison d x offset) f h g small fit ok e = ⊎_elim
      (λ (taken : q ≡ target p offset). subst (Edge p) (sym taken) (forward p offset small (near16 offset fit.1) ok.backward (not_false _ ok.target)))
      (λ (fallen : q ≡ p + 1). subst (Edge p) (sym fallen) (edge_at p (p + 1) (omega arith) (not_false _ ok.falls)))
      (either q (target p offset) (p + 1) g (along_edge (precision_of rules) bits comparison true d x h) (along_edge (precision_of rules) bits comparison false d x h) e)
  edge_of p q answer (CallLocal distance) f h g small fit ok e = absurd e
  edge_of p q answer Exit f h g small fit ok e = absurd e

  pub edge : (p q : ℕ) (answer : Plain) (i : Insn) (f g : PlainFrame) → p < 2 ^ 62 → Fits i → Passed rules caps code p i f → Among q g (flow (precision_of rules) (room_of i) answer i p f) → Edge p q
  edge p q answer i f g small fit ok e = edge_of p q answer i f (relinked (precision_of rules) (room_of i) i p f) g small fit ok e

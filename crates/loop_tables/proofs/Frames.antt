-- What every frame of the table of a method with heads has: eleven registers, 64 slots, as many links, which have no names of
-- its slot or of later ones, and an instruction that begins there.
use Rattle.std.proofs.Common.{◌≡◌, ℕ, zero, suc, ◌<◌, ◌≤◌, List, [], ◌∷◌, Option, Some, None, refl, inl, inr, ap, ◌∙◌, sym, subst, arith, length, ⊎_elim}
use Rattle.std.specs.Prelude.{◌==◌, slice_get, is_some, true}
use Rattle.std.proofs.lemmas.Bool.{cases_lt, cond_both, eqb-true, false≢true}
use Rattle.std.proofs.lemmas.List.{length-replicate}
use Rattle.std.proofs.lemmas.Option.{none-some, same_Some, slice_get_within}
use Rattle.bpf_decode.specs.declared.insn.Insn.{Insn}
use Rattle.bpf_decode.specs.declared.rule_set.RuleSet.TheVariants.{Three}
use Rattle.bpf_machine.specs.declared.caps.Caps.{Caps}
use Rattle.bpf_machine.specs.Typed.{fetch}
use Rattle.abstract_num.specs.declared.precision.Precision.TheVariants.{Halves}
use Rattle.abstract_num.specs.Plain.{constant}
use Rattle.abstract_regs.specs.Kind.{PlainKind, Num}
use Rattle.abstract_regs.specs.Frame.{PlainFrame, with_slots, or_unset, kind_at}
use Rattle.abstract_regs.specs.Moves.{Among, NamesBelow, KindFits, EachFits}
use Rattle.abstract_regs.specs.Laws.{FlowsKeepSlots, JoinsKeepSlots, FlowsKeepLinks, JoinsKeepLinks, FlowsKeepNames, JoinsKeepNames}
use Rattle.abstract_regs.specs.Link.{no_link}
use Rattle.verifier.specs.declared.rule.Rule.{Rule}
use Rattle.verifier.specs.Frame.{entry}
use Rattle.verifier.specs.Rules.{begins_at, room_of}
use Rattle.verifier.specs.Answers.{answer_of}
use Rattle.verifier.specs.Verdict.{Table, frame_at, joined, met, along, unless_refused, start}
use Rattle.loop_heads.specs.declared.place.HeadPlace.{HeadPlace}
use Rattle.loop_heads.specs.Loops.{PlainHead, head_at}
use Rattle.loop_frames.specs.Heads.{head_frame}
use Rattle.loop_frames.specs.Pairs.{PointerPair, pair_of, edges_by}
use Rattle.loop_frames.specs.Laws.{HeadsKeep, IsWhole}
use Rattle.loop_tables.specs.Rules.{rule_below}
use Rattle.loop_tables.specs.Table.{edges_at, flow_below, incoming_below, with_head, loop_table}
use Rattle.loop_tables.specs.Safety.{AreCodeFrames}
use Rattle.loop_tables.proofs.Tables.{length_frames, whole_at}
use Rattle.verifier.proofs.Runs.{inner}
use Rattle.loop_tables.proofs.Pairs.{pair_kept, pair_begins}
use Rattle.loop_tables.proofs.Registers.{flow_eleven}
use Rattle.loop_tables.proofs.Shapes.{Shaped, shaped, shape_and_frame, flow_begins}

-- a frame before slot n is whole, and its links have names below n
pub record Fitting (n : ℕ) (f : PlainFrame) : Type 0 where
  pub whole : IsWhole f
  pub names : NamesBelow n f

-- what is proved of lengths and of names, by instructions, joins and heads
pub record TableLaws : Type 0 where
  pub slots : FlowsKeepSlots
  pub joined_slots : JoinsKeepSlots
  pub links : FlowsKeepLinks
  pub joined_links : JoinsKeepLinks
  pub names : FlowsKeepNames
  pub joined_names : JoinsKeepNames
  pub heads : HeadsKeep

abbrev AreFitting : ℕ → Option PlainFrame → Type 0
AreFitting n o = (g : PlainFrame) → o ≡ Some g → Fitting n g

-- a name below p is below n
above : (p n : ℕ) (f : PlainFrame) → p < n → NamesBelow p f → NamesBelow n f
above p n f lt h place = ⊎_elim (λ e. inl e) (λ less. inr (omega (arith, lt, less))) (h place)

module _ (laws : TableLaws) (caps : Caps) (first : (n : ℕ) → NamesBelow n (entry Three caps)) where
  pub edges_fit : (i : Insn) (p : ℕ) (f : PlainFrame) (o : Option PointerPair) → pair_of caps f i ≡ o → Fitting p f → (q : ℕ) (g : PlainFrame) → Among q g (edges_by Halves (room_of i) (answer_of Three f i) i p f o) → (n : ℕ) → p < n → Fitting n g
  edges_fit i p f None is h q g e n lt =
      let whole = h.whole in
      record {
        whole = record {
          registers = flow_eleven Halves (room_of i) (answer_of Three f i) i p q f g whole.registers e;
          slots = laws.slots Halves (room_of i) (answer_of Three f i) i p q f g e ∙ whole.slots;
          links = laws.links Halves (room_of i) (answer_of Three f i) i p q f g e ∙ whole.links;
        };
        names = laws.names Halves (room_of i) (answer_of Three f i) i p q f g h.names e n lt;
      }
  edges_fit i p f (Some pair) is h q g e n lt =
      let whole = h.whole in
      let kept = pair_kept Halves p f pair caps i is q g e in
      record {
        whole = record { registers = kept.registers ∙ whole.registers; slots = kept.slots ∙ whole.slots; links = kept.links ∙ whole.links };
        names = kept.names n (above p n f lt h.names);
      }

  joined_fit : (n : ℕ) (inflow : Option PlainFrame) (g : PlainFrame) → AreFitting n inflow → Fitting n g → Fitting n (joined inflow g)
  joined_fit n None g h fit = fit
  joined_fit n (Some f) g h fit =
      let is = h f refl in
      let whole = is.whole in
      let other = fit.whole in
      record {
        whole = record {
          registers = laws.joined_slots (with_slots f f.registers) (with_slots g g.registers) (other.registers ∙ sym whole.registers) ∙ whole.registers;
          slots = laws.joined_slots f g (other.slots ∙ sym whole.slots) ∙ whole.slots;
          links = laws.joined_links f g (other.links ∙ sym whole.links) ∙ whole.links;
        };
        names = laws.joined_names f g n is.names;
      }

  met_fit : (n a q : ℕ) (g : PlainFrame) (inflow : Option PlainFrame) → AreFitting n inflow → Fitting n g → AreFitting n (met a g q inflow)
  met_fit n a q g inflow h fit =
      cond_both (a == q) (Some (joined inflow g)) inflow (AreFitting n)
      (λ _ k e. subst (Fitting n) (same_Some (joined inflow g) k e) (joined_fit n inflow g h fit))
      (λ _. h)

  along_fit : (n : ℕ) (edges : List (ℕ × PlainFrame)) (q : ℕ) (inflow : Option PlainFrame) → AreFitting n inflow → ((a : ℕ) (g : PlainFrame) → Among a g edges → Fitting n g) → AreFitting n (along edges q inflow)
  along_fit n [] q inflow h all = h
  along_fit n (edge ∷ edges) q inflow h all =
      along_fit n edges q (met edge.0 edge.1 q inflow) (met_fit n edge.0 q edge.1 inflow h (all edge.0 edge.1 (inl (refl, refl)))) (λ a g e. all a g (inr e))

  unless_fit : (n : ℕ) (r : Option Rule) (flown inflow : Option PlainFrame) → AreFitting n flown → AreFitting n inflow → AreFitting n (unless_refused r flown inflow)
  unless_fit n None flown inflow a b = a
  unless_fit n (Some rule) flown inflow a b = b

  head_fit : (n : ℕ) (o : Option (List HeadPlace)) (inflow : Option PlainFrame) → AreFitting n inflow → AreFitting n (with_head o inflow)
  head_fit n None inflow h g e = h g e
  head_fit n (Some places) None h g e = absurd (none-some g e)
  head_fit n (Some places) (Some f) h g e =
      let is = h f refl in
      let whole = is.whole in
      let kept = laws.heads Halves places f in
      subst (Fitting n) (same_Some (head_frame Halves places f) g e) (record {
        whole = record { registers = kept.registers ∙ whole.registers; slots = kept.slots ∙ whole.slots; links = kept.links ∙ whole.links };
        names = kept.names n;
      })

  module _ (heads : List PlainHead) (code : List (Option Insn)) where
    flow_fit : (n p q : ℕ) (o : Option Insn) (frame inflow : Option PlainFrame) → p < n → AreFitting p frame → AreFitting n inflow → AreFitting n (flow_below caps heads code p q o frame inflow)
    flow_fit n p q None frame inflow lt f h = h
    flow_fit n p q (Some i) None inflow lt f h = h
    flow_fit n p q (Some i) (Some g) inflow lt f h =
        unless_fit n (rule_below caps heads code p i (Some g)) (along (edges_at caps i p g) q inflow) inflow
        (along_fit n (edges_at caps i p g) q inflow h (λ a k e. edges_fit i p g (pair_of caps g i) refl (f g refl) a k e n lt)) h

    start_fit : (n q : ℕ) → AreFitting n (start Three caps q)
    start_fit n zero g e = subst (Fitting n) (same_Some (entry Three caps) g e) (record { whole = record { registers = refl; slots = length-replicate 64 (Num (constant 0)); links = length-replicate 75 no_link }; names = first n })
    start_fit n (suc q) g e = absurd (none-some g e)

    incoming_fit : (table : Table) (n q m : ℕ) → m ≤ n → ((p : ℕ) → p < m → AreFitting p (frame_at table p)) → AreFitting n (incoming_below caps heads code table q m)
    incoming_fit table n q zero le h = start_fit n q
    incoming_fit table n q (suc p) le h =
        flow_fit n p q (fetch code p) (frame_at table p) (incoming_below caps heads code table q p) (omega (arith, le)) (h p (omega arith))
        (incoming_fit table n q p (omega (arith, le)) (λ k lt. h k (omega (arith, lt))))

    table_fit : (n p : ℕ) → p < n → p < length code → AreFitting p (frame_at (loop_table caps heads code) p)
    table_fit zero p lt inside = absurd (omega (arith, lt))
    table_fit (suc n) p lt inside = ⊎_elim
        (λ less. table_fit n p less inside)
        (λ le.
        let same : n ≡ p = omega (arith, lt, le) in
        subst (AreFitting p) (sym (whole_at caps heads code p inside))
        (head_fit p (head_at heads p) (incoming_below caps heads code (loop_table caps heads code) p p)
        (incoming_fit (loop_table caps heads code) p p p (omega arith) (λ k less. table_fit n k (omega (arith, less, same)) (omega (arith, less, inside))))))
        (cases_lt p n)

    pub fitting_at : (p : ℕ) → p < length code → (g : PlainFrame) → frame_at (loop_table caps heads code) p ≡ Some g → Fitting p g
    fitting_at p inside g e = table_fit (suc p) p (omega arith) inside g e

-- ---- a frame is at a slot where an instruction begins

-- if there is a frame, an instruction begins at slot q
abbrev Starts : List (Option Insn) → ℕ → Option PlainFrame → Type 0
Starts code q o = (g : PlainFrame) → o ≡ Some g → begins_at code q ≡ true

module _ (caps : Caps) (heads : List PlainHead) (code : List (Option Insn)) where
  edges_begin : (i : Insn) (p : ℕ) (f : PlainFrame) (o : Option PointerPair) → pair_of caps f i ≡ o → Shaped heads code p i → (q : ℕ) (g : PlainFrame) → Among q g (edges_by Halves (room_of i) (answer_of Three f i) i p f o) → begins_at code q ≡ true
  edges_begin i p f None is ok q g e = flow_begins heads code p Halves (room_of i) (answer_of Three f i) i q f g ok e
  edges_begin i p f (Some pair) is ok q g e = pair_begins Halves p f pair caps heads code i is ok q g e

  -- each edge of an instruction that no rule of its own refuses goes to where one begins
  pub edge_begins : (i : Insn) (p : ℕ) (f : PlainFrame) → rule_below caps heads code p i (Some f) ≡ None → (q : ℕ) (g : PlainFrame) → Among q g (edges_at caps i p f) → begins_at code q ≡ true
  edge_begins i p f clear q g e = edges_begin i p f (pair_of caps f i) refl (shaped heads code p i (shape_and_frame caps heads code p i f clear).0) q g e

  met_starts : (a q : ℕ) (g : PlainFrame) (inflow : Option PlainFrame) → Starts code q inflow → begins_at code a ≡ true → Starts code q (met a g q inflow)
  met_starts a q g inflow h begins =
      cond_both (a == q) (Some (joined inflow g)) inflow (Starts code q) (λ same k e. ap (begins_at code) (sym (eqb-true a q same)) ∙ begins) (λ _. h)

  along_starts : (edges : List (ℕ × PlainFrame)) (q : ℕ) (inflow : Option PlainFrame) → Starts code q inflow → ((a : ℕ) (g : PlainFrame) → Among a g edges → begins_at code a ≡ true) → Starts code q (along edges q inflow)
  along_starts [] q inflow h all = h
  along_starts (edge ∷ edges) q inflow h all =
      along_starts edges q (met edge.0 edge.1 q inflow) (met_starts edge.0 q edge.1 inflow h (all edge.0 edge.1 (inl (refl, refl)))) (λ a g e. all a g (inr e))

  unless_starts : (q : ℕ) (r : Option Rule) (flown inflow : Option PlainFrame) → (r ≡ None → Starts code q flown) → Starts code q inflow → Starts code q (unless_refused r flown inflow)
  unless_starts q None flown inflow a b = a refl
  unless_starts q (Some rule) flown inflow a b = b

  flow_starts : (p q : ℕ) (o : Option Insn) (frame inflow : Option PlainFrame) → Starts code q inflow → Starts code q (flow_below caps heads code p q o frame inflow)
  flow_starts p q None frame inflow h = h
  flow_starts p q (Some i) None inflow h = h
  flow_starts p q (Some i) (Some f) inflow h =
      unless_starts q (rule_below caps heads code p i (Some f)) (along (edges_at caps i p f) q inflow) inflow
      (λ clear. along_starts (edges_at caps i p f) q inflow h (λ a g e. edge_begins i p f clear a g e)) h

  head_starts : (q : ℕ) (o : Option (List HeadPlace)) (inflow : Option PlainFrame) → Starts code q inflow → Starts code q (with_head o inflow)
  head_starts q None inflow h g e = h g e
  head_starts q (Some places) None h g e = absurd (none-some g e)
  head_starts q (Some places) (Some f) h g e = h f refl

  module _ (first : begins_at code 0 ≡ true) where
    start_starts : (q : ℕ) → Starts code q (start Three caps q)
    start_starts zero g e = first
    start_starts (suc q) g e = absurd (none-some g e)

    incoming_starts : (table : Table) (q n : ℕ) → Starts code q (incoming_below caps heads code table q n)
    incoming_starts table q zero = start_starts q
    incoming_starts table q (suc p) = flow_starts p q (fetch code p) (frame_at table p) (incoming_below caps heads code table q p) (incoming_starts table q p)

    -- a frame is at one of the slots
    pub frame_within : (p : ℕ) (g : PlainFrame) → frame_at (loop_table caps heads code) p ≡ Some g → p < length code
    frame_within p g e =
        let inside = slice_get_within (loop_table caps heads code) p (Some g) (inner _ _ e) in
        omega (arith, inside, length_frames caps heads code (length code))

    -- and an instruction begins there
    pub frame_begins : (p : ℕ) (g : PlainFrame) → frame_at (loop_table caps heads code) p ≡ Some g → (i : Insn) × (fetch code p ≡ Some i)
    frame_begins p g e =
        let inside = frame_within p g e in
        there (fetch code p) (head_starts p (head_at heads p) (incoming_below caps heads code (loop_table caps heads code) p p) (incoming_starts (loop_table caps heads code) p p) g (sym (whole_at caps heads code p inside) ∙ e))
      where
        there : {A : Type 0} (o : Option A) → is_some o ≡ true → (x : A) × (o ≡ Some x)
        there None h = absurd (false≢true h)
        there (Some x) h = (x, refl)

    -- So all frames are such as the code has them, if the numbers of their eleven registers are, where instructions begin.
    pub are_code_frames : TableLaws → ((n : ℕ) → NamesBelow n (entry Three caps)) → ((p : ℕ) (i : Insn) (f : PlainFrame) → fetch code p ≡ Some i → frame_at (loop_table caps heads code) p ≡ Some f → (r : ℕ) → r < 11 → KindFits (kind_at f r)) → AreCodeFrames (loop_table caps heads code)
    are_code_frames laws names fits p f e =
        let begins = frame_begins p f e in
        let fitting = fitting_at laws caps names heads code p (frame_within p f e) f e in
        let whole = fitting.whole in
        let eleven = whole.registers in
        record { eleven = eleven; fits = each_fits f.registers (λ r lt. fits p begins.0 f begins.1 e r (omega (arith, lt, eleven))) }
      where
        each_fits : (xs : List PlainKind) → ((r : ℕ) → r < length xs → KindFits (or_unset (slice_get xs r))) → EachFits xs
        each_fits [] h = tt
        each_fits (x ∷ xs) h = (h 0 (omega arith), each_fits xs (λ r lt. h (suc r) (omega (arith, lt))))

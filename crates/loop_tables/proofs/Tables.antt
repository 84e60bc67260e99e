-- The table of a method with heads, and what a pass over its slots has of the flows.
use Rattle.std.proofs.Common.{◌≡◌, ℕ, zero, suc, ◌+◌, ◌<◌, ◌≤◌, List, [], ◌∷◌, ◌++◌, Option, Some, None, refl, ap, ◌∙◌, sym, subst, arith, length, ⊎_elim, length-append}
use Rattle.std.specs.Prelude.{slice_get}
use Rattle.std.proofs.lemmas.Bool.{cases_lt}
use Rattle.bpf_decode.specs.declared.insn.Insn.{Insn}
use Rattle.bpf_decode.specs.declared.rule_set.RuleSet.TheVariants.{Three}
use Rattle.bpf_machine.specs.declared.caps.Caps.{Caps}
use Rattle.bpf_machine.specs.State.{◌>>=◌}
use Rattle.bpf_machine.specs.Typed.{fetch}
use Rattle.abstract_regs.specs.Frame.{PlainFrame}
use Rattle.verifier.specs.Verdict.{Table, frame_at, along, unless_refused, start}
use Rattle.loop_heads.specs.Loops.{PlainHead, head_at}
use Rattle.loop_tables.specs.Rules.{rule_below}
use Rattle.loop_tables.specs.Table.{edges_at, flow_below, incoming_below, with_head, loop_frames, loop_table}

get_left : {A : Type 0} (xs ys : List A) (p : ℕ) → p < length xs → slice_get (xs ++ ys) p ≡ slice_get xs p
get_left [] ys p h = absurd (omega arith)
get_left (x ∷ xs) ys zero h = refl
get_left (x ∷ xs) ys (suc p) h = get_left xs ys p (omega arith)

get_last : {A : Type 0} (xs : List A) (x : A) (p : ℕ) → length xs ≡ p → slice_get (xs ++ (x ∷ [])) p ≡ Some x
get_last [] x zero h = refl
get_last [] x (suc p) h = absurd (omega arith)
get_last (y ∷ xs) x zero h = absurd (omega arith)
get_last (y ∷ xs) x (suc p) h = get_last xs x p (omega arith)

module _ (caps : Caps) (heads : List PlainHead) (code : List (Option Insn)) where
  -- frames below n alone count
  pub agree : (t t' : Table) (q n : ℕ) → ((p : ℕ) → p < n → frame_at t p ≡ frame_at t' p) → incoming_below caps heads code t q n ≡ incoming_below caps heads code t' q n
  agree t t' q zero h = refl
  agree t t' q (suc p) h =
      ap (λ f. flow_below caps heads code p q (fetch code p) f (incoming_below caps heads code t q p)) (h p (omega arith))
      ∙ ap (λ inflow. flow_below caps heads code p q (fetch code p) (frame_at t' p) inflow) (agree t t' q p (λ k lt. h k (omega arith)))

  -- the frame that is put after the first n
  abbrev next : ℕ → Option PlainFrame
  next n = with_head (head_at heads n) (incoming_below caps heads code (loop_frames caps heads code n) n n)

  pub length_frames : (n : ℕ) → length (loop_frames caps heads code n) ≡ n
  length_frames zero = refl
  length_frames (suc n) =
      let h = length_frames n in
      let a = length-append (loop_frames caps heads code n) (next n ∷ []) in
      omega (arith, a, h)

  frames_at : (n p : ℕ) → p < n → frame_at (loop_frames caps heads code n) p ≡ next p
  frames_at zero p lt = absurd (omega arith)
  frames_at (suc n) p lt =
      let long = length_frames n in
      ⊎_elim
      (λ less. ap (λ o. o >>= λ f. f) (get_left (loop_frames caps heads code n) _ p (omega arith)) ∙ frames_at n p less)
      (λ same. let same' : p ≡ n = omega arith in
      ap (λ o. o >>= λ f. f) (get_last (loop_frames caps heads code n) (next n) p (omega arith))
      ∙ ap next (sym same')) (cases_lt p n)

  -- the table of the first n slots is the beginning of the whole one
  pub first_at : (n p : ℕ) → p < n → n ≤ length code → frame_at (loop_frames caps heads code n) p ≡ frame_at (loop_table caps heads code) p
  first_at n p lt le = frames_at n p lt ∙ sym (frames_at (length code) p (omega arith))

  -- each slot's frame is the join of all that flows into it from lower slots, and at a head that with what is declared
  pub whole_at : (q : ℕ) → q < length code → frame_at (loop_table caps heads code) q ≡ with_head (head_at heads q) (incoming_below caps heads code (loop_table caps heads code) q q)
  whole_at q lt =
      frames_at (length code) q lt
      ∙ ap (with_head (head_at heads q)) (agree (loop_frames caps heads code q) (loop_table caps heads code) q q (λ p less. first_at q p less (omega arith)))

  -- ---- a pass over the slots in order

  -- Before slot p a pass has, of each slot to come, what the slots below p bring.
  abbrev pub Brought : ℕ → (ℕ → Option PlainFrame) → Type 0
  Brought p awaited = (q : ℕ) → p ≤ q → q < length code → awaited q ≡ incoming_below caps heads code (loop_table caps heads code) q p

  -- so at slot p, with what is declared there, it has the slot's frame
  pub its_frame : (p : ℕ) (awaited : ℕ → Option PlainFrame) → p < length code → Brought p awaited → with_head (head_at heads p) (awaited p) ≡ frame_at (loop_table caps heads code) p
  its_frame p awaited lt b = ap (with_head (head_at heads p)) (b p (omega arith) lt) ∙ sym (whole_at p lt)

  -- at first it has what a method begins with
  pub brought_first : (awaited : ℕ → Option PlainFrame) → ((q : ℕ) → q < length code → awaited q ≡ start Three caps q) → Brought 0 awaited
  brought_first awaited h q le lt = h q lt

  one_more : (p : ℕ) → suc p ≡ p + 1
  one_more p = omega arith

  -- where nothing begins, nothing is brought
  pub brought_over : (p : ℕ) (awaited awaited' : ℕ → Option PlainFrame) → fetch code p ≡ None → ((q : ℕ) → p < q → q < length code → awaited' q ≡ awaited q) → Brought p awaited → Brought (p + 1) awaited'
  brought_over p awaited awaited' none same b =
      subst (λ n. Brought n awaited') (one_more p)
      (λ q le lt.
      same q (omega arith) lt ∙ b q (omega arith) lt
      ∙ sym (ap (λ i. flow_below caps heads code p q i (frame_at (loop_table caps heads code) p) (incoming_below caps heads code (loop_table caps heads code) q p)) none))

  -- nor where there is no frame
  pub brought_dead : (p : ℕ) (i : Insn) (awaited awaited' : ℕ → Option PlainFrame) → fetch code p ≡ Some i → frame_at (loop_table caps heads code) p ≡ None → ((q : ℕ) → p < q → q < length code → awaited' q ≡ awaited q) → Brought p awaited → Brought (p + 1) awaited'
  brought_dead p i awaited awaited' at none same b =
      subst (λ n. Brought n awaited') (one_more p)
      (λ q le lt.
      same q (omega arith) lt ∙ b q (omega arith) lt
      ∙ sym (ap (λ j. flow_below caps heads code p q j (frame_at (loop_table caps heads code) p) (incoming_below caps heads code (loop_table caps heads code) q p)) at
      ∙ ap (λ o. flow_below caps heads code p q (Some i) o (incoming_below caps heads code (loop_table caps heads code) q p)) none))

  -- an instruction that no rule of its own refuses brings what flows along its edges
  pub brought_more : (p : ℕ) (i : Insn) (f : PlainFrame) (awaited awaited' : ℕ → Option PlainFrame) → fetch code p ≡ Some i → frame_at (loop_table caps heads code) p ≡ Some f → rule_below caps heads code p i (Some f) ≡ None → ((q : ℕ) → p < q → q < length code → awaited' q ≡ along (edges_at caps i p f) q (awaited q)) → Brought p awaited → Brought (p + 1) awaited'
  brought_more p i f awaited awaited' at is clear more b =
      subst (λ n. Brought n awaited') (one_more p)
      (λ q le lt.
      let inflow = incoming_below caps heads code (loop_table caps heads code) q p in
      more q (omega arith) lt ∙ ap (along (edges_at caps i p f) q) (b q (omega arith) lt)
      ∙ sym (ap (λ j. flow_below caps heads code p q j (frame_at (loop_table caps heads code) p) inflow) at
      ∙ ap (λ o. flow_below caps heads code p q (Some i) o inflow) is
      ∙ ap (λ r. unless_refused r (along (edges_at caps i p f) q inflow) inflow) clear))

-- A run from a slot whose frame is true of the state ends at an exit.
use Rattle.std.proofs.Common.{◌≡◌, ◌≢◌, ℕ, zero, suc, ◌+◌, ◌-◌, ◌^◌, ◌<◌, ◌≤◌, List, [], ◌∷◌, ◌++◌, Option, Some, None, refl, ap, ◌∙◌, sym, subst, arith, length, drop}
use Rattle.std.specs.Prelude.{replicate}
use Rattle.std.proofs.lemmas.List.{length-replicate}
use Rattle.std.proofs.lemmas.Option.{none-some, same_Some, slice_get_within}
use Rattle.bpf_decode.specs.declared.insn.Insn.{Insn}
use Rattle.bpf_decode.specs.declared.insn.Insn.TheVariants.{Alu, Neg, Mov, MovSigned, End, LoadWide, Load, LoadSigned, Store, Jump, JumpLong, Branch, Call, CallLocal, Exit}
use Rattle.bpf_decode.specs.Instruction.{Fits, AllFit, slots, slot_count}
use Rattle.bpf_decode.specs.declared.rule_set.RuleSet.{RuleSet}
use Rattle.bpf_decode.specs.declared.rule_set.RuleSet.TheVariants.{One, Two, Three}
use Rattle.bpf_machine.specs.declared.caps.Caps.{Caps}
use Rattle.object_store.specs.declared.limits.Limits.{Limits}
use Rattle.object_store.specs.Object.{PlainObject, AreBytes}
use Rattle.object_store.specs.Limits.{IsLimits, IsAnyObject}
use Rattle.bpf_machine.specs.declared.limits.TheConstants.{STACK_SIZE}
use Rattle.bpf_machine.specs.State.{◌>>=◌, AreCapacities, opening, Outcome, Ended, Stuck, one_more, goes_on}
use Rattle.bpf_machine.specs.Slots.{slot_values}
use Rattle.bpf_machine.specs.Typed.{Typed, fetch, typed_act, typed_exit_of, typed_outcome, typed_ends, typed_run, typed_host_entry}
use Rattle.abstract_regs.specs.Frame.{PlainFrame, HoldsEach}
use Rattle.abstract_regs.specs.Moves.{NamesBelow}
use Rattle.abstract_regs.specs.Kind.{Num}
use Rattle.abstract_num.specs.Plain.{constant}
use Rattle.verifier.specs.Frame.{precision_of, known_slots, known_links, entry, Holds}
use Rattle.verifier.specs.inner.Pass.{Sound, IsSound, AllSound}
use Rattle.verifier.specs.Rules.{rule_at}
use Rattle.verifier.specs.Answers.{answer_of}
use Rattle.verifier.specs.Verdict.{frame_at, whole_table, code_verdict}
use Rattle.verifier.proofs.Bytes.{bytes_append, bytes_zeros}
use Rattle.verifier.proofs.Passed.{Passed, passed}
use Rattle.verifier.proofs.Allowed.{allowed}
use Rattle.verifier.proofs.Acts.{steps, exits}
use Rattle.verifier.proofs.Memory.{Laws, length-values, zeros_known, begins_within}
use Rattle.verifier.proofs.Lengths.{long_at}
use Rattle.verifier.proofs.Names.{below_at}
use Rattle.verifier.proofs.Tables.{whole_at}
use Rattle.verifier.proofs.Flows.{arrives, edge}
use Rattle.verifier.proofs.Verdicts.{passes}

-- the instructions that begin in a part of the code
left : List (Option Insn) → ℕ
left [] = 0
left (None ∷ xs) = left xs
left (Some i ∷ xs) = suc (left xs)

left_drop : (n : ℕ) (xs : List (Option Insn)) → left (drop n xs) ≤ left xs
unfolding left
left_drop zero xs = omega arith
left_drop (suc n) [] = omega arith
left_drop (suc n) (None ∷ xs) = left_drop n xs
left_drop (suc n) (Some i ∷ xs) = let h = left_drop n xs in omega arith

left_further : (xs : List (Option Insn)) (p q : ℕ) (i : Insn) → fetch xs p ≡ Some i → p < q → left (drop q xs) < left (drop p xs)
unfolding left
left_further [] p q i e h = absurd (none-some i e)
left_further (x ∷ xs) p zero i e h = absurd (omega arith)
left_further (None ∷ xs) zero (suc q) i e h = absurd (none-some i e)
left_further (Some j ∷ xs) zero (suc q) i e h = let l = left_drop q xs in omega arith
left_further (x ∷ xs) (suc p) (suc q) i e h = left_further xs p q i e (omega arith)

left_none : (n : ℕ) (xs : List (Option Insn)) → left (replicate n None ++ xs) ≡ left xs
unfolding left
left_none zero xs = refl
left_none (suc n) xs = left_none n xs

left_slots : (is : List Insn) → left (slots is) ≡ length is
unfolding left
left_slots [] = refl
left_slots (i ∷ is) = ap suc (left_none (slot_count i - 1) (slots is) ∙ left_slots is)

fit_past : (n : ℕ) (xs : List (Option Insn)) (p : ℕ) (i : Insn) → ((q : ℕ) → fetch xs q ≡ Some i → Fits i) → fetch (replicate n None ++ xs) p ≡ Some i → Fits i
fit_past zero xs p i rec e = rec p e
fit_past (suc n) xs zero i rec e = absurd (none-some i e)
fit_past (suc n) xs (suc p) i rec e = fit_past n xs p i rec e

pub fit_at : (is : List Insn) (p : ℕ) (i : Insn) → AllFit is → fetch (slots is) p ≡ Some i → Fits i
fit_at [] p i fit e = absurd (none-some i e)
fit_at (j ∷ is) zero i fit e = subst Fits (same_Some j i e) fit.0
fit_at (j ∷ is) (suc p) i fit e = fit_past (slot_count j - 1) (slots is) p i (λ q. fit_at is q i fit.1) e

-- an inner value that is there
pub inner : {A : Type 0} (o : Option (Option A)) (x : A) → (o >>= λ c. c) ≡ Some x → o ≡ Some (Some x)
inner None x h = absurd (none-some x h)
inner (Some o) x h = ap Some h

pub few_known : (rules : RuleSet) → known_slots rules ≤ 64
few_known One = omega arith
few_known Two = omega arith
few_known Three = omega arith

pub first_long : (rules : RuleSet) (caps : Caps) → length (entry rules caps).slots ≡ known_slots rules
first_long rules caps = length-replicate (known_slots rules) (Num (constant 0))

module _ (laws : Laws) (caps : Caps) (rules : RuleSet) (is : List Insn) (sound : AllSound rules caps (slots is)) (fit : AllFit is) (first : (n : ℕ) → NamesBelow n (entry rules caps)) (small : length (slots is) < 2 ^ 62) (clear : code_verdict rules caps (slots is) ≡ None) (before : PlainObject) where
  -- of how many slots frames speak
  abbrev known : ℕ
  known = known_slots rules

  abbrev Ends : ℕ → Typed → Type 0
  Ends n s = (o : Outcome) × (k : ℕ) × (typed_run caps (slots is) before n s ≡ Ended o k)

  -- a state at an instruction, of which the frame there is true
  record At (s : Typed) : Type 0 where
    insn : Insn
    there : fetch (slots is) s.slot ≡ Some insn
    frame : PlainFrame
    is_frame : frame_at (whole_table rules caps (slots is)) s.slot ≡ Some frame
    holds : Holds known frame s

  clear_at : (s : Typed) (a : At s) → rule_at rules caps (slots is) s.slot a.insn (Some a.frame) ≡ None
  clear_at s a = sym (ap (rule_at rules caps (slots is) s.slot a.insn) a.is_frame) ∙ passes rules caps (slots is) s.slot a.insn clear a.there

  sound_at : (s : Typed) (a : At s) → Sound rules a.insn s.slot a.frame
  sound_at s a = subst (IsSound rules a.insn s.slot) a.is_frame (sound s.slot a.insn a.there)

  abbrev Later : ℕ → Type 0
  Later n = (t : Typed) → left (drop t.slot (slots is)) ≤ n → At t → Ends n t

  on : (n : ℕ) (s : Typed) (a : At s) → left (drop s.slot (slots is)) ≤ suc n → Later n → a.insn ≢ Exit → typed_exit_of a.insn s ≡ None → Ends (suc n) s
  on n s a le later not_exit no_code =
      let rule = clear_at s a in
      let ok = passed rules caps (slots is) s.slot a.insn a.frame rule in
      let fits = fit_at is s.slot a.insn fit a.there in
      let kept = sound_at s a in
      let h = a.holds in
      let t = steps laws rules caps (slots is) s.slot known (few_known rules) a.frame s h kept.fits a.insn fits ok not_exit in
      let vs = slot_values known s.memory.stack in
      let ws = slot_values known (t.to).memory.stack in
      let inside = slice_get_within (slots is) s.slot (Some a.insn) (inner _ _ a.there) in
      let below = below_at laws.names laws.joined_names rules caps (slots is) first s.slot inside a.frame a.is_frame in
      let reached = kept.keeps fits (allowed rules caps (slots is) s.slot a.frame a.insn ok) below s.regs t.to.regs vs ws t.to.slot (h.long ∙ sym (length-values known s.memory.stack)) h.regs h.slots h.links t.moves in
      let e = edge rules caps (slots is) s.slot t.to.slot (answer_of rules a.frame a.insn) a.insn a.frame reached.frame (omega arith) fits ok reached.there in
      let inside' = slice_get_within (slots is) t.to.slot (Some e.to) (inner _ _ e.begins) in
      let meets = arrives laws.joins rules caps (slots is) s.slot t.to.slot a.insn a.frame reached.frame t.to.regs ws a.there a.is_frame rule (record { holds = reached.holds; slots = reached.slots; links = reached.links }) reached.there e.forward inside' in
      let fewer = left_further (slots is) s.slot t.to.slot a.insn a.there e.forward in
      let le' : left (drop t.to.slot (slots is)) ≤ n = omega arith in
      let rest = later t.to le' (record { insn = e.to; there = e.begins; frame = meets.frame; is_frame = meets.is; holds = record { regs = meets.holds; long = long_at laws.along laws.joined known rules caps (slots is) (first_long rules caps) t.to.slot inside' meets.frame meets.is; slots = meets.slots; links = meets.links; within = t.within } }) in (
        rest.0,
        suc rest.1,
        ap (λ o. typed_ends before s (o >>= λ i. typed_exit_of i s) (goes_on (o >>= λ i. typed_act caps i s) (typed_run caps (slots is) before n))) a.there
            ∙ ap (λ c. typed_ends before s c (goes_on (typed_act caps a.insn s) (typed_run caps (slots is) before n))) no_code
            ∙ ap (λ o. goes_on o (typed_run caps (slots is) before n)) t.act
            ∙ ap one_more rest.2,
      )

  out : (n : ℕ) (s : Typed) (a : At s) → a.insn ≡ Exit → Ends (suc n) s
  out n s a exit =
      let ok = subst (λ i. Passed rules caps (slots is) s.slot i a.frame) exit (passed rules caps (slots is) s.slot a.insn a.frame (clear_at s a)) in
      let c = exits rules caps (slots is) s.slot a.frame s a.holds ok in (
        typed_outcome before c.0 s,
        1,
        ap (λ o. typed_ends before s (o >>= λ i. typed_exit_of i s) (goes_on (o >>= λ i. typed_act caps i s) (typed_run caps (slots is) before n))) (a.there ∙ ap Some exit)
            ∙ ap (λ c. typed_ends before s c Stuck) c.1,
      )

  here : (n : ℕ) (s : Typed) (a : At s) (i : Insn) → a.insn ≡ i → left (drop s.slot (slots is)) ≤ suc n → Later n → Ends (suc n) s
  here n s a Exit e le later = out n s a e
  here n s a (Alu bits operation dst source) e le later = on n s a le later (λ x. cc) (ap (λ i. typed_exit_of i s) e)
  here n s a (Neg bits dst) e le later = on n s a le later (λ x. cc) (ap (λ i. typed_exit_of i s) e)
  here n s a (Mov bits dst source) e le later = on n s a le later (λ x. cc) (ap (λ i. typed_exit_of i s) e)
  here n s a (MovSigned extension dst src) e le later = on n s a le later (λ x. cc) (ap (λ i. typed_exit_of i s) e)
  here n s a (End order width dst) e le later = on n s a le later (λ x. cc) (ap (λ i. typed_exit_of i s) e)
  here n s a (LoadWide dst value) e le later = on n s a le later (λ x. cc) (ap (λ i. typed_exit_of i s) e)
  here n s a (Load width dst from offset) e le later = on n s a le later (λ x. cc) (ap (λ i. typed_exit_of i s) e)
  here n s a (LoadSigned width dst from offset) e le later = on n s a le later (λ x. cc) (ap (λ i. typed_exit_of i s) e)
  here n s a (Store width to offset source) e le later = on n s a le later (λ x. cc) (ap (λ i. typed_exit_of i s) e)
  here n s a (Jump offset) e le later = on n s a le later (λ x. cc) (ap (λ i. typed_exit_of i s) e)
  here n s a (JumpLong distance) e le later = on n s a le later (λ x. cc) (ap (λ i. typed_exit_of i s) e)
  here n s a (Branch bits comparison dst source offset) e le later = on n s a le later (λ x. cc) (ap (λ i. typed_exit_of i s) e)
  here n s a (Call helper) e le later = on n s a le later (λ x. cc) (ap (λ i. typed_exit_of i s) e)
  here n s a (CallLocal distance) e le later = on n s a le later (λ x. cc) (ap (λ i. typed_exit_of i s) e)

  ends_from : (n : ℕ) → Later n
  ends_from zero s le a =
      let none = left_further (slots is) s.slot (s.slot + 1) a.insn a.there (omega arith) in absurd (omega arith)
  ends_from (suc n) s le a = here n s a a.insn refl le (ends_from n)

  pub ends_at_exit : (s : Typed) (i : Insn) → s.slot ≡ 0 → fetch (slots is) 0 ≡ Some i → Holds known (entry rules caps) s → Ends (length is) s
  ends_at_exit s i zero_slot at h =
      let all = left_slots is in
      let some = slice_get_within (slots is) 0 (Some i) (inner _ _ at) in
      let whole : drop s.slot (slots is) ≡ slots is = ap (λ n. drop n (slots is)) zero_slot in
      let le : left (drop s.slot (slots is)) ≤ length is = omega (arith, ap left whole) in
      ends_from (length is) s le (record { insn = i; there = ap (fetch (slots is)) zero_slot ∙ at; frame = entry rules caps; is_frame = ap (frame_at (whole_table rules caps (slots is))) zero_slot ∙ whole_at rules caps (slots is) 0 some; holds = h })

-- as a method begins, no place is linked
pub none_named : Laws → (rules : RuleSet) (caps : Caps) → AreCapacities caps → (n : ℕ) → NamesBelow n (entry rules caps)
none_named laws rules caps sizes =
    let most = sizes.input in
    let first = laws.entry (precision_of rules) caps.in_cap STACK_SIZE (known_slots rules) (known_links rules) 0 (omega (arith, most)) (omega arith) (omega arith) in
    first.names

-- what a method begins with, the entry frame is true of
pub entry_is_held : Laws → (rules : RuleSet) (caps : Caps) → AreCapacities caps → (limits : Limits) → IsLimits limits → (object : PlainObject) (caller : ℕ) (input : List ℕ) → IsAnyObject object → caller < 2 ^ 32 → length input ≤ caps.in_cap → AreBytes input → Holds (known_slots rules) (entry rules caps) (typed_host_entry limits caps object caller input)
entry_is_held laws rules caps sizes limits allowed object caller input ob client le bytes =
    let most = sizes.input in
    let first = laws.entry (precision_of rules) caps.in_cap STACK_SIZE (known_slots rules) (known_links rules) (length input) (omega (arith, most)) (omega arith) le in
    record {
      regs = first.registers;
      long = first_long rules caps;
      slots = subst (HoldsEach (entry rules caps).slots) (sym (zeros_known laws.slots (known_slots rules) (few_known rules))) first.slots;
      links = first.links _ _;
      within = record { memory = begins_within laws.slots (known_slots rules) (typed_host_entry limits caps object caller input).memory input_is output_is refl; object = ob; client = client; limits = allowed };
    }
  where
    input_is : AreBytes (opening caps input).input
    input_is = bytes_append input _ bytes (bytes_zeros _)

    output_is : AreBytes (opening caps input).output
    output_is = bytes_zeros caps.out_cap

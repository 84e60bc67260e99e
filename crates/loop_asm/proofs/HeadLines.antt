-- The heads of a method's lines are read as they were written: each stands before the instruction at its slot.
use Rattle.std.proofs.Common.{◌≡◌, ℕ, zero, suc, ◌==◌, ◌+◌, ◌<◌, ◌≤◌, Bool, true, false, List, [], ◌∷◌, ◌++◌, length, get_or, map, nat_le, nat_lt, None, Ok, refl, sym, ap, ◌∙◌, arith}
use Rattle.std.specs.List.{AllByRecursion}
use Rattle.std.proofs.lemmas.Bool.Decides.{nat_tests}
use Rattle.bpf_decode.specs.declared.insn.Insn.{Insn}
use Rattle.bpf_decode.specs.declared.insn.Insn.TheVariants.{LoadWide}
use Rattle.bpf_decode.specs.declared.limits.TheConstants.{SLOT_LIMIT}
use Rattle.bpf_decode.specs.Instruction.{Fits, slot_count}
use Rattle.asm_lines.specs.declared.statement.Statement.{Statement}
use Rattle.asm_lines.specs.Texts.{content}
use Rattle.asm_lines.specs.Canonical.{line_of}
use Rattle.bpf_asm.specs.Bodies.{has_instruction}
use Rattle.bpf_asm.proofs.BodyLemmas.{one_slot}
use Rattle.bpf_asm.proofs.BodyTexts.{some_instruction}
use Rattle.bpf_asm.proofs.InsnTexts.{unresolved}
use Rattle.loop_heads.specs.declared.place.HeadPlace.{HeadPlace}
use Rattle.loop_heads.specs.declared.limits.TheConstants.{HEAD_LIMIT}
use Rattle.loop_heads.specs.Loops.{PlainHead, head_at}
use Rattle.loop_lines.specs.HeadText.{ArePlaces, head_line}
use Rattle.loop_lines.proofs.RoundTrip.{head_reads}
use Rattle.loop_asm.proofs.Given.{starts}
use Rattle.loop_asm.specs.Reading.{other, instruction_follows, placed, head_of, heads_from}
use Rattle.loop_asm.proofs.SaidLines.{plain_insn, insn_slots, head_is}
use Rattle.loop_asm.proofs.Contents.{HavePlaces, coded}

-- ---- where instructions begin

-- an instruction begins at p, where the first slot has that number
pub record Starts (slot : ℕ) (begin : List Bool) (p : ℕ) : Type 0 where
  pub off : ℕ
  pub place : p ≡ slot + off
  pub start : get_or begin off false ≡ true

pub starts_at : (begin : List Bool) (p : ℕ) → get_or begin p false ≡ true → Starts 0 begin p
starts_at begin p h = record { off = p; place = omega arith; start = h }

no_start : (k : ℕ) → get_or [] k false ≡ true → ⊥
no_start zero h = cc
no_start (suc k) h = cc

pub none_starts : (slot p : ℕ) → Starts slot [] p → ⊥
none_starts slot p s = no_start s.off s.start

one_on : (slot p k : ℕ) (begin : List Bool) → slot < p → p ≡ slot + k → get_or (true ∷ begin) k false ≡ true → Starts (slot + 1) begin p
one_on slot p zero begin lt e s = absurd (omega arith)
one_on slot p (suc k) begin lt e s = record { off = k; place = omega arith; start = s }

two_on : (slot p k : ℕ) (begin : List Bool) → slot < p → p ≡ slot + k → get_or (true ∷ false ∷ begin) k false ≡ true → Starts (slot + 2) begin p
two_on slot p zero begin lt e s = absurd (omega arith)
two_on slot p (suc zero) begin lt e s = absurd cc
two_on slot p (suc (suc k)) begin lt e s = record { off = k; place = omega arith; start = s }

-- a later slot, after the first instruction
starts_on : (slot : ℕ) (i : Insn) (is : List Insn) (p : ℕ) → slot < p → Starts slot (starts (i ∷ is)) p → Starts (slot + slot_count i) (starts is) p
starts_on slot (LoadWide dst value) is p lt s = two_on slot p s.off (starts is) lt s.place s.start
starts_on slot _ is p lt s = one_on slot p s.off (starts is) lt s.place s.start

-- ---- heads that are ahead

-- their slots rise from that number on
abbrev pub RiseFrom : ℕ → List PlainHead → Type 0
RiseFrom least [] = Unit {0}
RiseFrom least (h ∷ hs) = (least ≤ h.slot) × RiseFrom (h.slot + 1) hs

-- each stands at one of the instructions, the first of which is at that slot
abbrev pub Stand : ℕ → List Insn → List PlainHead → Type 0
Stand slot is hs = AllByRecursion (λ h. Starts slot (starts is) h.slot) hs

pub record Ahead (slot : ℕ) (is : List Insn) (hs : List PlainHead) : Type 0 where
  pub rise : RiseFrom slot hs
  pub stand : Stand slot is hs
  pub places : HavePlaces hs

pub rise_more : (a b : ℕ) (hs : List PlainHead) → a ≤ b → RiseFrom b hs → RiseFrom a hs
rise_more a b [] le r = tt
rise_more a b (h ∷ hs) le r = (omega (arith, r.0), r.1)

rise_to : (slot : ℕ) (is : List Insn) (least : ℕ) (hs : List PlainHead) → Stand slot is hs → RiseFrom least hs → RiseFrom slot hs
rise_to slot is least [] s r = tt
rise_to slot is least (h ∷ hs) s r = let place = s.0.place in (omega arith, r.1)

stand_on : (slot : ℕ) (i : Insn) (is : List Insn) (least : ℕ) (hs : List PlainHead) → slot < least → RiseFrom least hs → Stand slot (i ∷ is) hs → Stand (slot + slot_count i) is hs
stand_on slot i is least [] lt r s = tt
stand_on slot i is least (h ∷ hs) lt r s =
    let from = r.0 in
    (starts_on slot i is h.slot (omega arith) s.0, stand_on slot i is (h.slot + 1) hs (omega arith) r.1 s.1)

-- after the first instruction, where no head stands at it
pub ahead_on : (slot : ℕ) (i : Insn) (is : List Insn) (hs : List PlainHead) → RiseFrom (slot + 1) hs → Ahead slot (i ∷ is) hs → Ahead (slot + slot_count i) is hs
ahead_on slot i is hs r a =
    let stand = stand_on slot i is (slot + 1) hs (omega arith) r a.stand in
    record { rise = rise_to (slot + slot_count i) is (slot + 1) hs stand r; stand = stand; places = a.places }

-- ---- the lines of instructions and heads

coded_past : (h : PlainHead) (hs : List PlainHead) (slot : ℕ) (is : List Insn) → h.slot < slot → coded (h ∷ hs) slot is ≡ coded hs slot is
coded_past h hs slot [] lt = refl
coded_past h hs slot (i ∷ is) lt =
    let test : (h.slot == slot) ≡ false = grind (arith, nat_tests) in
    rw (test, coded_past h hs (slot + slot_count i) is (omega arith)) refl

-- a head at the first instruction
pub coded_at : (h : PlainHead) (hs : List PlainHead) (slot : ℕ) (i : Insn) (is : List Insn) → h.slot ≡ slot → coded (h ∷ hs) slot (i ∷ is) ≡ head_line h.places ∷ content (line_of i) ∷ coded hs (slot + slot_count i) is
coded_at h hs slot i is e =
    let test : (h.slot == slot) ≡ true = grind (arith, nat_tests) in
    let some = one_slot i in
    rw (test, coded_past h hs (slot + slot_count i) is (omega arith)) refl

none_at : (hs : List PlainHead) (slot least : ℕ) → slot < least → RiseFrom least hs → head_at hs slot ≡ None
none_at [] slot least lt r = refl
none_at (h ∷ hs) slot least lt r =
    let from = r.0 in
    let test : (h.slot == slot) ≡ false = grind (arith, nat_tests) in
    rw test (none_at hs slot (h.slot + 1) (omega arith) r.1)

-- none there
pub coded_off : (hs : List PlainHead) (slot : ℕ) (i : Insn) (is : List Insn) → RiseFrom (slot + 1) hs → coded hs slot (i ∷ is) ≡ content (line_of i) ∷ coded hs (slot + slot_count i) is
coded_off hs slot i is r = rw (none_at hs slot (slot + 1) (omega arith) r) refl

-- ---- reading them

-- heads that were read
abbrev pub Below : ℕ → List PlainHead → Type 0
Below slot hs = AllByRecursion (λ h. h.slot < slot) hs

below_none : (hs : List PlainHead) (slot : ℕ) → Below slot hs → head_at hs slot ≡ None
below_none [] slot b = refl
below_none (h ∷ hs) slot b =
    let lt = b.0 in
    let test : (h.slot == slot) ≡ false = grind (arith, nat_tests) in
    rw test (below_none hs slot b.1)

pub below_more : (hs : List PlainHead) (a b : ℕ) → a ≤ b → Below a hs → Below b hs
below_more [] a b le h = tt
below_more (x ∷ xs) a b le h = (omega (arith, h.0), below_more xs a b le h.1)

pub below_push : (hs : List PlainHead) (x : PlainHead) (a b : ℕ) → a ≤ b → x.slot < b → Below a hs → Below b (hs ++ (x ∷ []))
below_push [] x a b le lt h = (lt, tt)
below_push (y ∷ ys) x a b le lt h = (omega (arith, h.0), below_push ys x a b le lt h.1)

insn_follows : (i : Insn) (rest : List (List ℕ)) → Fits i → instruction_follows (content (line_of i) ∷ rest) ≡ true
insn_follows i rest fits =
    ap (λ (s : Statement). has_instruction (s ∷ map other rest)) (plain_insn i fits).other ∙ some_instruction (Ok (unresolved i)) (map other rest)

-- a head of that slot
abbrev head_with : List HeadPlace → ℕ → PlainHead
head_with ps slot = record { slot = slot; places = ps }

places_put : (done : List PlainHead) (slot : ℕ) (ps : List HeadPlace) → Below slot done → length done < HEAD_LIMIT → slot ≤ SLOT_LIMIT → placed done slot (Ok ps) ≡ Ok (head_with ps slot)
places_put done slot ps b few low =
    let full : nat_le HEAD_LIMIT (length done) ≡ false = grind (arith, nat_tests) in
    let past : nat_lt SLOT_LIMIT slot ≡ false = grind (arith, nat_tests) in
    rw (full, past, below_none done slot b) refl

head_put : (done : List PlainHead) (slot : ℕ) (h : PlainHead) (i : Insn) (rest : List (List ℕ)) → h.slot ≡ slot → ArePlaces h.places → Fits i → Below slot done → length done < HEAD_LIMIT → slot ≤ SLOT_LIMIT
    → head_of done slot (content (line_of i) ∷ rest) (head_line h.places) ≡ Ok h
head_put done slot h i rest e are fits b few low =
    rw (insn_follows i rest fits)
    (ap (placed done slot) (head_reads h.places are).1 ∙ places_put done slot h.places b few low ∙ ap (λ (s : ℕ). Ok (head_with h.places s)) (sym e))

-- a head's line, and an instruction's
pub head_step : (line slot : ℕ) (done : List PlainHead) (h : PlainHead) (i : Insn) (rest : List (List ℕ)) → h.slot ≡ slot → ArePlaces h.places → Fits i → Below slot done → length done < HEAD_LIMIT → slot ≤ SLOT_LIMIT
    → heads_from line slot done (head_line h.places ∷ content (line_of i) ∷ rest) ≡ heads_from (line + 1) slot (done ++ (h ∷ [])) (content (line_of i) ∷ rest)
unfolding heads_from
head_step line slot done h i rest e are fits b few low = rw (head_is h.places are, head_put done slot h i rest e are fits b few low) refl

pub insn_step : (line slot : ℕ) (done : List PlainHead) (i : Insn) (rest : List (List ℕ)) → Fits i
    → heads_from line slot done (content (line_of i) ∷ rest) ≡ heads_from (line + 1) (slot + slot_count i) done rest
unfolding heads_from
insn_step line slot done i rest fits =
    let p = plain_insn i fits in
    rw (p.no_head, p.no_budget, insn_slots i fits) refl

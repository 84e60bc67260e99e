-- The laws of the join of frames, and that a join holds what either part holds.
use Rattle.std.specs.Prelude.{◌≡◌, ◌⊎◌, ℕ, ◌+◌, ◌%◌, ◌^◌, ◌<◌, ◌≤◌, List, [], ◌∷◌, Option, Some, None, true, false}
use Rattle.std.specs.Prelude.{length, replicate, is_some}
use Rattle.abstract_num.specs.declared.precision.Precision.{Precision}
use Rattle.abstract_num.specs.Plain.{Plain, Holds, Below}
use Rattle.abstract_num.specs.Keeping.{Fits}
use Rattle.bpf_decode.specs.declared.region.Region.TheVariants.{Input, Output, Stack}
use Rattle.bpf_decode.specs.declared.value.Value.TheVariants as values
use Rattle.bpf_decode.specs.declared.value.Value.{Value}
use Rattle.abstract_regs.specs.declared.kind.Kind.{Kind}
use Rattle.abstract_regs.specs.declared.content.Content.TheVariants.{Nothing, Pointer}
use Rattle.abstract_regs.specs.Kind.{PlainKind, Unset, Num, Ptr, HoldsKind, is_ptr, is_num, access_fits, range_fits}
use Rattle.abstract_regs.specs.Slots.{stack_range, meets}
use Rattle.bpf_decode.specs.declared.region.Region.{Region}
use Rattle.abstract_regs.specs.Frame.{PlainFrame, kept_kind, join_each, join, entry_frame, HoldsEach}
use Rattle.abstract_regs.specs.Flow.{flow}
use Rattle.abstract_regs.specs.declared.link.Link.{Link}
use Rattle.abstract_regs.specs.Link.{no_link, join_links}
use Rattle.abstract_regs.specs.Moves.{Among, KindFits, AllowsLoad, LoadIsKnown, Reached, IsSlot, IsNumber, HoldsLinks}
use Rattle.abstract_regs.specs.Moves.{NamesBelow, value_at}
use Rattle.abstract_regs.specs.Seen.{seen_each}
use Rattle.bpf_decode.specs.declared.insn.Insn.{Insn}

-- the order: what a kind holds, each greater one holds
abbrev pub BelowKind : PlainKind → PlainKind → Type 0
BelowKind x Unset = Unit {0}
BelowKind Unset (Num l) = ⊥
BelowKind (Num k) (Num l) = Below k l
BelowKind (Ptr r k) (Num l) = ⊥
BelowKind Unset (Ptr q l) = ⊥
BelowKind (Num k) (Ptr q l) = ⊥
BelowKind (Ptr r k) (Ptr q l) = (r ≡ q) × Below k l

-- a list that is shorter stands for one that goes on with Unset
abbrev pub BelowEach : List PlainKind → List PlainKind → Type 0
BelowEach xs [] = Unit {0}
BelowEach [] (y ∷ ys) = ⊥
BelowEach (x ∷ xs) (y ∷ ys) = BelowKind x y × BelowEach xs ys

-- Of the frames of the code: the join is commutative, associative and idempotent, and an upper
-- bound.
abbrev pub JoinCommutes : Type 0
JoinCommutes = (xs ys : List Kind) → length xs ≡ length ys →
    join_each (seen_each xs) (seen_each ys) ≡ join_each (seen_each ys) (seen_each xs)

abbrev pub JoinAssociates : Type 0
JoinAssociates =
    (xs ys zs : List Kind) → length xs ≡ length ys → length ys ≡ length zs →
    join_each (join_each (seen_each xs) (seen_each ys)) (seen_each zs) ≡
    join_each (seen_each xs) (join_each (seen_each ys) (seen_each zs))

abbrev pub JoinOfSame : Type 0
JoinOfSame = (xs : List Kind) → join_each (seen_each xs) (seen_each xs) ≡ seen_each xs

abbrev pub JoinIsAbove : Type 0
JoinIsAbove =
    (xs ys : List Kind) → length xs ≡ length ys → BelowEach (seen_each xs) (join_each (seen_each xs) (seen_each ys))

-- Links have these laws too: each link of the join is none, or the same in either frame.
abbrev pub BelowLinks : List Link → List Link → Type 0
BelowLinks ls [] = Unit {0}
BelowLinks [] (m ∷ ms) = ⊥
BelowLinks (l ∷ ls) (m ∷ ms) = ((m ≡ no_link) ⊎ (l ≡ m)) × BelowLinks ls ms

abbrev pub LinksCommute : Type 0
LinksCommute = (ls ms : List Link) → length ls ≡ length ms → join_links ls ms ≡ join_links ms ls

abbrev pub LinksAssociate : Type 0
LinksAssociate =
    (ls ms ns : List Link) → length ls ≡ length ms → length ms ≡ length ns →
    join_links (join_links ls ms) ns ≡ join_links ls (join_links ms ns)

abbrev pub LinksOfSame : Type 0
LinksOfSame = (ls : List Link) → join_links ls ls ≡ ls

abbrev pub LinksAreAbove : Type 0
LinksAreAbove = (ls ms : List Link) → length ls ≡ length ms → BelowLinks ls (join_links ls ms)

-- What either of two frames holds, their join holds.
pub record JoinHolds (f g : PlainFrame) : Type 0 where
  pub left : (cs : List (Option Value)) → HoldsEach f.registers cs → HoldsEach (join f g).registers cs
  pub right : (cs : List (Option Value)) → HoldsEach g.registers cs → HoldsEach (join f g).registers cs
  pub slots_left : (vs : List (Option Value)) → HoldsEach f.slots vs → HoldsEach (join f g).slots vs
  pub slots_right : (vs : List (Option Value)) → HoldsEach g.slots vs → HoldsEach (join f g).slots vs
  pub links_left : (cs vs : List (Option Value)) → HoldsLinks f cs vs → HoldsLinks (join f g) cs vs
  pub links_right : (cs vs : List (Option Value)) → HoldsLinks g cs vs → HoldsLinks (join f g) cs vs

-- That is so of every two frames.
abbrev pub JoinsHold : Type 0
JoinsHold = (f g : PlainFrame) → JoinHolds f g

-- What a method begins with, an input of n bytes and a stack of zeros: the entry frame holds it. No
-- place is linked.
pub record EntryIsHeld (precision : Precision) (in_cap stack count places n : ℕ) : Type 0 where
  pub registers : HoldsEach (entry_frame precision in_cap stack count places).registers
      (None ∷ Some (values.Ptr Input 0) ∷ Some (values.Num n) ∷ Some (values.Ptr Output 0) ∷ None ∷ None ∷ None ∷ None ∷
      None ∷ None ∷ Some (values.Ptr Stack stack) ∷ [])
  pub slots : HoldsEach (entry_frame precision in_cap stack count places).slots (replicate count (Some (values.Num 0)))
  pub links : (cs vs : List (Option Value)) → HoldsLinks (entry_frame precision in_cap stack count places) cs vs
  pub names : (p : ℕ) → NamesBelow p (entry_frame precision in_cap stack count places)

-- That is so of each length of the input up to in_cap.
abbrev pub EntryHolds : Type 0
EntryHolds = (precision : Precision) (in_cap stack count places n : ℕ) → in_cap < 2 ^ 64 → stack < 2 ^ 64 → n ≤ in_cap →
    EntryIsHeld precision in_cap stack count places n

-- An access that fits by an offset stays within the first `size` bytes, at every place that the
-- offset holds.
abbrev pub AccessesFit : Type 0
AccessesFit =
    (precision : Precision) (k : Plain) → Fits k → (distance w size : ℕ) → distance < 2 ^ 64 →
    access_fits precision k distance w size ≡ true →
    (at : ℕ) → Holds k at → (at + distance) % 2 ^ 64 + w ≤ size

-- A range that fits from an offset on stays within the first `size` bytes, from every place that
-- the offset holds, for every number of bytes that the length holds.
abbrev pub RangesFit : Type 0
RangesFit =
    (k l : Plain) → (size : ℕ) → range_fits k l size ≡ true →
    (at n : ℕ) → Holds k at → Holds l n → at + n ≤ size

-- An instruction keeps the number of slots, along each of its edges; so does a join.
abbrev pub FlowsKeepSlots : Type 0
FlowsKeepSlots =
    (precision : Precision) (room : Option ℕ) (answer : Plain) (i : Insn) (p q : ℕ) (f g : PlainFrame) →
    Among q g (flow precision room answer i p f) → length g.slots ≡ length f.slots

abbrev pub JoinsKeepSlots : Type 0
JoinsKeepSlots = (f g : PlainFrame) → length g.slots ≡ length f.slots → length (join f g).slots ≡ length f.slots

-- And the number of places that may be linked.
abbrev pub FlowsKeepLinks : Type 0
FlowsKeepLinks =
    (precision : Precision) (room : Option ℕ) (answer : Plain) (i : Insn) (p q : ℕ) (f g : PlainFrame) →
    Among q g (flow precision room answer i p f) → length g.links ≡ length f.links

abbrev pub JoinsKeepLinks : Type 0
JoinsKeepLinks = (f g : PlainFrame) → length g.links ≡ length f.links → length (join f g).links ≡ length f.links

-- The names that links have after an instruction at slot p are below every later slot, if those
-- before it are below p. A join has no others.
abbrev pub FlowsKeepNames : Type 0
FlowsKeepNames =
    (precision : Precision) (room : Option ℕ) (answer : Plain) (i : Insn) (p q : ℕ) (f g : PlainFrame) →
    NamesBelow p f → Among q g (flow precision room answer i p f) →
    (n : ℕ) → p < n → NamesBelow n g

abbrev pub JoinsKeepNames : Type 0
JoinsKeepNames = (f g : PlainFrame) (p : ℕ) → NamesBelow p f → NamesBelow p (join f g)

-- Of a load that the rules leave, what it reads is known, wherever it is.
abbrev pub LoadsAreKnown : Type 0
LoadsAreKnown =
    (precision : Precision) (f : PlainFrame) (x : PlainKind) (distance w : ℕ) → KindFits x → distance < 2 ^ 64 →
    AllowsLoad precision f x distance w →
    (vs : List (Option Value)) → length f.slots ≡ length vs → HoldsEach f.slots vs →
    (r : Region) (at : ℕ) → HoldsKind x (Some (values.Ptr r at)) → LoadIsKnown vs r ((at + distance) % 2 ^ 64) w

-- If a helper's range meets nothing that isn't to be read, each slot that it reaches is a
-- number.
abbrev pub RangesAreKnown : Type 0
RangesAreKnown =
    (f : PlainFrame) (x y : PlainKind) → meets Nothing (stack_range x y) 0 f.slots ≡ false →
    meets Pointer (stack_range x y) 0 f.slots ≡ false →
    (vs : List (Option Value)) → length f.slots ≡ length vs → HoldsEach f.slots vs → is_ptr x ≡ true → is_num y ≡ true →
    (r : Region) (at n j : ℕ) → HoldsKind x (Some (values.Ptr r at)) → HoldsKind y (Some (values.Num n)) →
    j < length vs → 1 ≤ n → Reached r at n j → IsNumber (value_at vs j)

-- If the kind of an access's slot is known, the access is that slot.
abbrev pub SlotsAreKnown : Type 0
SlotsAreKnown =
    (precision : Precision) (f : PlainFrame) (x : PlainKind) (distance w : ℕ) → KindFits x → distance < 2 ^ 64 →
    is_some (kept_kind precision f x distance w) ≡ true →
    (vs : List (Option Value)) → length f.slots ≡ length vs →
    (r : Region) (at : ℕ) → HoldsKind x (Some (values.Ptr r at)) → (j : ℕ) × IsSlot vs r ((at + distance) % 2 ^ 64) w j

-- What instructions do with the registers and with the stack's slots, by the machine's operations,
-- whatever memory and helpers answer.
use Rattle.std.specs.Prelude.{◌≡◌, ◌⊎◌, ℕ, ◌+◌, ◌*◌, ◌%◌, ◌^◌, ◌<◌, ◌≤◌, true, false, List, [], ◌∷◌, length, Option}
use Rattle.std.specs.Prelude.{Some, None, slice_get, slice_set, drop}
use Rattle.bpf_decode.specs.declared.insn.Operand.{Operand}
use Rattle.bpf_decode.specs.declared.insn.Operand.TheVariants.{Immediate, Register}
use Rattle.bpf_decode.specs.declared.insn.Insn.{Insn}
use Rattle.bpf_decode.specs.declared.insn.Insn.TheVariants.{Alu, Neg, Mov, MovSigned, End, LoadWide, Load, LoadSigned}
use Rattle.bpf_decode.specs.declared.insn.Insn.TheVariants.{Store, Jump, JumpLong, Branch, Call, CallLocal, Exit}
use Rattle.bpf_decode.specs.declared.value.Value.{Value}
use Rattle.bpf_decode.specs.declared.region.Region.{Region}
use Rattle.bpf_decode.specs.declared.region.Region.TheVariants.{Stack}
use Rattle.bpf_decode.specs.declared.value.Value.TheVariants.{Num, Ptr}
use Rattle.bpf_decode.specs.Instruction.{byte_count, signed_byte_count, Fits}
use Rattle.bpf_decode.specs.Arithmetic.{neg_value, signed_move_value, end_value, is_taken, signed_load_value}
use Rattle.bpf_decode.specs.Jump.{branch_to}
use Rattle.bpf_decode.specs.Values.{extended, alu_values, mov_values}
use Rattle.abstract_num.specs.declared.precision.Precision.{Precision}
use Rattle.abstract_num.specs.Plain.{Plain, Holds}
use Rattle.abstract_num.specs.Keeping as numbers
use Rattle.abstract_regs.specs.Kind as kind
use Rattle.abstract_regs.specs.Kind.{PlainKind, Unset, is_unset, is_num, is_ptr}
use Rattle.abstract_regs.specs.declared.content.Content.TheVariants.{Nothing, Pointer}
use Rattle.abstract_regs.specs.Slots.{stack_place, access_span, meets}
use Rattle.abstract_regs.specs.Frame.{PlainFrame, kind_at, operand_kind, kept_kind, HoldsEach}
use Rattle.abstract_regs.specs.Flow.{target, flow}
use Rattle.abstract_regs.specs.declared.link.Link.{Link}
use Rattle.abstract_regs.specs.Link.{link_in, HoldsLink, NameBelow}
use Rattle.abstract_regs.specs.Links.{slot_place}

-- two ways of being unset are one
abbrev pub flat_option : Option (Option Value) → Option Value
flat_option None = None
flat_option (Some c) = c

-- a register's value, if it is set
abbrev pub value_at : List (Option Value) → ℕ → Option Value
value_at cs r = flat_option (slice_get cs r)

-- an operand's value, if it is set
abbrev pub operand_in : List (Option Value) → Operand → Option Value
operand_in cs (Immediate imm) = Some (Num (extended imm))
operand_in cs (Register r) = value_at cs r

-- the registers with a value in one of them
abbrev pub with_value : List (Option Value) → ℕ → Value → List (Option Value)
with_value cs r v = slice_set cs r (Some v)

-- ---- links

-- the links of a frame are true, if the names have these numbers
pub record LinksAre (links : List Link) (cs vs : List (Option Value)) (numbers : ℕ → ℕ) : Type 0 where
  pub registers : (r : ℕ) → r ≤ 10 → HoldsLink numbers (link_in links r) (value_at cs r)
  pub slots : (j : ℕ) → HoldsLink numbers (link_in links (slot_place j)) (value_at vs j)

-- The names can have such numbers that the links of a frame are true of the registers cs and of the
-- slots vs.
abbrev pub HoldsLinks : PlainFrame → List (Option Value) → List (Option Value) → Type 0
HoldsLinks f cs vs = (numbers : ℕ → ℕ) × LinksAre f.links cs vs numbers

-- Each name of a frame's links is below p: no instruction from slot p on has given it yet.
abbrev pub NamesBelow : ℕ → PlainFrame → Type 0
NamesBelow p f = (place : ℕ) → NameBelow p (link_in f.links place)

-- ---- slots of the stack, by their values: a number, a place, or none if a place was
-- overwritten in part

-- one of w bytes at a place is in slot j
pub record Touched (at w j : ℕ) : Type 0 where
  pub below : 8 * j < at + w
  pub above : at < 8 * j + 8

-- and that place is in the stack
pub record Reached (r : Region) (at w j : ℕ) : Type 0 where
  pub region : r ≡ Stack
  pub touched : Touched at w j

-- a slot that is a number, below 2 ^ 64
abbrev pub IsNumber : Option Value → Type 0
IsNumber None = ⊥
IsNumber (Some (Num n)) = n < 2 ^ 64
IsNumber (Some (Ptr r at)) = ⊥

-- w bytes at a place of a region are slot j of these
pub record IsSlot (vs : List (Option Value)) (r : Region) (at w j : ℕ) : Type 0 where
  pub region : r ≡ Stack
  pub width : w ≡ 8
  pub place : at ≡ 8 * j
  pub inside : j < length vs

-- A load of w bytes gives the value of the slot that they are; it gives a number if each slot
-- that they reach is one.
pub record Loads (vs : List (Option Value)) (r : Region) (at w : ℕ) (v : Value) : Type 0 where
  pub whole : (j : ℕ) → IsSlot vs r at w j → value_at vs j ≡ Some v
  pub number : ((j : ℕ) → j < length vs → Reached r at w j → IsNumber (value_at vs j)) →
      (n : ℕ) × (v ≡ Num n) × (n < 256 ^ w)

-- A store of w bytes of a value.
pub record Stores (vs : List (Option Value)) (r : Region) (at w : ℕ) (x : Value)
    (ws : List (Option Value)) : Type 0 where
  pub long : length ws ≡ length vs
  pub whole : (j : ℕ) → IsSlot vs r at w j → value_at ws j ≡ Some x
  pub others : (j : ℕ) → ¬ Reached r at w j → value_at ws j ≡ value_at vs j
  pub numbers : IsNumber (Some x) → (j : ℕ) → IsNumber (value_at vs j) → IsNumber (value_at ws j)

-- Bytes that a helper writes into a range of n.
pub record Overwrites (vs : List (Option Value)) (r : Region) (at n : ℕ) (ws : List (Option Value)) : Type 0 where
  pub long : length ws ≡ length vs
  pub others : (j : ℕ) → ¬ ((1 ≤ n) × Reached r at n j) → value_at ws j ≡ value_at vs j
  pub numbers : (j : ℕ) → IsNumber (value_at vs j) → IsNumber (value_at ws j)

-- The range begins at the register that is given: a pointer, and a length after it.
abbrev pub Overwritten : Option ℕ → List (Option Value) → List (Option Value) → List (Option Value) → Type 0
Overwritten None cs vs ws = ws ≡ vs
Overwritten (Some k) cs vs ws =
    (r : Region) × (at n : ℕ) × (value_at cs k ≡ Some (Ptr r at)) × (value_at cs (k + 1) ≡ Some (Num n)) ×
    Overwrites vs r at n ws

-- The instruction at slot p takes the registers cs to ds and the stack's slots vs to ws, and goes
-- on at slot q. A helper answers one of the numbers that `answer` holds.
abbrev pub Moves : Option ℕ → Plain → Insn → ℕ → List (Option Value) → List (Option Value) → ℕ → List (Option Value) →
    List (Option Value) → Type 0
Moves room answer (Alu bits operation dst source) p cs vs q ds ws =
    (x y v : Value) × (value_at cs dst ≡ Some x) × (operand_in cs source ≡ Some y) ×
    (alu_values bits operation x y ≡ Some v) × (q ≡ p + 1) × (ds ≡ with_value cs dst v) × (ws ≡ vs)
Moves room answer (Neg bits dst) p cs vs q ds ws =
    (n : ℕ) × (value_at cs dst ≡ Some (Num n)) × (q ≡ p + 1) × (ds ≡ with_value cs dst (Num (neg_value bits n))) ×
    (ws ≡ vs)
Moves room answer (Mov bits dst source) p cs vs q ds ws =
    (y v : Value) × (operand_in cs source ≡ Some y) × (mov_values bits y ≡ Some v) × (q ≡ p + 1) ×
    (ds ≡ with_value cs dst v) × (ws ≡ vs)
Moves room answer (MovSigned extension dst src) p cs vs q ds ws =
    (n : ℕ) × (value_at cs src ≡ Some (Num n)) × (q ≡ p + 1) ×
    (ds ≡ with_value cs dst (Num (signed_move_value extension n))) × (ws ≡ vs)
Moves room answer (End order width dst) p cs vs q ds ws =
    (n : ℕ) × (value_at cs dst ≡ Some (Num n)) × (q ≡ p + 1) ×
    (ds ≡ with_value cs dst (Num (end_value order width n))) × (ws ≡ vs)
Moves room answer (LoadWide dst value) p cs vs q ds ws = (q ≡ p + 2) × (ds ≡ with_value cs dst (Num value)) × (ws ≡ vs)
Moves room answer (Load width dst base offset) p cs vs q ds ws =
    (r : Region) × (o : ℕ) × (v : Value) × (value_at cs base ≡ Some (Ptr r o)) ×
    Loads vs r ((o + extended offset) % 2 ^ 64) (byte_count width) v × (q ≡ p + 1) × (ds ≡ with_value cs dst v) ×
    (ws ≡ vs)
Moves room answer (LoadSigned width dst base offset) p cs vs q ds ws =
    (r : Region) × (o n : ℕ) × (value_at cs base ≡ Some (Ptr r o)) ×
    Loads vs r ((o + extended offset) % 2 ^ 64) (signed_byte_count width) (Num n) × (q ≡ p + 1) ×
    (ds ≡ with_value cs dst (Num (signed_load_value width n))) × (ws ≡ vs)
Moves room answer (Store width base offset source) p cs vs q ds ws =
    (r : Region) × (o : ℕ) × (x : Value) × (value_at cs base ≡ Some (Ptr r o)) × (operand_in cs source ≡ Some x) ×
    Stores vs r ((o + extended offset) % 2 ^ 64) (byte_count width) x ws × (q ≡ p + 1) × (ds ≡ cs)
Moves room answer (Jump offset) p cs vs q ds ws = (q ≡ target p offset) × (ds ≡ cs) × (ws ≡ vs)
Moves room answer (JumpLong distance) p cs vs q ds ws = (q ≡ target p distance) × (ds ≡ cs) × (ws ≡ vs)
Moves room answer (Branch bits comparison dst source offset) p cs vs q ds ws =
    (m n : ℕ) × (value_at cs dst ≡ Some (Num m)) × (operand_in cs source ≡ Some (Num n)) ×
    (q ≡ branch_to (is_taken bits comparison m n) p (extended offset)) × (ds ≡ cs) × (ws ≡ vs)
Moves room answer (Call helper) p cs vs q ds ws =
    (n : ℕ) × Holds answer n × (q ≡ p + 1) × (ds ≡ Some (Num n) ∷ None ∷ None ∷ None ∷ None ∷ None ∷ drop 6 cs) ×
    Overwritten room cs vs ws
Moves room answer (CallLocal distance) p cs vs q ds ws = ⊥
Moves room answer Exit p cs vs q ds ws = ⊥

-- an edge to that slot with that frame
abbrev pub Among : ℕ → PlainFrame → List (ℕ × PlainFrame) → Type 0
Among q g [] = ⊥
Among q g (edge ∷ edges) = ((q ≡ edge.0) × (g ≡ edge.1)) ⊎ Among q g edges

-- an edge to that slot, whose frame is true of the registers and of the slots
pub record Reaches (edges : List (ℕ × PlainFrame)) (q : ℕ) (ds ws : List (Option Value)) : Type 0 where
  pub frame : PlainFrame
  pub there : Among q frame edges
  pub holds : HoldsEach frame.registers ds
  pub slots : HoldsEach frame.slots ws
  pub links : HoldsLinks frame ds ws

-- The numbers of a frame are below 2 ^ 64.
abbrev pub KindFits : PlainKind → Type 0
KindFits Unset = Unit {0}
KindFits (kind.Num k) = numbers.Fits k
KindFits (kind.Ptr r k) = numbers.Fits k

-- the same of each kind of a list
abbrev pub EachFits : List PlainKind → Type 0
EachFits [] = Unit {0}
EachFits (x ∷ xs) = KindFits x × EachFits xs

-- What the rules leave of the stack: a load meets no slot that is unset, nor a part of a place; a
-- store is through a pointer, of a number or of a slot; a helper's range has a pointer and a
-- length.
abbrev pub AllowsLoad : Precision → PlainFrame → PlainKind → ℕ → ℕ → Type 0
AllowsLoad precision f x distance w =
    (is_ptr x ≡ true) × (meets Nothing (access_span (stack_place precision x distance) w) 0 f.slots ≡ false) ×
    (kept_kind precision f x distance w ≡ None →
    meets Pointer (access_span (stack_place precision x distance) w) 0 f.slots ≡ false)

-- a helper's range is given by a pointer and a length
abbrev pub AllowsRoom : Option ℕ → PlainFrame → Type 0
AllowsRoom None f = Unit {0}
AllowsRoom (Some k) f = (is_ptr (kind_at f k) ≡ true) × (is_num (kind_at f (k + 1)) ≡ true)

-- so of each instruction
abbrev pub Allows : Precision → Option ℕ → Insn → PlainFrame → Type 0
Allows precision room (Load width dst base offset) f =
    AllowsLoad precision f (kind_at f base) (extended offset) (byte_count width)
Allows precision room (LoadSigned width dst base offset) f =
    AllowsLoad precision f (kind_at f base) (extended offset) (signed_byte_count width) ×
    (meets Pointer (access_span (stack_place precision (kind_at f base) (extended offset)) (signed_byte_count width))
    0 f.slots ≡ false)
Allows precision room (Store width base offset source) f =
    (is_ptr (kind_at f base) ≡ true) × (is_unset (operand_kind f source) ≡ false) ×
    (kept_kind precision f (kind_at f base) (extended offset) (byte_count width) ≡ None →
    is_ptr (operand_kind f source) ≡ false)
Allows precision room (Call helper) f = AllowsRoom room f
Allows precision room i f = Unit {0}

-- What a frame held before an instruction, a frame along an edge holds after it. The frame's links
-- have no names that the instruction gives.
abbrev pub Keeps : Precision → Option ℕ → Plain → Insn → ℕ → PlainFrame → Type 0
Keeps precision room answer i p f =
    Fits i → Allows precision room i f → NamesBelow p f → (cs ds vs ws : List (Option Value)) (q : ℕ) →
    length f.slots ≡ length vs → HoldsEach f.registers cs → HoldsEach f.slots vs → HoldsLinks f cs vs →
    Moves room answer i p cs vs q ds ws → Reaches (flow precision room answer i p f) q ds ws

-- Each slot that w bytes reach is a number, or they are a slot that has a value.
abbrev pub LoadIsKnown : List (Option Value) → Region → ℕ → ℕ → Type 0
LoadIsKnown vs r at w =
    ((j : ℕ) → j < length vs → Reached r at w j → IsNumber (value_at vs j)) ⊎
    ((j : ℕ) × IsSlot vs r at w j × (v : Value) × (value_at vs j ≡ Some v))

-- The rules: which instructions are refused, and where.
use Rattle.std.specs.Prelude.{ℕ, ℤ, ◌+◌, List, [], ◌∷◌, Option, Some, None, Bool, true, false, if◌then◌else◌, ◌==◌}
use Rattle.std.specs.Prelude.{◌&&◌, ◌||◌, not, nat_le, is_some}
use Rattle.std.specs.Int.{is_negative}
use Rattle.bpf_decode.specs.declared.insn.Operand.{Operand}
use Rattle.bpf_decode.specs.declared.insn.Operand.TheVariants.{Immediate, Register}
use Rattle.bpf_decode.specs.declared.insn.Insn.{Insn}
use Rattle.bpf_decode.specs.Instruction.{slot_count}
use Rattle.bpf_decode.specs.declared.rule_set.RuleSet.{RuleSet}
use Rattle.bpf_decode.specs.declared.rule_set.RuleSet.TheVariants.{One, Two, Three}
use Rattle.bpf_machine.specs.declared.caps.Caps.{Caps}
use Rattle.helpers.specs.declared.argument.Argument.{Argument}
use Rattle.helpers.specs.declared.argument.Argument.TheVariants.{Number, OutputLength, Readable, Writable}
use Rattle.helpers.specs.Effect.{Takes}
use Rattle.helpers.specs.Table.{signature_of}
use Rattle.bpf_machine.specs.Typed.{extended, fetch}
use Rattle.verifier.specs.declared.rule.Rule.{Rule}
use Rattle.verifier.specs.declared.rule.Rule.TheVariants.{Backward, Target, FallsOff, LocalCall, UnsetRead, WritesR10}
use Rattle.verifier.specs.declared.rule.Rule.TheVariants.{PointerArithmetic, PointerCompare, PointerStored, Bounds}
use Rattle.verifier.specs.declared.rule.Rule.TheVariants.{ReadOnlyRegion, UnknownHelper, HelperArgument}
use Rattle.verifier.specs.declared.rule.Rule.TheVariants.{WriteHelperInReader, ReturnsPointer, PointerBytes}
use Rattle.verifier.specs.declared.facets.Access.{Access}
use Rattle.verifier.specs.declared.facets.Callee.{Callee}
use Rattle.verifier.specs.declared.facets.Callee.TheVariants as callee
use Rattle.verifier.specs.declared.facets.Goes.{Goes}
use Rattle.verifier.specs.declared.facets.Goes.TheVariants as goes
use Rattle.verifier.specs.declared.facets.Reads.{Reads}
use Rattle.verifier.specs.declared.facets.Reads.TheVariants as reads
use Rattle.verifier.specs.declared.facets.Touches.{Touches}
use Rattle.verifier.specs.declared.facets.Touches.TheVariants as touches
use Rattle.verifier.specs.declared.facets.Uses.{Uses}
use Rattle.verifier.specs.declared.facets.Uses.TheVariants as uses
use Rattle.verifier.specs.declared.fault.Fault.{Fault}
use Rattle.verifier.specs.declared.fault.Fault.TheVariants.{NotSet, OutOfRegion, ReadOnly, WrongKind, HasPointer}
use Rattle.abstract_regs.specs.Kind.{PlainKind, is_unset, is_num, is_ptr}
use Rattle.abstract_regs.specs.declared.content.Content.{Content}
use Rattle.abstract_regs.specs.declared.content.Content.TheVariants.{Nothing, Pointer}
use Rattle.abstract_regs.specs.Slots.{stack_place, stack_range, access_span, meets}
use Rattle.verifier.specs.Facets.{goes_of, writes_of, reads_of, uses_of, touches_of, callee_of}
use Rattle.verifier.specs.Frame.{precision_of}
use Rattle.verifier.specs.Kind.{alu_refused, mov_refused, stays, is_read_only, is_at_most, range_leaves}
use Rattle.verifier.specs.Kind.{range_is_read_only}
use Rattle.abstract_regs.specs.Frame.{PlainFrame, kind_at, operand_kind, kept_kind}
use Rattle.abstract_regs.specs.Flow.{target}

-- What is read of the stack: a load of w bytes that stays in its region, or a helper's range that
-- does, may touch a slot of which nothing is known, or one with a pointer.
abbrev pub load_meets : RuleSet → Content → Caps → PlainFrame → PlainKind → ℕ → ℕ → Bool
load_meets rules content caps f x distance w =
    meets content (access_span (stack_place (precision_of rules) x distance) w) 0 f.slots &&
    stays (precision_of rules) caps x distance w

-- the same of a helper's range
abbrev pub range_meets : Content → Caps → PlainFrame → PlainKind → PlainKind → Bool
range_meets content caps f x y = meets content (stack_range x y) 0 f.slots && not (range_leaves caps x y)

-- an instruction begins at the slot
abbrev pub begins_at : List (Option Insn) → ℕ → Bool
begins_at code q = is_some (fetch code q)

-- a jump's distance, if it has one, passes a test
abbrev pub jumps : (ℤ → Bool) → Goes → Bool
jumps test goes.On = false
jumps test (goes.To distance) = test distance
jumps test (goes.Either distance) = test distance
jumps test goes.Out = false

-- it may go on to the instruction after it
abbrev pub falls : Goes → Bool
falls goes.On = true
falls (goes.To distance) = false
falls (goes.Either distance) = true
falls goes.Out = false

-- a function of the program itself is called
abbrev pub is_local : Callee → Bool
is_local callee.Nothing = false
is_local (callee.Helper helper) = false
is_local callee.Local = true

-- it jumps to itself or to an instruction before it
abbrev pub is_backward : Insn → Bool
is_backward i = jumps is_negative (goes_of i)

-- its target is past the last slot or in a wide load's second half
abbrev pub misses : List (Option Insn) → ℕ → Insn → Bool
misses code p i = jumps (λ distance. not (begins_at code (target p distance))) (goes_of i)

-- the last instruction, which nothing begins after, goes on to the slot after it
abbrev pub falls_off : List (Option Insn) → ℕ → Insn → Bool
falls_off code p i = falls (goes_of i) && not (begins_at code (p + slot_count i))

-- it calls a function of the program itself
abbrev pub is_local_call : Insn → Bool
is_local_call i = is_local (callee_of i)

-- the greatest id of a helper of the rule set
abbrev pub last_helper : RuleSet → ℕ
last_helper One = 15
last_helper Two = 15
last_helper Three = 18

-- what a helper takes, if the rule set has a helper of that id
abbrev pub takes_of : RuleSet → ℕ → Option Takes
takes_of rules helper = if nat_le helper (last_helper rules) then signature_of helper else None

-- A helper's argument that it takes from register k on, and what may be wrong with it.
abbrev pub has_fault : Caps → PlainFrame → Fault → Argument → ℕ → Bool
has_fault caps f NotSet Number k = is_unset (kind_at f k)
has_fault caps f NotSet OutputLength k = is_unset (kind_at f k)
has_fault caps f NotSet Readable k = (is_unset (kind_at f k) || is_unset (kind_at f (k + 1))) ||
    range_meets Nothing caps f (kind_at f k) (kind_at f (k + 1))
has_fault caps f NotSet Writable k = is_unset (kind_at f k) || is_unset (kind_at f (k + 1))
has_fault caps f OutOfRegion Number k = false
has_fault caps f OutOfRegion OutputLength k = false
has_fault caps f OutOfRegion Readable k = range_leaves caps (kind_at f k) (kind_at f (k + 1))
has_fault caps f OutOfRegion Writable k = range_leaves caps (kind_at f k) (kind_at f (k + 1))
has_fault caps f ReadOnly Number k = false
has_fault caps f ReadOnly OutputLength k = false
has_fault caps f ReadOnly Readable k = false
has_fault caps f ReadOnly Writable k = range_is_read_only (kind_at f k) (kind_at f (k + 1))
has_fault caps f HasPointer Number k = false
has_fault caps f HasPointer OutputLength k = false
has_fault caps f HasPointer Readable k = range_meets Pointer caps f (kind_at f k) (kind_at f (k + 1))
has_fault caps f HasPointer Writable k = false
has_fault caps f WrongKind Number k = not (is_num (kind_at f k))
has_fault caps f WrongKind OutputLength k = not (is_at_most caps.out_cap (kind_at f k))
has_fault caps f WrongKind Readable k = not (is_ptr (kind_at f k)) || not (is_num (kind_at f (k + 1)))
has_fault caps f WrongKind Writable k = not (is_ptr (kind_at f k)) || not (is_num (kind_at f (k + 1)))

-- how many registers an argument takes
abbrev pub register_count : Argument → ℕ
register_count Number = 1
register_count OutputLength = 1
register_count Readable = 2
register_count Writable = 2

-- one of the arguments from register k on has the fault
abbrev pub some_fault : Caps → PlainFrame → Fault → List Argument → ℕ → Bool
some_fault caps f fault [] k = false
some_fault caps f fault (a ∷ more) k = has_fault caps f fault a k || some_fault caps f fault more (k + register_count a)

-- the same of what a helper takes
abbrev pub taken_fault : Caps → PlainFrame → Fault → Option Takes → Bool
taken_fault caps f fault None = false
taken_fault caps f fault (Some takes) = some_fault caps f fault takes.arguments 1

-- an argument of the helper has the fault; an id that is no helper's in the rule set takes none
abbrev pub call_fault : RuleSet → Caps → PlainFrame → Fault → ℕ → Bool
call_fault rules caps f fault helper = taken_fault caps f fault (takes_of rules helper)

-- the first register of the range that a helper writes: no helper has two
abbrev pub room_in : List Argument → ℕ → Option ℕ
room_in [] k = None
room_in (Number ∷ more) k = room_in more (k + 1)
room_in (OutputLength ∷ more) k = room_in more (k + 1)
room_in (Readable ∷ more) k = room_in more (k + 2)
room_in (Writable ∷ more) k = Some k

-- the same by what a helper takes, by what is called, and by the instruction:
abbrev pub room_of_takes : Option Takes → Option ℕ
room_of_takes None = None
room_of_takes (Some takes) = room_in takes.arguments 1

abbrev pub room_of_call : Callee → Option ℕ
room_of_call callee.Nothing = None
room_of_call (callee.Helper helper) = room_of_takes (signature_of helper)
room_of_call callee.Local = None

abbrev pub room_of : Insn → Option ℕ
room_of i = room_of_call (callee_of i)

-- The tests of the facets: a helper that is called has an argument with the fault,
abbrev pub asks : RuleSet → Caps → PlainFrame → Fault → Callee → Bool
asks rules caps f fault callee.Nothing = false
asks rules caps f fault (callee.Helper helper) = call_fault rules caps f fault helper
asks rules caps f fault callee.Local = false

-- the helper that is called has an id that is none of the rule set's,
abbrev pub is_unknown : RuleSet → Callee → Bool
is_unknown rules callee.Nothing = false
is_unknown rules (callee.Helper helper) = not (is_some (takes_of rules helper))
is_unknown rules callee.Local = false

-- what a helper takes says that it may change the object
abbrev pub writes_object : Option Takes → Bool
writes_object None = false
writes_object (Some takes) = takes.writes

-- may change the object,
abbrev pub may_write : RuleSet → Callee → Bool
may_write rules callee.Nothing = false
may_write rules (callee.Helper helper) = writes_object (takes_of rules helper)
may_write rules callee.Local = false

-- an operand is an unset register
abbrev pub operand_is_unset : PlainFrame → Operand → Bool
operand_is_unset f (Immediate imm) = false
operand_is_unset f (Register r) = is_unset (kind_at f r)

-- a register that is read is unset,
abbrev pub unset_among : PlainFrame → Reads → Bool
unset_among f reads.Nothing = false
unset_among f (reads.One x) = operand_is_unset f x
unset_among f (reads.Two x y) = operand_is_unset f x || operand_is_unset f y
unset_among f reads.Answer = is_unset (kind_at f 0)

-- register 10 is written,
abbrev pub is_r10 : Option ℕ → Bool
is_r10 None = false
is_r10 (Some r) = r == 10

-- arithmetic uses a pointer, other than a copy, or a number added to it or subtracted from it, each
-- in 64 bits,
abbrev pub computed_pointer : PlainFrame → Uses → Bool
computed_pointer f uses.Nothing = false
computed_pointer f (uses.Computes bits operation dst x) = alu_refused bits operation (kind_at f dst) (operand_kind f x)
computed_pointer f (uses.Changes r) = is_ptr (kind_at f r)
computed_pointer f (uses.Copies bits x) = mov_refused bits (operand_kind f x)
computed_pointer f (uses.Compares dst x) = false
computed_pointer f uses.Answers = false

-- a comparison has a pointer on one side,
abbrev pub compared_pointer : PlainFrame → Uses → Bool
compared_pointer f uses.Nothing = false
compared_pointer f (uses.Computes bits operation dst x) = false
compared_pointer f (uses.Changes r) = false
compared_pointer f (uses.Copies bits x) = false
compared_pointer f (uses.Compares dst x) = is_ptr (kind_at f dst) || is_ptr (operand_kind f x)
compared_pointer f uses.Answers = false

-- the method ends with a pointer in register 0,
abbrev pub answered_pointer : PlainFrame → Uses → Bool
answered_pointer f uses.Nothing = false
answered_pointer f (uses.Computes bits operation dst x) = false
answered_pointer f (uses.Changes r) = false
answered_pointer f (uses.Copies bits x) = false
answered_pointer f (uses.Compares dst x) = false
answered_pointer f uses.Answers = is_ptr (kind_at f 0)

-- an access may leave its region, or is through a number,
abbrev pub access_leaves : RuleSet → Caps → PlainFrame → Access → Bool
access_leaves rules caps f a = not (stays (precision_of rules) caps (kind_at f a.base) (extended a.offset) a.bytes)

-- a load or a store does so,
abbrev pub leaves : RuleSet → Caps → PlainFrame → Touches → Bool
leaves rules caps f touches.Nothing = false
leaves rules caps f (touches.Loads a) = access_leaves rules caps f a
leaves rules caps f (touches.Stores a x) = access_leaves rules caps f a

-- a store is into a region that is read only,
abbrev pub stores_read_only : PlainFrame → Touches → Bool
stores_read_only f touches.Nothing = false
stores_read_only f (touches.Loads a) = false
stores_read_only f (touches.Stores a x) = is_read_only (kind_at f a.base)

-- an access is one whole slot of the stack that is known,
abbrev pub is_slot : RuleSet → PlainFrame → Access → Bool
is_slot rules f a = is_some (kept_kind (precision_of rules) f (kind_at f a.base) (extended a.offset) a.bytes)

-- a pointer is stored, other than whole in such a slot,
abbrev pub stored_pointer : RuleSet → PlainFrame → Touches → Bool
stored_pointer rules f touches.Nothing = false
stored_pointer rules f (touches.Loads a) = false
stored_pointer rules f (touches.Stores a (Immediate imm)) = false
stored_pointer rules f (touches.Stores a (Register src)) = is_ptr (kind_at f src) && not (is_slot rules f a)

-- a load may touch a slot of the stack that is unset,
abbrev pub loads_unset : RuleSet → Caps → PlainFrame → Touches → Bool
loads_unset rules caps f touches.Nothing = false
loads_unset rules caps f (touches.Loads a) =
    load_meets rules Nothing caps f (kind_at f a.base) (extended a.offset) a.bytes
loads_unset rules caps f (touches.Stores a x) = false

-- a load that isn't one whole known slot may touch a pointer in the stack
abbrev pub loads_pointer : RuleSet → Caps → PlainFrame → Touches → Bool
loads_pointer rules caps f touches.Nothing = false
loads_pointer rules caps f (touches.Loads a) =
    not (is_slot rules f a) && load_meets rules Pointer caps f (kind_at f a.base) (extended a.offset) a.bytes
loads_pointer rules caps f (touches.Stores a x) = false

-- The rules of the frame.
abbrev pub reads_unset : RuleSet → Caps → PlainFrame → Insn → Bool
reads_unset rules caps f i =
    unset_among f (reads_of i) || (loads_unset rules caps f (touches_of i) || asks rules caps f NotSet (callee_of i))

-- register 10 as the destination
abbrev pub writes_r10 : Insn → Bool
writes_r10 i = is_r10 (writes_of i)

-- arithmetic with a pointer, but for the few operations that keep it one
abbrev pub computes_with_pointer : PlainFrame → Insn → Bool
computes_with_pointer f i = computed_pointer f (uses_of i)

-- a comparison of a pointer
abbrev pub compares_pointer : PlainFrame → Insn → Bool
compares_pointer f i = compared_pointer f (uses_of i)

-- a store of a pointer, other than whole in a known slot of the stack
abbrev pub stores_pointer : RuleSet → PlainFrame → Insn → Bool
stores_pointer rules f i = stored_pointer rules f (touches_of i)

-- a load, a store or a helper's range that may leave its region; a load or store through a number
abbrev pub leaves_region : RuleSet → Caps → PlainFrame → Insn → Bool
leaves_region rules caps f i = leaves rules caps f (touches_of i) || asks rules caps f OutOfRegion (callee_of i)

-- a store, or a helper's range that it writes, in a region that is read only
abbrev pub writes_read_only : RuleSet → Caps → PlainFrame → Insn → Bool
writes_read_only rules caps f i = stores_read_only f (touches_of i) || asks rules caps f ReadOnly (callee_of i)

-- a call of an id that is no helper's in the rule set
abbrev pub calls_unknown : RuleSet → Insn → Bool
calls_unknown rules i = is_unknown rules (callee_of i)

-- a call of a helper with an argument of the wrong kind
abbrev pub passes_wrong_kind : RuleSet → Caps → PlainFrame → Insn → Bool
passes_wrong_kind rules caps f i = asks rules caps f WrongKind (callee_of i)

-- a helper that may change the object, in a method that may not
abbrev pub writes_in_reader : RuleSet → Caps → Insn → Bool
writes_in_reader rules caps i = may_write rules (callee_of i) && not caps.writes

-- an exit with a pointer in register 0
abbrev pub returns_pointer : PlainFrame → Insn → Bool
returns_pointer f i = answered_pointer f (uses_of i)

-- a load of a part of a pointer, or a helper's range with one
abbrev pub reads_pointer : RuleSet → Caps → PlainFrame → Insn → Bool
reads_pointer rules caps f i = loads_pointer rules caps f (touches_of i) || asks rules caps f HasPointer (callee_of i)

-- a test of the frame, if there is one
abbrev pub under : Option PlainFrame → (PlainFrame → Bool) → Bool
under None test = false
under (Some f) test = test f

-- The table of rules, by their numbers: 1 to 4, of the shape of the code, whether a rule refuses
-- instruction i at slot p,
abbrev pub breaks_shape : List (Option Insn) → ℕ → Insn → Rule → Bool
breaks_shape code p i Backward = is_backward i
breaks_shape code p i Target = misses code p i
breaks_shape code p i FallsOff = falls_off code p i
breaks_shape code p i LocalCall = is_local_call i
breaks_shape code p i rule = false

-- and 5 to 15 and 17, of what is known before it
abbrev pub breaks_frame : RuleSet → Caps → PlainFrame → Insn → Rule → Bool
breaks_frame rules caps f i UnsetRead = reads_unset rules caps f i
breaks_frame rules caps f i WritesR10 = writes_r10 i
breaks_frame rules caps f i PointerArithmetic = computes_with_pointer f i
breaks_frame rules caps f i PointerCompare = compares_pointer f i
breaks_frame rules caps f i PointerStored = stores_pointer rules f i
breaks_frame rules caps f i Bounds = leaves_region rules caps f i
breaks_frame rules caps f i ReadOnlyRegion = writes_read_only rules caps f i
breaks_frame rules caps f i UnknownHelper = calls_unknown rules i
breaks_frame rules caps f i HelperArgument = passes_wrong_kind rules caps f i
breaks_frame rules caps f i WriteHelperInReader = writes_in_reader rules caps i
breaks_frame rules caps f i ReturnsPointer = returns_pointer f i
breaks_frame rules caps f i PointerBytes = reads_pointer rules caps f i
breaks_frame rules caps f i rule = false

-- whether a rule refuses instruction i at slot p, if there is such a frame
abbrev pub breaks : RuleSet → Caps → List (Option Insn) → ℕ → Insn → Option PlainFrame → Rule → Bool
breaks rules caps code p i None rule = breaks_shape code p i rule
breaks rules caps code p i (Some f) rule = breaks_shape code p i rule || breaks_frame rules caps f i rule

-- the rules in the order of their numbers
abbrev pub shape_rules : List Rule
shape_rules = Backward ∷ Target ∷ FallsOff ∷ LocalCall ∷ []

abbrev pub frame_rules : List Rule
frame_rules =
    UnsetRead ∷ WritesR10 ∷ PointerArithmetic ∷ PointerCompare ∷ PointerStored ∷ Bounds ∷ ReadOnlyRegion ∷
    UnknownHelper ∷ HelperArgument ∷ WriteHelperInReader ∷ ReturnsPointer ∷ PointerBytes ∷ []

-- the first rule of a list that a test finds broken
abbrev pub first_broken : (Rule → Bool) → List Rule → Option Rule
first_broken test [] = None
first_broken test (rule ∷ rules) = if test rule then Some rule else first_broken test rules

-- the lowest rule of the shape that refuses an instruction at a slot
abbrev pub shape_rule : List (Option Insn) → ℕ → Insn → Option Rule
shape_rule code p i = first_broken (breaks_shape code p i) shape_rules

-- the lowest rule that refuses it under a frame
abbrev pub frame_rule : RuleSet → Caps → PlainFrame → Insn → Option Rule
frame_rule rules caps f i = first_broken (breaks_frame rules caps f i) frame_rules

-- a rule that is found already, or else the one that is found under the frame, if there is one
abbrev pub else_under : Option Rule → Option PlainFrame → (PlainFrame → Option Rule) → Option Rule
else_under (Some rule) frame rule_of = Some rule
else_under None None rule_of = None
else_under None (Some f) rule_of = rule_of f

-- the lowest rule that refuses an instruction at a slot
abbrev pub rule_at : RuleSet → Caps → List (Option Insn) → ℕ → Insn → Option PlainFrame → Option Rule
rule_at rules caps code p i frame = else_under (shape_rule code p i) frame (λ f. frame_rule rules caps f i)

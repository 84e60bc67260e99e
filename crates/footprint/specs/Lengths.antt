-- How long the list of a run is: the bytes of a helper's edits and of a whole run's, and which runs
-- leave none.
use Rattle.std.specs.Prelude.{◌≡◌, ℕ, ◌+◌, ◌*◌, ◌^◌, ◌<◌, ◌≤◌, max, List, [], Some, true, false, length}
use Rattle.std.specs.List.{AllByRecursion}
use Rattle.bpf_decode.specs.declared.insn.Insn.{Insn}
use Rattle.bpf_decode.specs.declared.insn.Insn.TheVariants.{Call}
use Rattle.bpf_decode.specs.declared.rule_set.RuleSet.{RuleSet}
use Rattle.bpf_decode.specs.declared.rule_set.RuleSet.TheVariants.{One, Two, Three}
use Rattle.bpf_decode.specs.Class.{ClassMethod, IsMethod, IsWithinSet}
use Rattle.bpf_decode.specs.Instruction.{spelling, slots}
use Rattle.object_store.specs.declared.limits.TheConstants.{NAME_LIMIT, VALUE_LIMIT}
use Rattle.object_store.specs.Object.{PlainObject}
use Rattle.txn.specs.Edits.{Edit, spelled}
use Rattle.helpers.specs.Effect.{Given, text}
use Rattle.helpers.specs.Edits.{edits}
use Rattle.bpf_machine.specs.declared.caps.Caps.{Caps}
use Rattle.bpf_machine.specs.declared.limits.TheConstants.{STACK_SIZE}
use Rattle.bpf_machine.specs.State.{State, Outcome, reg}
use Rattle.bpf_machine.specs.Flat.{Layout, step, Chain}
use Rattle.bpf_machine.specs.Lists.{ListsAtExit, Lists, listed_entry}
use Rattle.bpf_machine.specs.Typed.{fetch}
use Rattle.bpf_machine.specs.Safe.{caps_of}
use Rattle.footprint.specs.Calls.{may_change}

-- the bytes of a list as it is written
abbrev pub list_length : List Edit → ℕ
list_length es = length (spelled es)

-- The edits of a helper have at most 14 bytes beside the name and the text that it was given.
abbrev pub EditsAreShort : Type 0
EditsAreShort =
    (id : ℕ) (object : PlainObject) (g : Given) →
    list_length (edits id object g) ≤ 14 + (length (text g 0) + length (text g 1))

-- In the run from a state each helper that may change the object answers a negative number.
abbrev pub ChangesNothing : Caps → Layout → List Insn → State ℕ → Type 0
ChangesNothing caps lay is first =
    (n : ℕ) (s t : State ℕ) (id answer : ℕ) → Chain caps lay (spelling is) n first s →
    fetch (slots is) s.slot ≡ Some (Call id) → may_change id ≡ true → step caps lay (spelling is) s ≡ Some t →
    reg t 0 ≡ Some answer → 2 ^ 63 ≤ answer

-- Such a run leaves the empty list.
abbrev pub NoChangeLeavesNothing : Type 0
NoChangeLeavesNothing =
    (m : ClassMethod) → IsMethod m → (lay : Layout) (object : PlainObject) (caller : ℕ) (input : List ℕ)
    (outcome : Outcome) (steps : ℕ) (list : List Edit) →
    ChangesNothing (caps_of m) lay m.instructions (listed_entry (caps_of m) lay object caller input) →
    ListsAtExit (caps_of m) lay (spelling m.instructions) object (listed_entry (caps_of m) lay object caller input)
    outcome steps list → list ≡ []

-- an instruction that calls no helper which may change the object
abbrev pub OnlyReads : Insn → Type 0
OnlyReads (Call id) = may_change id ≡ false
OnlyReads i = Unit {0}

-- The runs of code that has no other instructions leave the empty list.
abbrev pub ReadersLeaveNothing : Type 0
ReadersLeaveNothing =
    (m : ClassMethod) → IsMethod m → AllByRecursion OnlyReads m.instructions →
    (object : PlainObject) (caller : ℕ) (input : List ℕ) (outcome : Outcome) (steps : ℕ) (list : List Edit) →
    Lists m object caller input outcome steps list → list ≡ []

-- ---- of a whole run
-- the length of the longest region: no helper is given a longer text
abbrev pub longest_text : Caps → ℕ
longest_text caps = max STACK_SIZE (max caps.in_cap caps.out_cap)

-- no call leaves more bytes: a text of that length, or a name and a value, and 14
abbrev pub most_of_call : Caps → ℕ
most_of_call caps = 14 + max (longest_text caps) (NAME_LIMIT + VALUE_LIMIT)

-- A helper that is given a text beside a number or a name takes registers 1 to 3. Each call unsets
-- these, and any other step sets one register at most. So of four steps one alone leaves so many
-- bytes, but for the first call, which may find the registers as the method began.
abbrev pub ListsAreBounded : Type 0
ListsAreBounded =
    (m : ClassMethod) → IsMethod m → (lay : Layout) (object : PlainObject) (caller : ℕ) (input : List ℕ)
    (outcome : Outcome) (steps : ℕ) (list : List Edit) →
    ListsAtExit (caps_of m) lay (spelling m.instructions) object (listed_entry (caps_of m) lay object caller input)
    outcome steps list → 4 * list_length list ≤ most_of_call (caps_of m) * (steps + 2)

-- a number of bytes for each rule set
abbrev pub list_limit : RuleSet → ℕ
list_limit One = 4300000
list_limit Two = 4300000
list_limit Three = 68000000

-- Each list of a method whose capacities the rule set allows is shorter, if the run has no more
-- steps than the method has instructions. A safe method's run has not.
abbrev pub ListsAreShort : Type 0
ListsAreShort =
    (rules : RuleSet) (m : ClassMethod) → IsMethod m → IsWithinSet rules m →
    (object : PlainObject) (caller : ℕ) (input : List ℕ) (outcome : Outcome) (steps : ℕ) (list : List Edit) →
    steps ≤ length m.instructions → Lists m object caller input outcome steps list → list_length list < list_limit rules

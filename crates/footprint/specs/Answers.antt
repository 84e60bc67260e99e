-- The list of a run is decided by what its helpers answer, once it is known whether there is an
-- object: whatever else the object holds shows in an answer, or not in the list.
use Rattle.std.specs.Prelude.{◌≡◌, ℕ, zero, suc, List, [], ◌∷◌, ◌++◌, Option, Some, None, is_some}
use Rattle.bpf_decode.specs.declared.insn.Insn.{Insn}
use Rattle.bpf_decode.specs.declared.insn.Insn.TheVariants.{Call}
use Rattle.bpf_decode.specs.Class.{ClassMethod, IsMethod}
use Rattle.bpf_decode.specs.Instruction.{spelling, slots}
use Rattle.object_store.specs.Object.{PlainObject}
use Rattle.txn.specs.Edits.{Edit}
use Rattle.helpers.specs.Table.{effect}
use Rattle.bpf_machine.specs.declared.caps.Caps.{Caps}
use Rattle.bpf_machine.specs.State.{State, Outcome}
use Rattle.bpf_machine.specs.Helper.{Given, asked}
use Rattle.bpf_machine.specs.Flat.{Layout, IsLayout, step}
use Rattle.bpf_machine.specs.Lists.{ListsAtExit, Lists, listed_entry}
use Rattle.bpf_machine.specs.Typed.{fetch}
use Rattle.bpf_machine.specs.Safe.{caps_of}
use Rattle.footprint.specs.Calls.{given_in}

-- what a helper answers: the number that comes to stand in register 0, and the bytes that it writes
-- into the method's memory
pub record Answered : Type 0 where
  pub number : ℕ
  pub bytes : List ℕ

-- the answer of the helper of an id on an object, if it was given something
abbrev pub answer_to : ℕ → PlainObject → Option Given → List Answered
answer_to id object None = []
answer_to id object (Some g) =
    let e = effect id object (asked g) in record { number = e.answer; bytes = e.bytes } ∷ []

-- the rest of a run's answers, where it goes on
abbrev pub then_answers : Option (State ℕ) → (State ℕ → List Answered) → List Answered
then_answers None more = []
then_answers (Some t) more = more t

module _ (caps : Caps) (lay : Layout) where
  -- the answer at an instruction, if it is a call of a helper
  abbrev pub answers_at : Option Insn → State ℕ → List Answered
  answers_at (Some (Call id)) s = answer_to id s.object (given_in caps lay id s)
  answers_at i s = []

  -- The answers of the helpers that code calls in the first steps of the run from a state, that
  -- many, in order.
  abbrev pub answers : List Insn → ℕ → State ℕ → List Answered
  answers is zero s = []
  answers is (suc n) s =
      answers_at (fetch (slots is) s.slot) s ++ then_answers (step caps lay (spelling is) s) (answers is n)

-- the answers of a method's run of that many steps on an object, where the regions lie so
abbrev pub run_answers : ClassMethod → Layout → PlainObject → ℕ → List ℕ → ℕ → List Answered
run_answers m lay object caller input steps =
    answers (caps_of m) lay m.instructions steps (listed_entry (caps_of m) lay object caller input)

-- The run on another object ends with this outcome but for the object after, and so many steps and
-- this list; there is an object after it exactly if there is one after the first.
pub record EndsAlike (m : ClassMethod) (lay : Layout) (other : PlainObject) (caller : ℕ) (input : List ℕ)
    (outcome : Outcome) (steps : ℕ) (list : List Edit) : Type 0 where
  pub after : PlainObject
  pub there : is_some outcome.object ≡ is_some after
  pub lists : ListsAtExit (caps_of m) lay (spelling m.instructions) other
      (listed_entry (caps_of m) lay other caller input) (record outcome { object = after }) steps list

-- Of two objects, both absent or both there: if the run on one ends, and in as many steps of the
-- run on the other the helpers answer the same, one after the other, then that run ends alike.
abbrev pub AnswersDecideRuns : Type 0
AnswersDecideRuns =
    (m : ClassMethod) → IsMethod m → (lay : Layout) (one other : PlainObject) → is_some one ≡ is_some other →
    (caller : ℕ) (input : List ℕ) (outcome : Outcome) (steps : ℕ) (list : List Edit) →
    ListsAtExit (caps_of m) lay (spelling m.instructions) one (listed_entry (caps_of m) lay one caller input) outcome
    steps list →
    run_answers m lay one caller input steps ≡ run_answers m lay other caller input steps →
    EndsAlike m lay other caller input outcome steps list

-- two runs that end with the same code, output, steps and list, and both with an object or both
-- with none
pub record AreAlike (p q : Outcome) (j k : ℕ) (a b : List Edit) : Type 0 where
  pub code : p.code ≡ q.code
  pub output : p.output ≡ q.output
  pub there : is_some p.object ≡ is_some q.object
  pub steps : j ≡ k
  pub list : a ≡ b

-- Of two such objects: two runs that end, and whose helpers answer the same in some layout, are
-- alike.
abbrev pub AnswersDecideLists : Type 0
AnswersDecideLists =
    (m : ClassMethod) → IsMethod m → (one other : PlainObject) → is_some one ≡ is_some other →
    (caller : ℕ) (input : List ℕ) (p q : Outcome) (j k : ℕ) (a b : List Edit) →
    Lists m one caller input p j a → Lists m other caller input q k b →
    (lay : Layout) → IsLayout (caps_of m) lay →
    run_answers m lay one caller input j ≡ run_answers m lay other caller input k → AreAlike p q j k a b

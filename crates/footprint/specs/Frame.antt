-- The frame law: the parts that a method doesn't need may be left out.
use Rattle.std.specs.Prelude.{◌≡◌, ℕ, List, Ok}
use Rattle.bpf_decode.specs.Class.{ClassMethod, IsMethod}
use Rattle.object_store.specs.Object.{PlainObject}
use Rattle.txn.specs.Edits.{Edit, all_edited}
use Rattle.bpf_machine.specs.State.{Outcome}
use Rattle.bpf_machine.specs.Lists.{Lists}
use Rattle.bpf_machine.specs.Safe.{RunsTo}
use Rattle.footprint.specs.declared.parts.Parts.{Parts}
use Rattle.footprint.specs.Parts.{reduced, restored, Covers}
use Rattle.footprint.specs.Needed.{needed}

-- the outcome with the parts that aren't kept from the whole object
abbrev pub whole_outcome : Parts → PlainObject → Outcome → Outcome
whole_outcome kept whole o = record { code = o.code; output = o.output; object = restored kept whole o.object }

-- The run on the whole object has this outcome but for the parts that aren't kept: those it leaves
-- as they were, and the run on the object without them put nothing there.
pub record Frames (m : ClassMethod) (kept : Parts) (whole : PlainObject) (caller : ℕ) (input : List ℕ)
    (outcome : Outcome) (steps : ℕ) : Type 0 where
  pub runs : RunsTo m whole caller input (whole_outcome kept whole outcome) steps
  pub empty : reduced kept outcome.object ≡ outcome.object

-- Of every method within the limits and all parts that its code needs, or more: if the run on an
-- object that has only these ends, so does the run on the whole object.
abbrev pub FrameLaw : Type 0
FrameLaw =
    (m : ClassMethod) → IsMethod m → (kept : Parts) → Covers kept (needed m.instructions) →
    (whole : PlainObject) (caller : ℕ) (input : List ℕ) (outcome : Outcome) (steps : ℕ) →
    RunsTo m (reduced kept whole) caller input outcome steps → Frames m kept whole caller input outcome steps

-- The list of the run on the whole object is that of the run on the object without the parts that
-- aren't kept. Its edits make of the whole object the one that the run on it leaves, and none of
-- them is refused.
pub record ListFrames (m : ClassMethod) (kept : Parts) (whole : PlainObject) (caller : ℕ) (input : List ℕ)
    (outcome : Outcome) (steps : ℕ) (list : List Edit) : Type 0 where
  pub lists : Lists m whole caller input (whole_outcome kept whole outcome) steps list
  pub leads : all_edited list whole ≡ Ok (restored kept whole outcome.object)

-- Of every such method, if the edits of the run on the needed parts make of them what it leaves.
abbrev pub ListFrameLaw : Type 0
ListFrameLaw =
    (m : ClassMethod) → IsMethod m → (kept : Parts) → Covers kept (needed m.instructions) →
    (whole : PlainObject) (caller : ℕ) (input : List ℕ) (outcome : Outcome) (steps : ℕ) (list : List Edit) →
    Lists m (reduced kept whole) caller input outcome steps list →
    all_edited list (reduced kept whole) ≡ Ok outcome.object →
    ListFrames m kept whole caller input outcome steps list

-- What is made of an object, and how a call by a budget on all of it ends.
use Rattle.std.specs.Prelude.{◌≡◌, ℕ, List, Ok}
use Rattle.object_store.specs.Object.{PlainObject, IsObject}
use Rattle.txn.specs.Edits.{Edit, all_edited, spelled}
use Rattle.parts.specs.declared.stop.Stop.{Stop}
use Rattle.parts.specs.declared.stop.Stop.TheVariants.{NoMemory, Full, Needs}
use Rattle.interp.specs.declared.outcome.Outcome.{Outcome}
use Rattle.part_calls.specs.declared.answer.PartAnswer.{PartAnswer}

-- the bytes spell edits of which none is refused, and which make this object of that one
pub record Makes (bytes : List ℕ) (before after : PlainObject) : Type 0 where
  pub list : List Edit
  pub leads : all_edited list before ≡ Ok after
  pub spells : spelled list ≡ bytes

-- nothing more is needed
abbrev pub IsNoNeed : Stop → Type 0
IsNoNeed NoMemory = Unit {0}
IsNoNeed Full = Unit {0}
IsNoNeed (Needs need) = ⊥

-- the outcome of an answer: its code, output and steps, and the change that its edits make of the object
pub record IsOutcomeOf (given : PlainObject) (a : PartAnswer) (o : Outcome) : Type 0 where
  pub code : o.code ≡ a.code
  pub output : o.output.items ≡ a.output.items
  pub steps : o.steps ≡ a.steps
  pub before : o.change.before ≡ given
  pub after : (p : PlainObject) → Makes a.edits.items given p → o.change.after ≡ p
  pub within : IsObject o.change.after

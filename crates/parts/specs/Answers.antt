-- What an answer on a part is to each object that it may be.
use Rattle.std.specs.Prelude.{◌≡◌, ℕ, List, IsTrue}
use Rattle.object_store.specs.Object.{PlainObject}
use Rattle.txn.specs.Edits.{Edit, noted}
use Rattle.helpers.specs.Effect.{Answer, Effect}
use Rattle.helpers.specs.Edits.{if_done}
use Rattle.helpers.specs.declared.answer.HelperAnswer.{HelperAnswer}
use Rattle.part_names.specs.Known.{PlainNames}
use Rattle.part_names.specs.Order.{is_held}
use Rattle.parts.specs.Known.{KnownObject, Stands}

-- A helper that looks something up: of each object it answers this number, and copies these bytes.
pub record Finds (answer : PlainObject → Answer) (k : KnownObject) (found : HelperAnswer) : Type 0 where
  pub number : (o : PlainObject) → Stands k o → found.number ≡ (answer o).number
  pub bytes : (o : PlainObject) → Stands k o → found.bytes.now ≡ (answer o).bytes

-- where all names were known, all are
abbrev pub StayKnown : PlainNames → PlainNames → Type 0
StayKnown old new =
    ((name : List ℕ) → IsTrue (is_held old.intervals name)) → (name : List ℕ) → IsTrue (is_held new.intervals name)

-- A helper that may change the object: of each object it answers this number; what is known afterwards stands for the
-- object that it leaves, and the list goes on with its edits. Where all names were known, all are.
pub record Changes (effect : PlainObject → Effect) (edits : PlainObject → List Edit) (old new : KnownObject)
    (answer : ℕ) : Type 0 where
  pub number : (o : PlainObject) → Stands old o → answer ≡ (effect o).answer
  pub object : (o : PlainObject) → Stands old o → Stands new (effect o).object
  pub list : (o : PlainObject) → Stands old o → new.list ≡ noted (if_done answer (edits o)) old.list
  pub xattrs : StayKnown old.xattrs new.xattrs
  pub keys : StayKnown old.keys new.keys

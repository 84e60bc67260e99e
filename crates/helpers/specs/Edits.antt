-- The edits of each helper: what it leaves in the list of a run. A helper that answers a negative
-- number leaves none.
use Rattle.std.specs.Prelude.{◌≡◌, ℕ, ◌^◌, List, [], ◌∷◌, Option, Some, None, Ok, if◌then◌else◌, nat_lt}
use Rattle.object_store.specs.Object.{PlainObject}
use Rattle.object_store.specs.Limits.{profile, IsLimits}
use Rattle.txn.specs.Edits as edit
use Rattle.txn.specs.Edits.{Edit, created, creating, write_edits, all_edited}
use Rattle.txn.specs.Made.{all_made}
use Rattle.helpers.specs.declared.helper.Helper.{Helper}
use Rattle.helpers.specs.declared.helper.Helper.TheVariants.{Stat, Read, Write, Truncate, Remove, GetXattr, SetXattr}
use Rattle.helpers.specs.declared.helper.Helper.TheVariants.{RmXattr, MapGet, MapSet, MapRm, MapNext, OutLen, Create}
use Rattle.helpers.specs.declared.helper.Helper.TheVariants.{Caller, Compare, Copy, XattrNext}
use Rattle.helpers.specs.Effect.{Given, number, text}
use Rattle.helpers.specs.Table.{row, helper_of, effect}

-- the table, of helpers that answer 0 or more: a value that was there is set all the same, and so
-- is a length
abbrev pub edits_row : Helper → PlainObject → Given → List Edit
edits_row Stat object g = []
edits_row Read object g = []
edits_row Write object g = write_edits object (number g 0) (text g 0)
edits_row Truncate object g = edit.SetLength (number g 0) ∷ []
edits_row Remove object g = edit.Remove ∷ []
edits_row GetXattr object g = []
edits_row SetXattr object g = creating object (edit.SetXattr (text g 0) (text g 1))
edits_row RmXattr object g = edit.RemoveXattr (text g 0) ∷ []
edits_row MapGet object g = []
edits_row MapSet object g = creating object (edit.SetKey (text g 0) (text g 1))
edits_row MapRm object g = edit.RemoveKey (text g 0) ∷ []
edits_row MapNext object g = []
edits_row OutLen object g = []
edits_row Create object g = created object
edits_row Caller object g = []
edits_row Compare object g = []
edits_row Copy object g = []
edits_row XattrNext object g = []

-- these, where the answer is not negative
abbrev pub if_done : ℕ → List Edit → List Edit
if_done answer es = if nat_lt answer (2 ^ 63) then es else []

-- the edits of a helper
abbrev pub helper_edits : Helper → PlainObject → Given → List Edit
helper_edits h object g = if_done ((row h).effect object g).answer (edits_row h object g)

abbrev pub edits_of : Option Helper → PlainObject → Given → List Edit
edits_of None object g = []
edits_of (Some h) object g = helper_edits h object g

-- the edits of the helper of an id
abbrev pub edits : ℕ → PlainObject → Given → List Edit
edits id object g = edits_of (helper_of id) object g

-- By the limits of all objects a helper's edits make of the object before the object after; none of
-- them is refused.
abbrev pub EditsLead : Type 0
EditsLead =
    (id : ℕ) (object : PlainObject) (g : Given) → g.limits ≡ profile →
    all_edited (edits id object g) object ≡ Ok (effect id object g).object

-- By any limits that a host may give a helper's edits, made without limits, make of the object
-- before the object after.
abbrev pub EditsMake : Type 0
EditsMake =
    (id : ℕ) (object : PlainObject) (g : Given) → IsLimits g.limits →
    all_made (edits id object g) object ≡ (effect id object g).object

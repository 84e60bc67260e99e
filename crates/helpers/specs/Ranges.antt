-- In which range the answer of each helper lies.
use Rattle.std.specs.Prelude.{◌≡◌, ℕ, ◌-◌, ◌^◌, ◌<◌, ◌≤◌, ◌⊎◌, Option, Some, None, min, length}
use Rattle.std.specs.Option.{option_and_then}
use Rattle.object_store.specs.Object.{PlainObject}
use Rattle.object_store.specs.Limits.{IsLimits, IsAnyObject}
use Rattle.object_store.specs.declared.limits.TheConstants.{NAME_LIMIT}
use Rattle.helpers.specs.declared.errno.TheConstants.{ENOENT, EEXIST, EFBIG, ENOSPC, ERANGE, ENODATA}
use Rattle.helpers.specs.declared.helper.Helper.{Helper}
use Rattle.helpers.specs.declared.helper.Helper.TheVariants.{Stat, Read, Write, Truncate, Remove, GetXattr, SetXattr}
use Rattle.helpers.specs.declared.helper.Helper.TheVariants.{RmXattr, MapGet, MapSet, MapRm, MapNext, OutLen, Create}
use Rattle.helpers.specs.declared.helper.Helper.TheVariants.{Caller, Compare, Copy, XattrNext}
use Rattle.helpers.specs.declared.answer_ranges.AnswerLimit.{AnswerLimit}
use Rattle.helpers.specs.declared.answer_ranges.AnswerLimit.TheVariants.{Number, Room, RoomOrNumber, Text}
use Rattle.helpers.specs.declared.answer_ranges.AnswerRange.{AnswerRange}
use Rattle.helpers.specs.Effect.{Given, text}
use Rattle.helpers.specs.Table.{helper_of, effect}

-- from -errno to a limit
abbrev pub down_to : ℕ → AnswerLimit → Option AnswerRange
down_to errno most = Some (record { errno = errno; most = most })

-- the table: none if any number may be answered
abbrev pub range_row : Helper → Option AnswerRange
range_row Stat = None
range_row Read = down_to ENOENT Room
range_row Write = down_to EFBIG Text
range_row Truncate = down_to EFBIG (Number 0)
range_row Remove = down_to ENOENT (Number 0)
range_row GetXattr = down_to ENODATA Room
range_row SetXattr = down_to ENOSPC (Number 0)
range_row RmXattr = down_to ENODATA (Number 0)
range_row MapGet = down_to ENODATA Room
range_row MapSet = down_to ENOSPC (Number 0)
range_row MapRm = down_to ENODATA (Number 0)
range_row MapNext = down_to ENODATA (RoomOrNumber NAME_LIMIT)
range_row OutLen = down_to 0 (Number 0)
range_row Create = down_to EEXIST (Number 0)
range_row Caller = None
range_row Compare = down_to 1 (Number 1)
range_row Copy = down_to ERANGE Text
range_row XattrNext = down_to ENODATA (RoomOrNumber NAME_LIMIT)

-- the range of the answers of the helper of an id; none of an id that is no helper's
abbrev pub answer_range_of : ℕ → Option AnswerRange
answer_range_of id = option_and_then range_row (helper_of id)

-- the number of a limit, 0 if it has none
abbrev pub number_in : AnswerLimit → ℕ
number_in (Number n) = n
number_in Room = 0
number_in (RoomOrNumber n) = n
number_in Text = 0

-- the greatest answer that is no negative number, by what the helper is given
abbrev pub limit_of : Given → AnswerLimit → ℕ
limit_of g (Number n) = n
limit_of g Room = g.room
limit_of g (RoomOrNumber n) = min g.room n
limit_of g Text = length (text g 0)

-- an answer of 64 bits that is at most the limit, or a negative number from -errno on
pub record IsInRange (g : Given) (r : AnswerRange) (answer : ℕ) : Type 0 where
  pub fits : answer < 2 ^ 64
  pub side : (answer ≤ limit_of g r.most) ⊎ (2 ^ 64 - r.errno ≤ answer)

-- Of a well-formed object each helper's answer lies in its range, by any host's limits, if the length
-- of its writable range is a number of 64 bits.
abbrev pub AnswersAreInRange : Type 0
AnswersAreInRange =
    (id : ℕ) (r : AnswerRange) (object : PlainObject) (g : Given) → answer_range_of id ≡ Some r →
    IsLimits g.limits → IsAnyObject object → g.room < 2 ^ 64 → IsInRange g r (effect id object g).answer

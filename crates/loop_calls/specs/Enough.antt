-- Of two calls by a budget on one object, one that knows more needs nothing that the other didn't. Where both need
-- something, the laws of calls on parts say which stops later.
use Rattle.std.specs.Prelude.{◌≡◌, ℕ, ◌+◌, ◌≤◌, List, Some}
use Rattle.bpf_decode.specs.Class.{ClassMethod}
use Rattle.bpf_decode.specs.Instruction.{AllFit}
use Rattle.object_store.specs.declared.limits.Limits.{Limits}
use Rattle.object_store.specs.Object.{PlainObject}
use Rattle.helpers.specs.declared.helper.Helper.{Helper}
use Rattle.helpers.specs.Effect.{Given}
use Rattle.helpers.specs.Table.{helper_of}
use Rattle.part_bytes.specs.declared.need.Need.{Need}
use Rattle.parts.specs.Known.{KnownObject}
use Rattle.part_calls.specs.Needed.{NeededBy}
use Rattle.part_calls.specs.More.{KnowsMore}
use Rattle.loop_calls.specs.ByBudget.{ComesSpending, EndsKnowingByBudget}

-- Where a run by a budget on an object ended with what was known of it, one that begins with more comes within the
-- budget to no call of a helper that needs more still.
abbrev pub MoreIsEnoughByBudget : Type 0
MoreIsEnoughByBudget =
    (limits : Limits) (m : ClassMethod) → AllFit m.instructions → (budget : ℕ) (o : PlainObject) (caller : ℕ)
    (input : List ℕ) (less more : KnownObject) → KnowsMore less more →
    (steps : ℕ) → EndsKnowingByBudget limits m budget less o caller input steps →
    (count taken id : ℕ) (helper : Helper) (given : Given) (last : KnownObject) → helper_of id ≡ Some helper →
    ComesSpending limits m o caller input count taken id helper given more last → taken + 64 ≤ budget →
    (need : Need) → NeededBy helper last given need → ⊥

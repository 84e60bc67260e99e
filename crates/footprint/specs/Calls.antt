-- The calls of helpers in a run: what each is given, and which helpers may change the object.
use Rattle.std.specs.Prelude.{ℕ, Bool, false, ◌||◌, not, Option, Some, None}
use Rattle.helpers.specs.Effect.{Takes}
use Rattle.helpers.specs.Table.{signature_of}
use Rattle.bpf_machine.specs.declared.caps.Caps.{Caps}
use Rattle.bpf_machine.specs.State.{◌>>=◌, only, State}
use Rattle.bpf_machine.specs.Helper.{Given}
use Rattle.bpf_machine.specs.Flat.{Layout, arguments}

-- what the helper of an id is given in a state; none if it can't be called there
abbrev pub given_in : Caps → Layout → ℕ → State ℕ → Option Given
given_in caps lay id s =
    signature_of id >>= λ takes. only (not takes.writes || caps.writes) (arguments caps lay s takes.arguments 1)

-- it may change the object
abbrev pub writes_by : Option Takes → Bool
writes_by None = false
writes_by (Some takes) = takes.writes

-- the helper of an id may: that of 3, 4, 5, 7, 8, 10, 11 and 14
abbrev pub may_change : ℕ → Bool
may_change id = writes_by (signature_of id)

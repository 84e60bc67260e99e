-- What is known of an object after a helper, and what a helper needs nothing more for, each by one table.
use Rattle.std.specs.Prelude.{ℕ, Bool, true}
use Rattle.helpers.specs.declared.helper.Helper.{Helper}
use Rattle.helpers.specs.declared.helper.Helper.TheVariants.{Read, Truncate, Remove, GetXattr, SetXattr}
use Rattle.helpers.specs.declared.helper.Helper.TheVariants.{RmXattr, MapGet, MapSet, MapRm, MapNext}
use Rattle.helpers.specs.declared.helper.Helper.TheVariants.{XattrNext}
use Rattle.helpers.specs.Effect.{Given, number, text}
use Rattle.part_names.specs.Known.{PlainNames}
use Rattle.part_names.specs.Changes.{none_there, with_entry, without_entry}
use Rattle.parts.specs.Known.{KnownObject}
use Rattle.parts.specs.Grows.{Learns, no_position, as_before, past_cut}
use Rattle.parts.specs.Needs.{AreRead, IsLookedUp, IsReached}

-- the positions that become known
abbrev pub learned_bytes : Helper → Given → KnownObject → ℕ → Bool
learned_bytes Truncate g k = past_cut k.bytes (number g 0)
learned_bytes Remove g k = λ p. true
learned_bytes h g k = no_position

-- what is known of the xattrs then, and of the keys
abbrev pub learned_xattrs : Helper → Given → PlainNames → PlainNames
learned_xattrs SetXattr g = λ names. with_entry names (text g 0) (text g 1)
learned_xattrs RmXattr g = λ names. without_entry names (text g 0)
learned_xattrs Remove g = λ names. none_there names.most
learned_xattrs h g = as_before

abbrev pub learned_keys : Helper → Given → PlainNames → PlainNames
learned_keys MapSet g = λ names. with_entry names (text g 0) (text g 1)
learned_keys MapRm g = λ names. without_entry names (text g 0)
learned_keys Remove g = λ names. none_there names.most
learned_keys h g = as_before

-- what is known after a helper that answers a number
abbrev pub IsLearned : Helper → Given → KnownObject → KnownObject → ℕ → Type 0
IsLearned h g old new answer = Learns (learned_bytes h g old) (learned_xattrs h g) (learned_keys h g) old new answer

-- what a helper touches is known: it needs nothing more
abbrev pub NeedsNothing : Helper → KnownObject → Given → Type 0
NeedsNothing Read k g = AreRead k (number g 0) g.room
NeedsNothing GetXattr k g = IsLookedUp k.present g.limits.xattrs.length k.xattrs (text g 0)
NeedsNothing RmXattr k g = IsLookedUp k.present g.limits.xattrs.length k.xattrs (text g 0)
NeedsNothing MapGet k g = IsLookedUp k.present g.limits.keys.length k.keys (text g 0)
NeedsNothing MapRm k g = IsLookedUp k.present g.limits.keys.length k.keys (text g 0)
NeedsNothing MapNext k g = IsReached k.present g.limits.keys.length k.keys (text g 0)
NeedsNothing XattrNext k g = IsReached k.present g.limits.xattrs.length k.xattrs (text g 0)
NeedsNothing h k g = Unit {0}

-- a helper was answered: it needed nothing more, and this is known after it
pub record Answered (h : Helper) (g : Given) (old new : KnownObject) (answer : ℕ) : Type 0 where
  pub needs : NeedsNothing h old g
  pub learned : IsLearned h g old new answer

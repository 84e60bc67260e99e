-- What a helper needs of an object that it can't find in what is known of it, and where no further name fits.
use Rattle.std.specs.Prelude.{◌≡◌, false}
use Rattle.helpers.specs.declared.helper.Helper.{Helper}
use Rattle.helpers.specs.declared.helper.Helper.TheVariants.{Stat, Read, Write, Truncate, Remove, GetXattr, SetXattr}
use Rattle.helpers.specs.declared.helper.Helper.TheVariants.{RmXattr, MapGet, MapSet, MapRm, MapNext, OutLen, Create}
use Rattle.helpers.specs.declared.helper.Helper.TheVariants.{Caller, Compare, Copy, XattrNext}
use Rattle.helpers.specs.Effect.{Given, number, text}
use Rattle.part_bytes.specs.declared.need.Need.{Need}
use Rattle.part_names.specs.Changes.{has_room}
use Rattle.parts.specs.Known.{KnownObject}
use Rattle.parts.specs.Needs.{NeedsBlocks, NeedsXattr, NeedsKey, NeedsKeyFrom, NeedsXattrFrom}
use Rattle.parts.specs.declared.stop.Stop.{Stop}
use Rattle.parts.specs.declared.stop.Stop.TheVariants as stop

-- what a helper that is given this needs: blocks of the data, the entry of a name, or the least one from a place on
abbrev pub NeededBy : Helper → KnownObject → Given → Need → Type 0
NeededBy Stat k g need = ⊥
NeededBy Read k g need = NeedsBlocks k (number g 0) g.room need
NeededBy Write k g need = ⊥
NeededBy Truncate k g need = ⊥
NeededBy Remove k g need = ⊥
NeededBy GetXattr k g need = NeedsXattr g.limits k (text g 0) need
NeededBy SetXattr k g need = ⊥
NeededBy RmXattr k g need = NeedsXattr g.limits k (text g 0) need
NeededBy MapGet k g need = NeedsKey g.limits k (text g 0) need
NeededBy MapSet k g need = ⊥
NeededBy MapRm k g need = NeedsKey g.limits k (text g 0) need
NeededBy MapNext k g need = NeedsKeyFrom g.limits k (text g 0) need
NeededBy OutLen k g need = ⊥
NeededBy Create k g need = ⊥
NeededBy Caller k g need = ⊥
NeededBy Compare k g need = ⊥
NeededBy Copy k g need = ⊥
NeededBy XattrNext k g need = NeedsXattrFrom g.limits k (text g 0) need

-- a set that would keep one name more than there may be
abbrev pub IsFullFor : Helper → KnownObject → Given → Type 0
IsFullFor SetXattr k g = has_room k.xattrs (text g 0) ≡ false
IsFullFor MapSet k g = has_room k.keys (text g 0) ≡ false
IsFullFor h k g = ⊥

-- why a helper that is given this gives no answer
abbrev pub StopsOn : Helper → KnownObject → Given → Stop → Type 0
StopsOn h k g stop.NoMemory = Unit {0}
StopsOn h k g stop.Full = IsFullFor h k g
StopsOn h k g (stop.Needs need) = NeededBy h k g need

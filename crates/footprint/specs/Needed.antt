-- Which parts of an object code needs. A helper reads or changes one part at most, besides whether
-- the object is there:
--
--     1 stat, 2 read, 3 write, 4 truncate               the data
--     6 getxattr, 7 setxattr, 8 rmxattr, 18 xattr_next  the xattrs
--     9 map_get, 10 map_set, 11 map_rm, 12 map_next     the keys
--     5 remove, 13 out_len, 14 create, 15 caller        none
--     16 compare, 17 copy                               none
--
-- 5 removes the object, and 3, 7, 10 and 14 create one if there is none. Code that calls 5 and
-- one of these can empty every part of an object that was there and is there: so it needs all. Else
-- a part that is left out stands as it was, or went with the object, or the object was created
-- without it.
use Rattle.std.specs.Prelude.{Bool, true, false, if◌then◌else◌, List, [], ◌∷◌, Option, Some, None}
use Rattle.bpf_decode.specs.declared.insn.Insn.{Insn}
use Rattle.bpf_decode.specs.declared.insn.Insn.TheVariants.{Call}
use Rattle.helpers.specs.declared.helper.Helper.{Helper}
use Rattle.helpers.specs.declared.helper.Helper.TheVariants.{Stat, Read, Write, Truncate, Remove, GetXattr, SetXattr}
use Rattle.helpers.specs.declared.helper.Helper.TheVariants.{RmXattr, MapGet, MapSet, MapRm, MapNext, Create, XattrNext}
use Rattle.helpers.specs.Table.{helper_of}
use Rattle.footprint.specs.declared.parts.Parts.{Parts}
use Rattle.footprint.specs.declared.scan.Touch.{Touch}
use Rattle.footprint.specs.declared.scan.Touch.TheVariants.{Bytes, Xattrs, Keys, Removal, Creation}

-- how a helper may touch an object
abbrev pub touches : Touch → Helper → Bool
touches Bytes Stat = true
touches Bytes Read = true
touches Bytes Write = true
touches Bytes Truncate = true
touches Bytes h = false
touches Xattrs GetXattr = true
touches Xattrs SetXattr = true
touches Xattrs RmXattr = true
touches Xattrs XattrNext = true
touches Xattrs h = false
touches Keys MapGet = true
touches Keys MapSet = true
touches Keys MapRm = true
touches Keys MapNext = true
touches Keys h = false
touches Removal Remove = true
touches Removal h = false
touches Creation Write = true
touches Creation SetXattr = true
touches Creation MapSet = true
touches Creation Create = true
touches Creation h = false

-- the same of what may be a helper
abbrev pub helper_touches : Touch → Option Helper → Bool
helper_touches touch None = false
helper_touches touch (Some h) = touches touch h

-- an instruction is a call of such a helper
abbrev pub calls_such : Touch → Insn → Bool
calls_such touch (Call id) = helper_touches touch (helper_of id)
calls_such touch i = false

-- one of the instructions calls such a helper
abbrev pub calls : Touch → List Insn → Bool
calls touch [] = false
calls touch (i ∷ is) = if calls_such touch i then true else calls touch is

-- it may remove an object and create it again
abbrev pub renews : List Insn → Bool
renews is = if calls Removal is then calls Creation is else false

-- the parts that code needs
abbrev pub needed : List Insn → Parts
needed is =
    record {
      bytes = if renews is then true else calls Bytes is;
      xattrs = if renews is then true else calls Xattrs is;
      keys = if renews is then true else calls Keys is;
    }

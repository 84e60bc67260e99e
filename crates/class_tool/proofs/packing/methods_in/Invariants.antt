use Rattle.std.proofs.Common.{◌≡◌, length, take}
use Rattle.class_tool.specs.Packing.{AreMethodsIn}
use Rattle.class_tool.proofs.packing.methods_in.Given as goal

-- a method for each that was asked for so far
abbrev pub invariant-loop-raw : goal.invariant-loop-raw
invariant-loop-raw g l = record {
  read : AreMethodsIn (g.F.ReadableFiles.disk l.files) (take l.raw-index l.raws) l.methods.items;
  counted : length l.methods.items ≡ l.raw-index;
}

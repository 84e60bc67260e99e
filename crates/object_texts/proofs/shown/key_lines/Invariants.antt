use Rattle.std.proofs.Common.{◌≡◌, codes, string_bytes, take}
use Rattle.std.specs.FinMap as fin
use Rattle.std.specs.List.{flat_map}
use Rattle.object_texts.specs.Shown.{entry_line}
use Rattle.object_texts.proofs.shown.key_lines.Given as goal

abbrev pub invariant-loop-n : goal.invariant-loop-n
invariant-loop-n l = string_bytes l.text ≡ flat_map (entry_line (codes "key ")) (take l.n (fin.entries l.object.omap))

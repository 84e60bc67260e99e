use Rattle.std.proofs.Common.{◌≡◌, string_bytes, take}
use Rattle.std.specs.FinMap as fin
use Rattle.std.specs.List.{flat_map}
use Rattle.object_texts.specs.Shown.{named_text}
use Rattle.object_texts.proofs.shown.objects_text.Given as goal

abbrev pub invariant-loop-n : goal.invariant-loop-n
invariant-loop-n l = string_bytes l.text ≡ flat_map named_text (take l.n (fin.entries l.objects))

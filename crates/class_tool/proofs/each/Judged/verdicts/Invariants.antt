use Rattle.std.proofs.Common.{◌≡◌, drop}
use Rattle.std.specs.Prelude.{◌&&◌, string_bytes}
use Rattle.std.specs.List.{AllByRecursion}
use Rattle.bpf_decode.specs.Class.{IsMethod}
use Rattle.class_tool.specs.Each.{are_accepted}
use Rattle.program_files.specs.Image.{class_of}
use Rattle.class_tool.proofs.Notes.{Before}
use Rattle.class_tool.proofs.each.Judged.verdicts.Given as goal

-- the text so far stands before that of the methods that are left
abbrev pub invariant-loop-number : goal.invariant-loop-number
invariant-loop-number l = record {
  left : AllByRecursion IsMethod (drop l.number l.methods);
  lines : Before l.self.is_explained (class_of l.self.source.now).rules l.methods l.number (string_bytes l.lines);
  accepted : (l.are_accepted && are_accepted (class_of l.self.source.now).rules (drop l.number l.methods)) ≡ are_accepted (class_of l.self.source.now).rules l.methods;
}

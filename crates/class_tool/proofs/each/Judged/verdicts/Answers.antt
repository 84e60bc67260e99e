use Rattle.std.proofs.Common.{rules, arith, string_bytes}
use Rattle.std.proofs.lemmas.Grind.{common_steps}
use Rattle.program_files.specs.Image.{class_of}
use Rattle.class_tool.proofs.Notes.{all_before, one_before}
use Rattle.class_tool.proofs.each.Judged.verdicts.Goals as goal

-- turned by one_accepted_method_accepts_all
pub loop-number-preserved : goal.loop-number-preserved
loop-number-preserved c = record {
  left = grind (arith, common_steps);
  lines = one_before c.args.self.now.is_explained (class_of c.args.self.now.source.now).rules c.args.methods.now c.loop-number.number c.index-methods-number.result
      (string_bytes c.loop-number.lines) (string_bytes c.in_ok-verdict.verdict.lines) (string_bytes c.push_str.new.self) (grind (arith, common_steps)) c.loop-number.invariant.lines c.in_ok-verdict.ensures.lines (search rules);
  accepted = grind (arith, common_steps);
}

pub returns-clause-lines : goal.returns-clause-lines
returns-clause-lines c =
    all_before c.args.self.now.is_explained (class_of c.args.self.now.source.now).rules c.args.methods.now c.loop-number.number (string_bytes c.loop-number.lines) (omega arith) c.loop-number.invariant.lines

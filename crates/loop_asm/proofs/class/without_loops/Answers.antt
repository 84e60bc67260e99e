use Rattle.std.proofs.Common.{◌≡◌, ap, sym, ◌∙◌, map}
use Rattle.asm_lines.specs.Statements.{statement_of}
use Rattle.bpf_asm.specs.Classes.{class_assembled}
use Rattle.loop_asm.specs.Answers.{contents}
use Rattle.loop_asm.proofs.Methods.{none_given}
use Rattle.loop_asm.proofs.class.without_loops.Goals as goal

pub returns-in-Ok : goal.returns-in-Ok
returns-in-Ok c =
    let lines : c.deref.result.now ≡ map statement_of (contents c.args.texts.now) = c.deref.ensures.value ∙ c.in_ok-lines.ensures in
    none_given (class_assembled (map statement_of (contents c.args.texts.now))) c.in-Ok.class c.methods.result.now c.in_ok-loops-in-Ok.loops.items (ap class_assembled (sym lines) ∙ c.in-Ok.ensures) c.methods.ensures.methods c.in_ok-loops-in-Ok.ensures

use Rattle.std.proofs.Common.{sym, subst, ◌∙◌, ap}
use Rattle.bpf_decode.specs.Class.{Class}
use Rattle.bpf_machine.specs.Safe.{IsSafe}
use Rattle.verifier.specs.Verified.{method_named}
use Rattle.program_files.specs.Image.{class_of}
use Rattle.class_tool.proofs.Called.{method_named-is}
use Rattle.class_tool.proofs.traced.traced_call.Goals as goal

pub text_of-requires-clause-safe : goal.text_of-requires-clause-safe
text_of-requires-clause-safe c =
    let name = c.args.name.now in
    method_named-is IsSafe (class_of c.args.source.now).methods name c.in-Some.method.now c.requires
    (ap (λ (x : Class). method_named x.methods name) (sym c.class.ensures) ∙ sym c.in-Some.ensures)

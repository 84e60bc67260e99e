use Rattle.bpf_decode.specs.Class.{IsMethod}
use Rattle.loop_objects.proofs.Methods.{named_has}
use Rattle.loop_objects.proofs.calls.call_loops.Goals as goal

pub call_found-requires : goal.call_found-requires
call_found-requires c = named_has IsMethod c.args.class.now c.args.method.now c.in-Some.found.now c.methods.ensures.class.methods c.in-Some.ensures

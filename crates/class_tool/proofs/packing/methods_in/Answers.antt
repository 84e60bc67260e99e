use Rattle.std.proofs.Common.{rules}
use Rattle.class_tool.specs.Packing.{MethodsFail}
use Rattle.program_files.specs.declared.failure.Failure.TheVariants.{NoMemory}
use Rattle.class_tool.proofs.Packed.{if_err, next_fails, next_read}
use Rattle.class_tool.proofs.packing.methods_in.Goals as goal

pub returns-in_err-method-clause-fails : goal.returns-in_err-method-clause-fails
returns-in_err-method-clause-fails g c =
    let disk = g.F.ReadableFiles.disk c.args.files.now in
    if_err (MethodsFail disk c.args.raws.now) c.from_residual.result c.in_err-method.field-0.0 c.from_residual.ensures.1
    (next_fails disk c.args.raws.now c.loop-raw.raw-index _ c.loop-raw.methods.items c.len.result c.in_err-method.field-0.0 (search rules) c.loop-raw.invariant.read (search rules) c.in_err-method.ensures.fails)

pub returns-in_err-push-clause-fails : goal.returns-in_err-push-clause-fails
returns-in_err-push-clause-fails g c =
    let disk = g.F.ReadableFiles.disk c.args.files.now in
    if_err (MethodsFail disk c.args.raws.now) c.from_residual-in_err-push.result NoMemory c.from_residual-in_err-push.ensures.1
    (next_fails disk c.args.raws.now c.loop-raw.raw-index (search rules) c.loop-raw.methods.items c.len.result NoMemory (search rules) c.loop-raw.invariant.read (search rules) tt)

pub loop-raw-preserved : goal.loop-raw-preserved
loop-raw-preserved g c =
    let disk = g.F.ReadableFiles.disk c.args.files.now in
    let are = next_read disk c.args.raws.now c.loop-raw.raw-index _ c.loop-raw.methods.items c.in_ok-method.method (search rules) c.loop-raw.invariant.read c.in_ok-method.ensures.method in
    search rules

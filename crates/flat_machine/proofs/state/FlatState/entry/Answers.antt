use Rattle.std.proofs.Common.{arith}
use Rattle.std.proofs.lemmas.Grind.{common_steps}
use Rattle.bpf_decode.specs.declared.region.Region.TheVariants.{Stack}
use Rattle.flat_machine.proofs.state.FlatState.entry.Goals as goal

pub overflow_add-result : goal.overflow_add-result
overflow_add-result c = omega (arith, c.args.machine.now.apart.fits Stack)

pub returns-clause-entry : goal.returns-clause-entry
returns-clause-entry c = grind (arith, common_steps)

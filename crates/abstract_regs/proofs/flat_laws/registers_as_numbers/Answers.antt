use Rattle.abstract_regs.proofs.Flat.{flat_registers_hold}
use Rattle.abstract_regs.proofs.flat_laws.registers_as_numbers.Goals as goal

pub returns : goal.returns
returns c = flat_registers_hold

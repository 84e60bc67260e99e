use Rattle.abstract_num.proofs.Steps.{sum_fits}
use Rattle.abstract_num.proofs.tightening.by_bits.Goals as goal

pub overflow_add-bits : goal.overflow_add-bits
overflow_add-bits c =
    record { fits = sum_fits c.bits-bits.result.value c.bits-bits.result.unknown c.bits-bits.result.apart c.bits-bits.result.value_fits c.bits-bits.result.unknown_fits }

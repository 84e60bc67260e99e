use Rattle.std.proofs.Common.{rules, arith}
use Rattle.std.proofs.lemmas.Grind.{common_steps}
use Rattle.bpf_decode.proofs.class_image.check_method.Goals as goal

-- turned by class_skips_capacity
pub returns-clause-read : goal.returns-clause-read
returns-clause-read c = search rules

pub returns-then-not-is_capacity-2-clause-read : goal.returns-then-not-is_capacity-2-clause-read
returns-then-not-is_capacity-2-clause-read c = grind (arith, common_steps)

pub returns-then-not-is_above-clause-read : goal.returns-then-not-is_above-clause-read
returns-then-not-is_above-clause-read c = grind (arith, common_steps)

pub returns-then-not-is_slot_count-clause-read : goal.returns-then-not-is_slot_count-clause-read
returns-then-not-is_slot_count-clause-read c = grind (arith, common_steps)

pub returns-then-not-are_flags-clause-read : goal.returns-then-not-are_flags-clause-read
returns-then-not-are_flags-clause-read c = grind (arith, common_steps)

pub returns-then-not-are_name_bytes-clause-read : goal.returns-then-not-are_name_bytes-clause-read
returns-then-not-are_name_bytes-clause-read c = grind (arith, common_steps)

pub returns-then-not-is_capacity-clause-read : goal.returns-then-not-is_capacity-clause-read
returns-then-not-is_capacity-clause-read c = grind (arith, common_steps)

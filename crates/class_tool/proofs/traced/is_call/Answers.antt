use Rattle.std.proofs.Common.{arith}
use Rattle.class_tool.proofs.traced.is_call.Goals as goal

pub returns : goal.returns
returns c = record { within_limits = c.is_object.ensures; client = omega arith; short = c.requires; bytes = c.are_bytes.ensures }

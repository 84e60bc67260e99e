use Rattle.std.proofs.Common.{sym, subst}
use Rattle.bpf_machine.specs.Safe.{IsSafe}
use Rattle.loop_classes.proofs.class.verified.Goals as goal

pub plain-requires-clause-safe : goal.plain-requires-clause-safe
plain-requires-clause-safe c = subst IsSafe (sym c.in_ok-verify_method-in-None.ensures.ok) c.in_ok-verify_method-in-None.ensures.safe

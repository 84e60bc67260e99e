use Rattle.std.proofs.Common.{◌≡◌, ◌<◌, ℕ, Some, drop}
use Rattle.bpf_decode.specs.declared.insn.Insn.{Insn}
use Rattle.bpf_machine.specs.Typed.{fetch}
use Rattle.verifier.specs.inner.Pass.{IsSound}
use Rattle.verifier.specs.Verdict.{frame_at, whole_table, first_refused, code_verdict}
use Rattle.verifier.proofs.Tables.{Brought}
use Rattle.verifier.proofs.pass.Pass.run.Given as goal

abbrev pub invariant-loop-slot : goal.invariant-loop-slot
invariant-loop-slot l = record {
  rest : first_refused l.fn.rules l.caps l.code (whole_table l.fn.rules l.caps l.code) l.slot (drop l.slot l.code) ≡ code_verdict l.fn.rules l.caps l.code;
  sound : (p : ℕ) (i : Insn) → p < l.slot → fetch l.code p ≡ Some i → IsSound l.fn.rules i p (frame_at (whole_table l.fn.rules l.caps l.code) p);
  brought : Brought l.fn.rules l.caps l.code l.slot l.self;
}

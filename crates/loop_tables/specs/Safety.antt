-- The theorem: a method with heads that no rule refuses is never stuck, whatever its heads say.
use Rattle.std.specs.Prelude.{◌≡◌, ℕ, Some, None, length}
use Rattle.bpf_decode.specs.Class.{ClassMethod, IsMethod}
use Rattle.bpf_decode.specs.Instruction.{slots}
use Rattle.bpf_machine.specs.Safe.{caps_of}
use Rattle.abstract_regs.specs.Frame.{PlainFrame}
use Rattle.abstract_regs.specs.Moves.{EachFits}
use Rattle.verifier.specs.Verdict.{Table, frame_at}
use Rattle.loop_heads.specs.Loops.{PlainLoops}
use Rattle.loop_machine.specs.Typed.{NeverStuck}
use Rattle.loop_tables.specs.Table.{loop_table}
use Rattle.loop_tables.specs.Verdict.{loop_verdict}

-- a frame as the code has them: eleven registers, whose numbers are below 2 ^ 64
pub record IsCodeFrame (f : PlainFrame) : Type 0 where
  pub eleven : length f.registers ≡ 11
  pub fits : EachFits f.registers

-- so is each frame of a table
abbrev pub AreCodeFrames : Table → Type 0
AreCodeFrames table = (p : ℕ) (f : PlainFrame) → frame_at table p ≡ Some f → IsCodeFrame f

-- Whatever budget and heads a method declares: if no rule refuses it by them, its runs by the budget are never stuck.
abbrev pub AcceptedIsNeverStuck : Type 0
AcceptedIsNeverStuck =
    (m : ClassMethod) → IsMethod m → (l : PlainLoops) →
    AreCodeFrames (loop_table (caps_of m) l.heads (slots m.instructions)) →
    loop_verdict (caps_of m) l.heads (slots m.instructions) ≡ None → NeverStuck m l.budget

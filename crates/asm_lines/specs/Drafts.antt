-- Instructions as their lines have them: labels aren't resolved yet.
use Rattle.std.specs.Prelude.{ℕ, Bool, true, false, List, length, Option, Some, None, if◌then◌else◌, Result, Ok, Err}
use Rattle.std.specs.Str.{bytes_eq}
use Rattle.std.specs.Prelude.{codes, ◌==◌}
use Rattle.bpf_decode.specs.declared.insn.Insn.TheVariants as insns
use Rattle.bpf_decode.specs.declared.insn.Operand.TheVariants.{Immediate, Register}
use Rattle.asm_lines.specs.declared.fault.AsmFault.{AsmFault}
use Rattle.asm_lines.specs.declared.fault.AsmFault.TheVariants as faults
use Rattle.asm_lines.specs.declared.draft.Draft.{Draft}
use Rattle.asm_lines.specs.declared.draft.Draft.TheVariants as drafts
use Rattle.asm_lines.specs.declared.form.Form.{Form}
use Rattle.asm_lines.specs.declared.form.Form.TheVariants.{Alu, Neg, Mov, MovSigned, End, LoadWide, Load, LoadSigned}
use Rattle.asm_lines.specs.declared.form.Form.TheVariants.{StoreNumber, StoreRegister, Jump, JumpLong, Branch, Call}
use Rattle.asm_lines.specs.declared.form.Form.TheVariants.{Exit}
use Rattle.asm_lines.specs.Words.{form_of}
use Rattle.asm_lines.specs.Texts.{first_word, after_word, lone, pair, triple}
use Rattle.asm_lines.specs.Operands.{filled, of_one, of_two, of_three, register_of, immediate_of, unsigned_of}
use Rattle.asm_lines.specs.Operands.{source_of, memory_of, near_target_of, far_target_of}

-- a call's operand: `local` and a distance or a label, or a helper's number
unfoldable pub call_of : List ℕ → Result Draft AsmFault
call_of text =
    if bytes_eq (first_word text) (codes "local") then filled drafts.CallLocal (far_target_of (after_word text))
    else filled (λ helper. drafts.Plain (insns.Call helper)) (unsigned_of 4294967295 text)

-- the forms whose last operand says where a jump or a call goes
abbrev pub has_target : Form → Bool
has_target Jump = true
has_target JumpLong = true
has_target (Branch bits comparison) = true
has_target Call = true
has_target (Alu bits operation) = false
has_target (Neg bits) = false
has_target (Mov bits) = false
has_target (MovSigned extension) = false
has_target (End order width) = false
has_target LoadWide = false
has_target (Load width) = false
has_target (LoadSigned width) = false
has_target (StoreNumber width) = false
has_target (StoreRegister width) = false
has_target Exit = false

-- no operand
abbrev pub of_none : List ℕ → Draft → Result Draft AsmFault
of_none rest d = if length rest == 0 then Ok d else Err faults.Operand

-- the instruction of a form with those operands
abbrev pub draft : Form → List ℕ → Result Draft AsmFault
draft (Alu bits operation) rest =
    filled (λ p. drafts.Plain (insns.Alu bits operation p.0 p.1)) (of_two register_of source_of (pair rest))
draft (Neg bits) rest = filled (λ dst. drafts.Plain (insns.Neg bits dst)) (of_one register_of (lone rest))
draft (Mov bits) rest = filled (λ p. drafts.Plain (insns.Mov bits p.0 p.1)) (of_two register_of source_of (pair rest))
draft (MovSigned extension) rest =
    filled (λ p. drafts.Plain (insns.MovSigned extension p.0 p.1)) (of_two register_of register_of (pair rest))
draft (End order width) rest = filled (λ dst. drafts.Plain (insns.End order width dst)) (of_one register_of (lone rest))
draft LoadWide rest = filled (λ p. drafts.Plain (insns.LoadWide p.0 p.1))
    (of_two register_of (unsigned_of 18446744073709551615) (pair rest))
draft (Load width) rest =
    filled (λ p. drafts.Plain (insns.Load width p.0 p.1.0 p.1.1)) (of_two register_of memory_of (pair rest))
draft (LoadSigned width) rest =
    filled (λ p. drafts.Plain (insns.LoadSigned width p.0 p.1.0 p.1.1)) (of_two register_of memory_of (pair rest))
draft (StoreNumber width) rest = filled (λ p. drafts.Plain (insns.Store width p.0.0 p.0.1 (Immediate p.1)))
    (of_two memory_of immediate_of (pair rest))
draft (StoreRegister width) rest =
    filled (λ p. drafts.Plain (insns.Store width p.0.0 p.0.1 (Register p.1))) (of_two memory_of register_of (pair rest))
draft Jump rest = filled drafts.Jump (of_one near_target_of (lone rest))
draft JumpLong rest = filled drafts.JumpLong (of_one far_target_of (lone rest))
draft (Branch bits comparison) rest = filled
    (λ p. drafts.Branch bits comparison p.0 p.1.0 p.1.1) (of_three register_of source_of near_target_of (triple rest))
draft Call rest = of_one call_of (lone rest)
draft Exit rest = of_none rest (drafts.Plain insns.Exit)

-- an instruction's line: its first word and the rest
abbrev pub draft_of : Option Form → List ℕ → Result Draft AsmFault
draft_of None rest = Err faults.Word
draft_of (Some f) rest = draft f rest

-- by the line's content
unfoldable pub instruction_of : List ℕ → Result Draft AsmFault
instruction_of text = draft_of (form_of (first_word text)) (after_word text)

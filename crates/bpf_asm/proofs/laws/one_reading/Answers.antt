use Rattle.std.proofs.Common.{sym}
use Rattle.asm_lines.specs.Statements.{statements_of}
use Rattle.bpf_asm.proofs.StatementRelations.{text_says, says_text}
use Rattle.bpf_asm.proofs.laws.one_reading.Goals as goal

pub returns : goal.returns
returns c = λ text. record { lines = statements_of text; say = text_says text; one = λ others h. sym (says_text text others h) }

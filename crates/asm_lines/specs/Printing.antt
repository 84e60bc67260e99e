-- The operands of a line, by which the printer goes: a step of the code, in private contracts.
use Rattle.std.specs.Prelude.{ℕ, List, ◌++◌, codes}
use Rattle.std.specs.Fmt.{decimal}
use Rattle.asm_lines.specs.declared.print.Item.{Item}
use Rattle.asm_lines.specs.declared.print.Item.TheVariants.{Source, Memory, Wide, Offset, Local, Helper}
use Rattle.asm_lines.specs.Canonical.{source_text, memory_text, wide_text, offset_text}

-- how an operand is printed
abbrev pub item_text : Item → List ℕ
item_text (Source source) = source_text source
item_text (Memory base offset) = memory_text base offset
item_text (Wide value) = wide_text value
item_text (Offset offset) = offset_text offset
item_text (Local distance) = codes "local " ++ offset_text distance
item_text (Helper helper) = decimal helper

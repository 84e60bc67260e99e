-- A reader must believe HeadText, the one canonical text of each line, Grammar, each spelling that is read,
-- and Reading for which fault comes; numbers and words are those of `asm_lines`.
pub mod HeadText
pub mod Reading
pub mod Grammar

-- A reader must believe HeadBytes, the one spelling of loops, and Reading for which refusal comes: what it
-- reads is proved to be that spelling.
pub mod HeadBytes
pub mod Reading

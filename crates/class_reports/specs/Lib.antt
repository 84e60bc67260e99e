-- A reader must believe Reports (what is told of files), Json (the objects that tell it), and Notes
-- (what stands below a failure's line, and lines that begin with a file's name).
pub mod Json
pub mod Notes
pub mod Reports

-- A reader must believe CommandLine (which words `radoscls` has) and Parsed (what is read of
-- words).
pub mod CommandLine
pub mod Parsed

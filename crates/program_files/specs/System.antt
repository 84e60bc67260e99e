-- The knowledge of the system's files.
use Rattle.std.specs.Prelude.{Bool}
use Rattle.program_files.specs.declared.files.SystemFiles.{SystemFiles}

-- a write failed
abbrev pub has_failed : {R : Type 0} → SystemFiles R → Bool
has_failed files = files.failed

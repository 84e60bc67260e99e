-- The files of the tests.
use Rattle.std.specs.Prelude.{ℕ, List, Some, None, if◌then◌else◌, codes}
use Rattle.std.specs.Str.{bytes_eq}
use Rattle.program_files.specs.Files.{Disk}

-- the files `text` and `image`, and no other
abbrev pub two_files : List ℕ → List ℕ → Disk
two_files text image name =
    if bytes_eq name (codes "text") then Some text else (if bytes_eq name (codes "image") then Some image else None)

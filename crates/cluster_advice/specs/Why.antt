-- The note on a line of a file.
use Rattle.std.specs.Prelude.{◌≡◌, ◌++◌, ℕ, List, IsUtf8, codes}
use Rattle.std.specs.Fmt.{decimal}
use Rattle.escaped_text.specs.Escaped.{escaped}

-- the file's name, as a terminal may have it, and the line's number: `  bad.calls line 3: `
abbrev pub why_head : List ℕ → ℕ → List ℕ
why_head file number = codes "  " ++ (escaped file ++ (codes " line " ++ (decimal number ++ codes ": ")))

-- a text that begins so
pub record IsWhy (file : List ℕ) (number : ℕ) (note : List ℕ) : Type 0 where
  pub text : IsUtf8 note
  pub rest : List ℕ
  pub is : note ≡ why_head file number ++ rest

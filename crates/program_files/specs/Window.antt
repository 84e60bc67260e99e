-- A part of a text, as it is formatted.
use Rattle.std.specs.Prelude.{◌≡◌, ℕ, ◌-◌, List, ◌++◌, length, take, drop}
use Rattle.program_files.specs.declared.window.Window.{Window}

-- what a window shows
abbrev pub shown : Window → List ℕ
shown w = take w.len w.bytes

-- what a window shows after more of the text was written to it, and how many bytes it still skips
pub record Sees (room : ℕ) (old : Window) (text : List ℕ) (new : Window) : Type 0 where
  pub skip : new.skip ≡ old.skip - length text
  pub shown : shown new ≡ take room (shown old ++ drop old.skip text)

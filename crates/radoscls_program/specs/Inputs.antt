-- Standard input, whose name is `-`.
use Rattle.std.specs.Prelude.{◌≡◌, ◌==◌, ◌≤◌, ◌++◌, ℕ, Bool, false, List, [], ◌∷◌, Option, Some, None, codes, count_by}
use Rattle.std.specs.Prelude.{map, slice_index, if◌then◌else◌}
use Rattle.std.specs.List.{after_first, flat_map, list_any}
use Rattle.std.specs.Str.{bytes_eq}
use Rattle.command_line.specs.Parsed.{Parsed, Text, all_in, one_in}
use Rattle.radoscls_program.specs.Raw.{code_in}
use Rattle.radoscls_program.specs.Tenants.{image_in}

-- a name is `-`
abbrev pub is_input : Text → Bool
is_input name = bytes_eq name (codes "-")

-- the text of an argument that may be there once
abbrev pub named : Option Text → List Text
named None = []
named (Some name) = name ∷ []

-- the files of raw code: those of METHOD; `run` has an argument METHOD too, the name of its method
abbrev pub code_files : Parsed → List Text
code_files p = if bytes_eq p.name (codes "pack") then map code_in (all_in p (codes "METHOD")) else []

-- an `@`
abbrev pub is_at : ℕ → Bool
is_at b = b == 64

-- what stands after the first `@`
abbrev pub after_at : Text → Text
after_at text = after_first is_at text

-- the file that a value names, if it begins with `@`
abbrev pub file_of : Text → Option Text
file_of text = if slice_index text 0 == 64 then Some (after_at text) else None

-- the values of a call
abbrev pub call_values : Parsed → List Text
call_values p =
    named (one_in p (codes "input")) ++ named (one_in p (codes "object")) ++ map image_in (all_in p (codes "xattr")) ++
    map image_in (all_in p (codes "key"))

-- the same as a list
abbrev pub value_file : Text → List Text
value_file text = named (file_of text)

-- the files that a command line has read, each as often as it names it: each IN, FILE, those of
-- --class, raw code, those of values, and that of --load
abbrev pub files_read : Parsed → List Text
files_read p =
    all_in p (codes "IN") ++ named (one_in p (codes "FILE")) ++ map image_in (all_in p (codes "class")) ++
    code_files p
    ++ flat_map value_file (call_values p) ++ named (one_in p (codes "load"))

-- at most one of them is standard input, and neither OUT nor the file of --save is
pub record UsesInputWell (p : Parsed) : Type 0 where
  pub once : count_by is_input (files_read p) ≤ 1
  pub unwritten : list_any is_input (named (one_in p (codes "OUT"))) ≡ false
  pub unsaved : list_any is_input (named (one_in p (codes "save"))) ≡ false

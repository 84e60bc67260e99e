-- The lines of all that an object holds.
use Rattle.std.specs.Prelude.{ℕ, ◌==◌, ◌&&◌, nat_le, not, List, [], ◌∷◌, ◌++◌, Some, None, Bool, true, false, codes}
use Rattle.std.specs.Prelude.{length, slice_index, if◌then◌else◌}
use Rattle.std.specs.Fmt.{decimal}
use Rattle.std.specs.List.{flat_map, list_any}
use Rattle.std.specs.FinMap as fin
use Rattle.hex.specs.Hex.{encode_lower}
use Rattle.object_store.specs.Names.{PlainObjects}
use Rattle.object_store.specs.Object.{Content, PlainObject}

-- digits as they are printed, or `-` if there are none
abbrev pub or_dash : List ℕ → List ℕ
or_dash [] = codes "-"
or_dash (digit ∷ digits) = digit ∷ digits

-- a letter, a digit or a sign of ASCII other than `=`
abbrev pub is_printable : ℕ → Bool
is_printable b = nat_le 33 b && (nat_le b 126 && not (b == 61))

-- a name is printed as text if it can be read again as the same name, else as 0x and hexadecimal
abbrev pub is_text : List ℕ → Bool
is_text name =
    not (slice_index name 0 == 48 && slice_index name 1 == 120) && not (list_any (λ b. not (is_printable b)) name)

-- a name as it is printed
abbrev pub name_text : List ℕ → List ℕ
name_text name = if is_text name then name else codes "0x" ++ encode_lower name

-- the line of the data
abbrev pub data_line : List ℕ → List ℕ
data_line bytes = codes "data " ++ or_dash (encode_lower bytes) ++ codes "\n"

-- the line of a name and its value
abbrev pub entry_line : List ℕ → List ℕ × List ℕ → List ℕ
entry_line word entry = word ++ name_text entry.0 ++ codes " " ++ or_dash (encode_lower entry.1) ++ codes "\n"

-- the line of its data, then those of its xattrs and of its keys, each in the order of their names
abbrev pub content_text : Content → List ℕ
content_text content =
    data_line content.bytes ++ flat_map (entry_line (codes "xattr ")) (fin.entries content.xattrs) ++
    flat_map (entry_line (codes "key ")) (fin.entries content.omap)

-- the lines that show an object, if they are asked for
abbrev pub shown_text : Bool → PlainObject → List ℕ
shown_text false object = []
shown_text true None = []
shown_text true (Some content) = content_text content

-- the numbers of its bytes, xattrs and keys, at the end of a line
abbrev pub sizes_text : Content → List ℕ
sizes_text content =
    codes " " ++ (decimal (length content.bytes) ++ (codes " " ++ (decimal (fin.len content.xattrs)
    ++ (codes " " ++ (decimal (fin.len content.omap) ++ codes "\n")))))

-- AN OBJECT BY ITS NAME: a line with the name and these numbers, and then the lines above
abbrev pub named_text : List ℕ × Content → List ℕ
named_text entry = codes "object " ++ name_text entry.0 ++ sizes_text entry.1 ++ content_text entry.1

-- of several objects, in the order of their names
abbrev pub objects_text : PlainObjects → List ℕ
objects_text objects = flat_map named_text (fin.entries objects)

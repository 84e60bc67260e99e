-- What the code keeps of a method's labels (a step of the code, in private contracts).
use Rattle.std.specs.Prelude.{◌≡◌, ℕ, suc, ◌+◌, List, [], ◌∷◌, Option, Some, None, if◌then◌else◌}
use Rattle.std.specs.Borrow.{Bor}
use Rattle.std.specs.Str.{bytes_eq}
use Rattle.std.specs.BTreeMap as tree
use Rattle.std.specs.BTreeMap.{BTreeMap}
use Rattle.std.specs.Cmp.Lexicographic.{slice_cmp}
use Rattle.std.specs.Ordering.{nat_cmp}
use Rattle.asm_lines.specs.declared.statement.Statement.{Statement}
use Rattle.bpf_asm.specs.Bodies.{is_label, line_slots}

-- the slot and the line at which a label stands first, among lines that begin at a slot and a line
abbrev pub first_place : List ℕ → ℕ → ℕ → List Statement → Option (ℕ × ℕ)
first_place name slot line [] = None
first_place name slot line (s ∷ ss) =
    if is_label name s then Some (slot, line) else first_place name (slot + line_slots s) (suc line) ss

-- what a map has of a name
abbrev pub place_in : BTreeMap (Bor (List ℕ)) (ℕ × ℕ) → List ℕ → Option (ℕ × ℕ)
place_in m name = tree.get_by (λ key. slice_cmp nat_cmp name key.now) m

-- a map that has the places of all labels of the lines
abbrev pub AreLabels : BTreeMap (Bor (List ℕ)) (ℕ × ℕ) → List Statement → Type 0
AreLabels m lines = (name : List ℕ) → place_in m name ≡ first_place name 0 0 lines

-- the one, or else the other
abbrev pub or_else : Option (ℕ × ℕ) → Option (ℕ × ℕ) → Option (ℕ × ℕ)
or_else (Some p) o = Some p
or_else None o = o

-- new has a name's place besides what old has
abbrev pub IsNoted : BTreeMap (Bor (List ℕ)) (ℕ × ℕ) → BTreeMap (Bor (List ℕ)) (ℕ × ℕ) → List ℕ → ℕ × ℕ → Type 0
IsNoted old new name place =
    (q : List ℕ) → place_in new q ≡ or_else (place_in old q) (if bytes_eq name q then Some place else None)

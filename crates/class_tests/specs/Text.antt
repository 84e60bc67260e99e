-- The text of an end.
use Rattle.std.specs.Prelude.{◌≡◌, ◌++◌, ℕ, List, codes}
use Rattle.std.specs.Fmt.{decimal}
use Rattle.class_tests.specs.declared.tests.TestEnd.{TestEnd}
use Rattle.class_tests.specs.declared.tests.TestEnd.TheVariants.{AllHold, DiffersAt, BadAt}

-- a line that differs, and what it says and what there is, as texts
abbrev pub differs_text : ℕ → List ℕ → List ℕ → List ℕ
differs_text number said there = codes "line " ++ decimal number ++ codes ": differs\n  wanted: " ++ said ++
    codes "\n  found: " ++ there ++ codes "\n"

-- how many lines hold; or the number of the first that doesn't, and below it two texts, shown by
-- stored outputs alone, of what it says and what there is
abbrev pub IsEndText : TestEnd → List ℕ → Type 0
IsEndText (AllHold count) text = text ≡ codes "ok " ++ decimal count ++ codes "\n"
IsEndText (DiffersAt number said there case) text = (a : List ℕ) × (b : List ℕ) × (text ≡ differs_text number a b)
IsEndText (BadAt number) text = text ≡ codes "line " ++ decimal number ++ codes ": bad\n"

-- The xattrs and the keys that `run` is given, each spelled `NAME=HEX`.
use Rattle.std.specs.Prelude.{◌≡◌, ⊤, List, [], ◌∷◌, true}
use Rattle.std.specs.List.{list_any}
use Rattle.command_line.specs.Parsed.{Text}
use Rattle.object_texts.specs.declared.method_call.SpelledEntry.{SpelledEntry}
use Rattle.radoscls_program.specs.Tenants.{image_in, is_equals, name_in}

-- a text spells that entry: the name is before the first `=`, and the value after it
pub record IsEntry (text : Text) (e : SpelledEntry) : Type 0 where
  pub ends : list_any is_equals text ≡ true
  pub name : e.name.now ≡ name_in text
  pub value : e.value.now ≡ image_in text

-- the texts spell those entries, in their order
abbrev pub AreEntries : List Text → List SpelledEntry → Type 0
AreEntries [] [] = ⊤
AreEntries [] (e ∷ es) = ⊥
AreEntries (text ∷ texts) [] = ⊥
AreEntries (text ∷ texts) (e ∷ es) = IsEntry text e × AreEntries texts es

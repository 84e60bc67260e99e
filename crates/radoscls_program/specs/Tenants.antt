-- The classes of tenants that `sim` is given, each spelled `NAME=IMAGE`.
use Rattle.std.specs.Prelude.{◌≡◌, ◌==◌, ◌&&◌, ℕ, nat_le, not, Bool, true, List, [], ◌∷◌, ◌++◌, length, map}
use Rattle.std.specs.List.{after_first, before_first, list_any}
use Rattle.std.specs.Str.{bytes_eq}
use Rattle.command_line.specs.Parsed.{Text}
use Rattle.tenant_classes.specs.Classes.{names_of}
use Rattle.tenant_classes.specs.declared.tenant_class.TenantClass.{TenantClass}
use Rattle.tenant_classes.specs.declared.tenant_class.TheConstants.{TENANT_LIMIT}

-- a `=`
abbrev pub is_equals : ℕ → Bool
is_equals b = b == 61

-- the name is before the first `=`, and the file of the image or text after it
abbrev pub name_in : Text → Text
name_in text = before_first is_equals text

abbrev pub image_in : Text → Text
image_in text = after_first is_equals text

-- a word of a file of events may be that: it isn't empty, and it has no space and no tab
abbrev pub is_word : Text → Bool
is_word name = not (length name == 0) && (not (list_any (λ b. b == 32) name) && not (list_any (λ b. b == 9) name))

-- a class may have that name, if others have the used names
abbrev pub is_free : List Text → Text → Bool
is_free used name = is_word name && not (list_any (λ u. bytes_eq name u) used)

-- a text spells a class that may follow those with the used names
abbrev pub is_tenant : List Text → Text → Bool
is_tenant used text = list_any is_equals text && is_free used (name_in text)

-- each text spells a class that may follow the classes of the texts before it
abbrev pub are_behind : List Text → List Text → Bool
are_behind used [] = true
are_behind used (text ∷ texts) = is_tenant used text && are_behind (used ++ name_in text ∷ []) texts

-- texts spell the classes of tenants, which follow the built-in ones; there are not too many
abbrev pub are_tenants : List Text → Bool
are_tenants texts = nat_le (length texts) TENANT_LIMIT && are_behind (names_of []) texts

-- a class's name and the file of its image or text
abbrev pub parts_of : TenantClass → Text × Text
parts_of o = (o.name.now, o.image.now)

-- the same of a text
abbrev pub parts_in : Text → Text × Text
parts_in text = (name_in text, image_in text)

-- Those are the classes that the texts spell, in their order.
pub record SpellsTenants (texts : List Text) (tenants : List TenantClass) : Type 0 where
  pub may : are_tenants texts ≡ true
  pub same : map parts_of tenants ≡ map parts_in texts

-- Notes are texts.
use Rattle.std.proofs.Common.{◌≡◌, Bool, true, false, List, [], ℕ, IsUtf8, String, string_bytes, subst, sym}
use Rattle.std.proofs.lemmas.Str.{IsUtf8-nil, IsUtf8-string_bytes}
use Rattle.class_tool.specs.Note.{IsNote}

-- any note that is asked for is a text
pub noted : {Z : Type 0} (e : Bool) (note : String Z) → e ≡ true → IsNote e (string_bytes note)
noted e note asked = subst (λ (b : Bool). IsNote b (string_bytes note)) (sym asked) (IsUtf8-string_bytes note)

-- no note is one
pub unnoted : (e : Bool) (note : List ℕ) → note ≡ [] → IsNote e note
unnoted true note none = subst IsUtf8 (sym none) IsUtf8-nil
unnoted false note none = none

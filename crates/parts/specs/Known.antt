-- What is known of an object as a call stages it, and which objects it may be.
use Rattle.std.specs.Prelude.{◌≡◌, ℕ, Bool, List, Option, is_some, refl}
use Rattle.std.specs.Coded.{Coded, code_by, coded×, coded_ℕ, coded_bool, coded_list, coded_option}
use Rattle.object_store.specs.Object.{PlainObject, content_of}
use Rattle.part_data.specs.Known as bytes
use Rattle.part_data.specs.Known.{KnownData, KeptBlocks}
use Rattle.part_names.specs.Known as names
use Rattle.part_names.specs.Known.{PlainNames, names_code}

-- whether the object is there, what is known of its data, xattrs and keys, and the bytes of the edits so far
pub record KnownObject : Type 0 where
  pub present : Bool
  pub bytes : KnownData
  pub xattrs : PlainNames
  pub keys : PlainNames
  pub list : Option (List ℕ)

-- an object that it may be: one that is absent holds nothing
pub record Stands (k : KnownObject) (o : PlainObject) : Type 0 where
  pub presence : is_some o ≡ k.present
  pub bytes : bytes.Agrees k.bytes (content_of o).bytes
  pub xattrs : names.Agrees k.xattrs (content_of o).xattrs
  pub keys : names.Agrees k.keys (content_of o).omap

-- it is stored as its parts
abbrev pub data_code : Coded KnownData
data_code =
    code_by (ℕ × (ℕ × KeptBlocks)) (coded× coded_ℕ (coded× coded_ℕ (coded_list (coded× coded_ℕ (coded_list coded_ℕ)))))
    (λ d. (d.size, (d.low, d.blocks))) (λ p. record { size = p.0; low = p.1.0; blocks = p.1.1 }) (λ _. refl)

abbrev pub known_code : Coded KnownObject
known_code =
    code_by (Bool × (KnownData × (PlainNames × (PlainNames × Option (List ℕ)))))
    (coded× coded_bool (coded× data_code (coded× names_code (coded× names_code (coded_option (coded_list coded_ℕ))))))
    (λ k. (k.present, (k.bytes, (k.xattrs, (k.keys, k.list)))))
    (λ p. record { present = p.0; bytes = p.1.0; xattrs = p.1.1.0; keys = p.1.1.1.0; list = p.1.1.1.1 }) (λ _. refl)

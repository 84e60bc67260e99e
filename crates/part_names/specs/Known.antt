-- What is known of an object's names, and which names and values agree with it.
use Rattle.std.specs.Prelude.{◌≡◌, ℕ, ◌≤◌, Bool, ◌||◌, IsTrue, List, Some, is_some, length, refl}
use Rattle.std.specs.FinMap as fin
use Rattle.std.specs.Coded.{Coded, code_by, coded×, coded_ℕ, coded_list}
use Rattle.object_store.specs.declared.limits.TheConstants.{VALUE_LIMIT}
use Rattle.object_store.specs.Object.{Attributes, AreBytes, attributes_code}
use Rattle.object_store.specs.Calls.{is_named}
use Rattle.part_names.specs.Order.{Interval, interval_code, is_held}

-- names with the values that are known to be there, at most that many, and intervals in which no other name is
pub record PlainNames : Type 0 where
  pub most : ℕ
  pub entries : Attributes
  pub intervals : List Interval

-- they are stored as their three parts
abbrev pub names_code : Coded PlainNames
names_code =
    code_by (ℕ × (Attributes × List Interval)) (coded× coded_ℕ (coded× attributes_code (coded_list interval_code)))
    (λ n. (n.most, (n.entries, n.intervals)))
    (λ p. record { most = p.0; entries = p.1.0; intervals = p.1.1 }) (λ _. refl)

-- whether it is known of a name if it is there, and with what value
abbrev pub is_known : PlainNames → List ℕ → Bool
is_known names name = is_some (fin.get names.entries name) || is_held names.intervals name

-- names and values of an object agree if each known name has the value of its entry, or is absent as it has none
abbrev pub Agrees : PlainNames → Attributes → Type 0
Agrees names m = (name : List ℕ) → IsTrue (is_known names name) → fin.get m name ≡ fin.get names.entries name

-- at most that many entries, each a name with a value within the limits, both of them bytes
pub record AreKept (most : ℕ) (m : Attributes) : Type 0 where
  pub number : fin.len m ≤ most
  pub each : (name value : List ℕ) → fin.get m name ≡ Some value → IsTrue (is_named name) × (length value ≤ VALUE_LIMIT)
  pub bytes : (name value : List ℕ) → fin.get m name ≡ Some value → AreBytes name × AreBytes value

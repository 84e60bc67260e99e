-- An object as a call found it and as it is now, and what its calls answer.
use Rattle.std.specs.Prelude.{ℕ, refl, List, Option, Some, Result, Ok, Err}
use Rattle.std.specs.Coded.{Coded, code_by, coded×, coded_ℕ, coded_list, coded_option}
use Rattle.object_store.specs.Object.{Content, PlainObject, content_code}
use Rattle.object_store.specs.declared.store_error.StoreError.{StoreError}

-- an object before a call, and as it is now; none if absent
pub record Versions : Type 0 where
  pub before : PlainObject
  pub after : PlainObject

-- as these two
abbrev pub versions_code : Coded Versions
versions_code =
    code_by (PlainObject × PlainObject) (coded× (coded_option content_code) (coded_option content_code))
    (λ v. (v.before, v.after)) (λ p. record { before = p.0; after = p.1 }) (λ _. refl)

-- The same while calls change it, and the bytes of the list of their edits; none where no list is
-- kept.
pub record StagedObject : Type 0 where
  pub before : PlainObject
  pub after : PlainObject
  pub list : Option (List ℕ)

abbrev pub staged_code : Coded StagedObject
staged_code =
    code_by (PlainObject × (PlainObject × Option (List ℕ)))
    (coded× (coded_option content_code) (coded× (coded_option content_code) (coded_option (coded_list coded_ℕ))))
    (λ s. (s.before, (s.after, s.list))) (λ p. record { before = p.0; after = p.1.0; list = p.1.1 }) (λ _. refl)

-- the object that a change makes
abbrev pub made : Result Content StoreError → Result PlainObject StoreError
made (Ok c) = Ok (Some c)
made (Err e) = Err e

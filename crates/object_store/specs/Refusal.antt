-- The refusals by number and name, and how they print.
use Rattle.std.specs.Prelude.{ℕ, List, ◌++◌, codes}
use Rattle.std.specs.Fmt.{decimal}
use Rattle.object_store.specs.declared.store_error.StoreError.{StoreError}
use Rattle.object_store.specs.declared.store_error.StoreError.TheVariants as store
use Rattle.object_store.specs.declared.data_error.DataError.{DataError}
use Rattle.object_store.specs.declared.data_error.DataError.TheVariants as of_data

-- the numbers of the refusals
abbrev pub store_error_number : StoreError → ℕ
store_error_number store.Absent = 1
store_error_number store.Exists = 2
store_error_number store.NoAttr = 3
store_error_number store.TooBig = 4
store_error_number store.TooMany = 5
store_error_number store.Range = 6
store_error_number store.NoMemory = 7

-- the names of the refusals
abbrev pub store_error_name : StoreError → List ℕ
store_error_name store.Absent = codes "Absent"
store_error_name store.Exists = codes "Exists"
store_error_name store.NoAttr = codes "NoAttr"
store_error_name store.TooBig = codes "TooBig"
store_error_name store.TooMany = codes "TooMany"
store_error_name store.Range = codes "Range"
store_error_name store.NoMemory = codes "NoMemory"

-- a refusal of data is the object's of the same name
abbrev pub store_error_of : DataError → StoreError
store_error_of of_data.TooBig = store.TooBig
store_error_of of_data.NoMemory = store.NoMemory

-- number, space and name
abbrev pub store_error_text : StoreError → List ℕ
store_error_text e = decimal (store_error_number e) ++ codes " " ++ store_error_name e

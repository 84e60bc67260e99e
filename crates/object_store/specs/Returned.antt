-- What a call returned, besides what it has to answer.
use Rattle.std.specs.Prelude.{◌≡◌, ◌⊎◌, Result, Ok, Err}
use Rattle.std.specs.Borrow.{Bor}
use Rattle.object_store.specs.declared.store_error.StoreError.{StoreError}
use Rattle.object_store.specs.declared.store_error.StoreError.TheVariants as store
use Rattle.object_store.specs.declared.data_error.DataError.{DataError}
use Rattle.object_store.specs.declared.data_error.DataError.TheVariants as of_data

-- what was returned, seen by view, is the answer, unless memory ran out
abbrev pub Gives : {X Y : Type 0} → (X → Y) → Result X StoreError → Result Y StoreError → Type 0
Gives view (Ok x) answer = answer ≡ Ok (view x)
Gives view (Err e) answer = (e ≡ store.NoMemory) ⊎ (answer ≡ Err e)

-- the same of data
abbrev pub GivesData : {X Y : Type 0} → (X → Y) → Result X DataError → Result Y DataError → Type 0
GivesData view (Ok x) answer = answer ≡ Ok (view x)
GivesData view (Err e) answer = (e ≡ of_data.NoMemory) ⊎ (answer ≡ Err e)

-- what is behind a reference that was returned
abbrev pub behind : {X E : Type 0} → Result (Bor X) E → Result X E
behind (Ok x) = Ok x.now
behind (Err e) = Err e

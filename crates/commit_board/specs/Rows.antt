-- The rule of the board, and the effect of each step on a seat's view.
use Rattle.std.specs.Prelude.{◌≡◌, ◌⊎◌, ℕ, suc, ◌<◌, ◌≤◌, List, [], ◌∷◌, ◌++◌, length, slice_index}
use mathlib.Core.List.{IsPrefix}
use mathlib.Core.Option.{some}
use lib.ListN.{get_elem?}
use Rattle.atomic_table.specs.Table.{State, Me, Step}
use Rattle.pg_log.specs.Requests.{ClientRequest}
use Rattle.commit_board.specs.declared.view.View.{View}
use Rattle.commit_board.specs.Lists.{list_at, put_at, merged}

-- a seat's view by its parts
abbrev pub view_of : ℕ → ℕ → List ClientRequest → List (List ClientRequest) → List (List ClientRequest) → View
view_of first end written known received =
    record { first = first; end = end; written = written; known = known; received = received }

-- the seat of the writer of these rows, each of which has this list
abbrev pub writes : ℕ → ℕ → List ClientRequest → View
writes first end written = view_of first end written [] []

-- the seat of all rows while none has a request
abbrev pub owner : ℕ → View
owner rows = writes 0 rows []

-- a seat that writes no row
abbrev pub sees : List (List ClientRequest) → List (List ClientRequest) → View
sees known received = view_of 0 0 [] known received

-- For each row, the list that the seat with this number knows and the list that it received are
-- beginnings of the row's list. The seat has the whole list of each of its own rows, and is the
-- only one that writes them.
pub record Fits (rows : ℕ) (logs : ℕ → List ClientRequest) (seat : ℕ → ℕ) (by : ℕ) (v : View) : Type 0 where
  pub owns : (i : ℕ) → v.first ≤ i → i < v.end → (i < rows) × (seat i ≡ by) × (v.written ≡ logs i)
  pub knows : (i : ℕ) → IsPrefix (list_at v.known i) (logs i)
  pub received : (i : ℕ) → IsPrefix (list_at v.received i) (logs i)

-- The row is one of the own rows of the seat with this number.
abbrev pub HasRow : List View → ℕ → ℕ → Type 0
HasRow views by i = (v : View) × (get_elem? views by ≡ some v) × (v.first ≤ i) × (i < v.end)

-- Each row has a list and a seat that writes it, and the row's word is the list's length.
pub record Kept (rows : ℕ) (s : State ℕ View) : Type 0 where
  pub logs : ℕ → List ClientRequest
  pub seat : ℕ → ℕ
  pub count : length s.words ≡ rows
  pub words : (i : ℕ) → i < rows → slice_index s.words i ≡ length (logs i)
  pub writers : (i : ℕ) → i < rows → HasRow s.views (seat i) i
  pub views : (by : ℕ) (v : View) → get_elem? s.views by ≡ some v → Fits rows logs seat by v

-- The request was added to the row's list.
abbrev pub Adds : ClientRequest → Step ℕ → Me ℕ View → ℕ → Me ℕ View → Type 0
Adds request s v n w = w ≡ (writes v.0.first v.0.end (v.0.written ++ request ∷ []), v.1)

-- The row's list was seen: its length is the number that was loaded.
abbrev pub Looks : Step ℕ → Me ℕ View → ℕ → Me ℕ View → Type 0
Looks s v n w = (l : List ClientRequest) × (length l ≡ n) × IsPrefix (list_at v.0.known s.word) l ×
    (w ≡ (sees (put_at v.0.known s.word l) v.0.received, v.1))

-- Of each row the longer of the known and the received list is known, and both are beginnings of
-- it.
abbrev pub Merges : Step ℕ → Me ℕ View → ℕ → Me ℕ View → Type 0
Merges s v n w =
    ((i : ℕ) → IsPrefix (list_at v.0.known i) (list_at w.0.known i) ×
    IsPrefix (list_at v.0.received i) (list_at w.0.known i)
    × ((list_at w.0.known i ≡ list_at v.0.known i) ⊎ (list_at w.0.known i ≡ list_at v.0.received i)))
    × (w ≡ (sees (merged v.0.known v.0.received) [], v.1))

-- The list that the writer received for its own row is a beginning of its list.
abbrev pub Compares : Step ℕ → Me ℕ View → ℕ → Me ℕ View → Type 0
Compares s v n w =
    IsPrefix (list_at v.0.received s.word) v.0.written × (w ≡ (writes v.0.first v.0.end v.0.written, v.1))

-- all own rows but the first, and below it the first alone: a seat of all rows is split row by row
abbrev pub other_rows : View → View
other_rows v = writes (suc v.first) v.end v.written

abbrev pub one_row : View → View
one_row v = writes v.first (suc v.first) v.written

-- the view that a writer gives to a new seat
abbrev pub shared : View → View
shared v = sees (put_at [] v.first v.written) []

-- the view that another seat gives to a new seat
abbrev pub received_of : View → View
received_of v = sees v.known []

-- the view of a seat that knows nothing
abbrev pub new_reader : View → View
new_reader v = sees [] []

-- the view of a seat that received what another seat knew
abbrev pub informed : View → View → View
informed v w = view_of v.first v.end v.written v.known w.known

-- The index of a list, which the code keeps: the requests of each client, by rising numbers.
use Rattle.std.specs.Prelude.{◌≡◌, ℕ, suc, ◌<◌, List, [], ◌∷◌, Option, Some, None, Bool, false, if◌then◌else◌, ◌==◌}
use Rattle.std.specs.Prelude.{◌||◌, nat_le, Vec, ◌≤◌, length}
use Rattle.std.specs.List.{AllByRecursion}
use Rattle.std.specs.Ordering.{nat_cmp}
use Rattle.std.specs.BTreeMap as tree
use Rattle.pg_log.specs.declared.places.Places.{Places}
use Rattle.pg_log.specs.Requests.{ClientRequest}

-- number and place of each request of a client, in a list whose first request has the place `at`
abbrev pub standing_from : ℕ → ℕ → List ClientRequest → List (ℕ × ℕ)
standing_from client at [] = []
standing_from client at (r ∷ rs) =
    if r.client == client then (r.number, at) ∷ standing_from client (suc at) rs else standing_from client (suc at) rs

-- of a list whose first request has place 0
abbrev pub standing : ℕ → List ClientRequest → List (ℕ × ℕ)
standing client list = standing_from client 0 list

-- each number is below all later ones
abbrev pub IsRising : List (ℕ × ℕ) → Type 0
IsRising [] = Unit {0}
IsRising (x ∷ xs) = AllByRecursion (λ y. x.0 < y.0) xs × IsRising xs

-- the first place of a number
abbrev pub place_in : ℕ → List (ℕ × ℕ) → Option ℕ
place_in number [] = None
place_in number (x ∷ xs) = if x.0 == number then Some x.1 else place_in number xs

-- this number occurs, or a greater one
abbrev pub reaches_in : ℕ → List (ℕ × ℕ) → Bool
reaches_in number [] = false
reaches_in number (x ∷ xs) = nat_le number x.0 || reaches_in number xs

-- the requests that the index has of a client
abbrev pub kept_of : {A : Type 0} → Option (Vec (ℕ × ℕ) A) → List (ℕ × ℕ)
kept_of None = []
kept_of (Some v) = v.items

-- the index has the requests of each client, and no others
abbrev pub ArePlaces : Places → List ClientRequest → Type 0
ArePlaces places list = (client : ℕ) → kept_of (tree.get nat_cmp places.by_client client) ≡ standing client list

-- the number of a client's requests that the index has room for
abbrev pub room_of : {A : Type 0} → Option (Vec (ℕ × ℕ) A) → ℕ
room_of None = 0
room_of (Some v) = v.cap

-- the index has room for the requests of each client
abbrev pub HasRoom : Places → List ClientRequest → Type 0
HasRoom places list = (client : ℕ) → length (standing client list) ≤ room_of (tree.get nat_cmp places.by_client client)

-- no client has less room than before
abbrev pub RoomStays : Places → Places → Type 0
RoomStays old new =
    (client : ℕ) → room_of (tree.get nat_cmp old.by_client client) ≤ room_of (tree.get nat_cmp new.by_client client)

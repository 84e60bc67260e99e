-- Maps as the cluster keeps them, and why none are made.
use Rattle.std.specs.Prelude.{◌≡◌, ◌⊎◌, ℕ, suc, ◌<◌, List, length, Some, None}
use Rattle.map_book.specs.Book.{Book, book_refusal}
use Rattle.map_book.specs.declared.new_map.NewMap.{NewMap}
use Rattle.map_book.specs.declared.map_error.MapError.{MapError}
use Rattle.map_book.specs.declared.map_error.MapError.TheVariants.{NoMemory}
use Rattle.osd.specs.declared.config.Config.{Config}

-- a node acts for the map's group
abbrev pub HasPrimary : NewMap → Type 0
HasPrimary m = 0 < length m.map.acting

-- a book of the cluster
pub record IsBookOf (c : Config) (b : Book) : Type 0 where
  pub nodes : b.nodes ≡ c.nodes
  pub groups : length b.monitors ≡ c.groups

-- the cluster's book refused these up nodes by that, or memory was refused
pub record WasRefused (c : Config) (up : List ℕ) (why : MapError) : Type 0 where
  pub book : Book
  pub of : IsBookOf c book
  pub refusal : (book_refusal book up ≡ Some why) ⊎ ((why ≡ NoMemory) × (book_refusal book up ≡ None))

-- the cluster's book went on to that epoch by these up nodes
pub record WasMade (c : Config) (up : List ℕ) (epoch : ℕ) : Type 0 where
  pub book : Book
  pub of : IsBookOf c book
  pub refusal : book_refusal book up ≡ None
  pub next : epoch ≡ suc book.epoch

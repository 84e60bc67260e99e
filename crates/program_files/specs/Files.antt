-- The bytes of files.
use Rattle.std.specs.Prelude.{◌≡◌, ◌≢◌, ⊤, ℕ, Bool, true, false, List, Option, Some, None, take}

-- the bytes of each file that can be read, by its name
abbrev pub Disk : Type 0
Disk = List ℕ → Option (List ℕ)

-- The bytes of files, if they are known; whether a write of one failed; and which names are written
-- in place, since what they name is no regular file, as a pipe or a device.
pub record Storage : Type 0 where
  pub disk : Option Disk
  pub failed : Bool
  pub in_place : List ℕ → Bool

-- by its three parts
abbrev pub storage : {F : Type 0} → (F → Option Disk) → (F → Bool) → (F → List ℕ → Bool) → F → Storage
storage disk failed in_place files = record { disk = disk files; failed = failed files; in_place = in_place files }

-- the files of the system as a process begins
abbrev pub unwritten : Storage
unwritten = record { disk = None; failed = false; in_place = λ _. false }

-- the file with that name holds those bytes, if files are known
abbrev pub Holds : Option Disk → List ℕ → List ℕ → Type 0
Holds None name bytes = ⊤
Holds (Some disk) name bytes = disk name ≡ Some bytes

-- the bytes are the first ones of the file with that name, at most that many, if files are known
abbrev pub IsBeginning : Option Disk → List ℕ → ℕ → List ℕ → Type 0
IsBeginning None name most bytes = ⊤
IsBeginning (Some disk) name most bytes = (file : List ℕ) × (disk name ≡ Some file) × (bytes ≡ take most file)

-- no file with that name can be read, if files are known
abbrev pub IsUnreadable : Option Disk → List ℕ → Type 0
IsUnreadable None name = ⊤
IsUnreadable (Some disk) name = disk name ≡ None

-- after a write the file with that name holds those bytes, if files are known
abbrev pub IsWritten : Option Disk → List ℕ → List ℕ → Type 0
IsWritten None name bytes = ⊤
IsWritten (Some disk) name bytes = disk name ≡ Some bytes

-- each file but the one with that name is as it was, if files are known
abbrev pub OthersStay : Option Disk → Option Disk → List ℕ → Type 0
OthersStay None after name = ⊤
OthersStay (Some before) None name = ⊥
OthersStay (Some before) (Some after) name = (other : List ℕ) → other ≢ name → after other ≡ before other

-- after a failed write the file with that name is as it was, if files are known; of what is written
-- in place nothing is said
abbrev pub IsKept : Bool → Option Disk → Option Disk → List ℕ → Type 0
IsKept true before after name = ⊤
IsKept false None after name = ⊤
IsKept false (Some before) None name = ⊥
IsKept false (Some before) (Some after) name = after name ≡ before name

-- A file was written: it holds those bytes, every other file is as it was, and no write failed.
pub record Writes (before after : Storage) (name bytes : List ℕ) : Type 0 where
  pub written : IsWritten after.disk name bytes
  pub others : OthersStay before.disk after.disk name
  pub well : after.failed ≡ before.failed

-- A write of a file failed; that file is as it was, unless it is written in place, and so is every
-- other file.
pub record FailsToWrite (before after : Storage) (name : List ℕ) : Type 0 where
  pub failed : after.failed ≡ true
  pub kept : IsKept (before.in_place name) before.disk after.disk name
  pub others : OthersStay before.disk after.disk name

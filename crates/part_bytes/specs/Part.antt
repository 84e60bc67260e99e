-- A part of an object: what is known of it. And the one spelling of each part. Numbers are little-endian.
use Rattle.std.specs.Prelude.{◌≡◌, ℕ, ◌+◌, ◌*◌, ◌-◌, ◌^◌, ◌<◌, ◌≤◌, ◌⊎◌, List, [], ◌∷◌, ◌++◌, Option, Some, None}
use Rattle.std.specs.Prelude.{length, min}
use Rattle.std.specs.Ordering.{nat_cmp}
use Rattle.std.specs.List.{flat_map, AllByRecursion}
use Rattle.std.specs.Cmp.Lexicographic.{slice_cmp}
use Rattle.std.specs.declared.cmp.Ordering.TheVariants.{Less}
use Rattle.byteorder.specs.Endian.{little_bytes}
use Rattle.object_store.specs.declared.limits.TheConstants.{XATTR_LIMIT, KEY_LIMIT, NAME_LIMIT, VALUE_LIMIT}
use Rattle.part_bytes.specs.declared.limits.TheConstants.{BLOCK, BLOCK_LIMIT, INTERVAL_LIMIT, PLACE_LIMIT}

-- ---- what is known

-- a block of the data: its number, and its bytes
abbrev pub Block : Type 0
Block = ℕ × List ℕ

-- an interval of names, from the first place to below the second; an empty second place is the end
abbrev pub Interval : Type 0
Interval = List ℕ × List ℕ

-- a name and its value
abbrev pub Entry : Type 0
Entry = List ℕ × List ℕ

-- what is known of the xattrs, or of the keys: every name in the intervals
pub record Names : Type 0 where
  pub intervals : List Interval
  pub entries : List Entry

-- what is known of an object that is there
pub record Content : Type 0 where
  pub size : ℕ
  pub blocks : List Block
  pub xattrs : Names
  pub keys : Names

-- a part: none if the object is absent
abbrev pub PlainPart : Type 0
PlainPart = Option Content

-- ---- what is a part

-- each item is as it may be after the one before it; the first is after s
abbrev pub AreInTurn : {S X : Type 0} → (S → X → Type 0) → (X → S) → S → List X → Type 0
AreInTurn Is next s [] = Unit {0}
AreInTurn Is next s (x ∷ xs) = Is s x × AreInTurn Is next (next x) xs

-- a name is below another, by bytes
abbrev pub IsBelow : List ℕ → List ℕ → Type 0
IsBelow a b = slice_cmp nat_cmp a b ≡ Less

-- the bytes that a block of an object of that size has
abbrev pub block_length : ℕ → ℕ → ℕ
block_length size number = min BLOCK (size - BLOCK * number)

-- a block of an object of that size, with this number or a greater one
pub record IsBlock (size least : ℕ) (b : Block) : Type 0 where
  pub from : least ≤ b.0
  pub begins : BLOCK * b.0 < size
  pub length : length b.1 ≡ block_length size b.0

-- the next block's number is greater
abbrev pub after_block : Block → ℕ
after_block b = b.0 + 1

-- an interval may begin there: it is the first, or the one before it ends below
abbrev pub IsBegin : Option (List ℕ) → List ℕ → Type 0
IsBegin None low = Unit {0}
IsBegin (Some end) low = (1 ≤ length end) × IsBelow end low

-- an interval after the one that has this end
pub record IsInterval (before : Option (List ℕ)) (i : Interval) : Type 0 where
  pub low : length i.0 ≤ PLACE_LIMIT
  pub high : length i.1 ≤ PLACE_LIMIT
  pub rises : (i.1 ≡ []) ⊎ IsBelow i.0 i.1
  pub begins : IsBegin before i.0

-- the end that the next interval begins above
abbrev pub after_interval : Interval → Option (List ℕ)
after_interval i = Some i.1

-- an entry whose name is above the one before it
pub record IsEntry (before : List ℕ) (e : Entry) : Type 0 where
  pub above : IsBelow before e.0
  pub some : 1 ≤ length e.0
  pub name : length e.0 ≤ NAME_LIMIT
  pub value : length e.1 ≤ VALUE_LIMIT

-- the next entry's name is above this one's
abbrev pub after_entry : Entry → List ℕ
after_entry e = e.0

-- the intervals are in order, none touches the next
abbrev pub AreIntervals : List Interval → Type 0
AreIntervals is = AreInTurn IsInterval after_interval None is

-- the names rise, and are above the empty one
abbrev pub AreEntries : List Entry → Type 0
AreEntries es = AreInTurn IsEntry after_entry [] es

-- the name lies in the interval
pub record Holds (i : Interval) (name : List ℕ) : Type 0 where
  pub from : ¬ IsBelow name i.0
  pub to : (i.1 ≡ []) ⊎ IsBelow name i.1

-- the name lies in one of the intervals
abbrev pub IsHeld : List Interval → List ℕ → Type 0
IsHeld [] name = ⊥
IsHeld (i ∷ is) name = Holds i name ⊎ IsHeld is name

-- at most that many entries, each in an interval
pub record AreNames (most : ℕ) (n : Names) : Type 0 where
  pub few_intervals : length n.intervals ≤ INTERVAL_LIMIT
  pub intervals : AreIntervals n.intervals
  pub few_entries : length n.entries ≤ most
  pub entries : AreEntries n.entries
  pub held : AllByRecursion (λ (e : Entry). IsHeld n.intervals e.0) n.entries

-- what may be known of an object that is there
pub record IsContent (c : Content) : Type 0 where
  pub size : c.size < 2 ^ 63
  pub few_blocks : length c.blocks ≤ BLOCK_LIMIT
  pub blocks : AreInTurn (IsBlock c.size) after_block 0 c.blocks
  pub xattrs : AreNames XATTR_LIMIT c.xattrs
  pub keys : AreNames KEY_LIMIT c.keys

-- what may be known of an object
abbrev pub IsPart : PlainPart → Type 0
IsPart None = Unit {0}
IsPart (Some c) = IsContent c

-- ---- its spelling

-- a text after its length
abbrev pub text_bytes : List ℕ → List ℕ
text_bytes text = little_bytes 2 (length text) ++ text

-- two texts, as an interval's places, or a name and its value
abbrev pub pair_bytes : List ℕ × List ℕ → List ℕ
pair_bytes p = text_bytes p.0 ++ text_bytes p.1

-- a block's number and its bytes, whose length its number says
abbrev pub block_bytes : Block → List ℕ
block_bytes b = little_bytes 8 b.0 ++ b.1

-- intervals after their count, and entries after theirs
abbrev pub names_bytes : Names → List ℕ
names_bytes n =
    (little_bytes 2 (length n.intervals) ++ flat_map pair_bytes n.intervals)
    ++ (little_bytes 2 (length n.entries) ++ flat_map pair_bytes n.entries)

-- the size, blocks after their count, xattrs and keys
abbrev pub content_bytes : Content → List ℕ
content_bytes c =
    little_bytes 8 c.size
    ++ ((little_bytes 4 (length c.blocks) ++ flat_map block_bytes c.blocks)
    ++ (names_bytes c.xattrs ++ names_bytes c.keys))

-- 0 for an object that is absent, and else 1 and what is known of it
abbrev pub part_bytes : PlainPart → List ℕ
part_bytes None = 0 ∷ []
part_bytes (Some c) = 1 ∷ content_bytes c

-- the bytes are the spelling of a part
pub record Spells (bytes : List ℕ) (p : PlainPart) : Type 0 where
  pub part : IsPart p
  pub spelled : part_bytes p ≡ bytes

-- ---- all names are known

-- one interval, from the empty name to the end
abbrev pub Everything : List Interval
Everything = ([], []) ∷ []

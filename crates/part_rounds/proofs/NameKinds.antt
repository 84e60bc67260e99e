-- Xattrs and keys, by their kind: true for keys, false for xattrs.
use Rattle.std.proofs.Common.{◌≡◌, ℕ, Bool, true, false, not, List, [], Option, Some, None, is_some, length, refl, ap, subst, arith}
use Rattle.std.specs.Prelude.{if◌then◌else◌}
use Rattle.std.specs.FinMap as fin
use Rattle.shared_map.specs.Entries.{key_above}
use Rattle.object_store.specs.Object.{Attributes, Content, PlainObject, content_of, IsName}
use Rattle.object_store.specs.Limits.{IsAnyObject}
use Rattle.helpers.specs.declared.helper.Helper.{Helper}
use Rattle.helpers.specs.declared.helper.Helper.TheVariants.{Stat, Read, Write, Truncate, Remove, GetXattr, SetXattr, RmXattr, MapGet, MapSet, MapRm, MapNext, OutLen, Create, Caller, Compare, Copy, XattrNext}
use Rattle.helpers.specs.declared.errno.TheConstants.{EINVAL, ENODATA}
use Rattle.helpers.specs.Effect.{Given, number, text, refused, changes, on_present}
use Rattle.helpers.specs.Table.{row}
use Rattle.object_store.specs.Calls.{is_named_within}
use Rattle.part_bytes.specs.declared.need.Need.{Need}
use Rattle.part_bytes.specs.declared.need.Need.TheVariants.{Blocks, Xattr, Key, KeyFrom, XattrFrom}
use Rattle.part_names.specs.Order.{is_held, least_from}
use Rattle.part_names.specs.Known.{PlainNames, Agrees}
use Rattle.part_names.specs.Answers.{IsGap}
use Rattle.part_names.specs.Changes.{none_there, with_entry, without_entry}
use Rattle.parts.specs.Known.{KnownObject, Stands}
use Rattle.parts.specs.Grows.{Grows, is_done}
use Rattle.parts.specs.Needs.{NeedsBlocks, NeedsXattr, NeedsKey, NeedsKeyFrom, NeedsXattrFrom}
use Rattle.part_calls.specs.Needed.{NeededBy}
use Rattle.part_calls.specs.Learned.{IsLearned, learned_keys, learned_xattrs}
use Rattle.part_calls.specs.More.{HasNeeded, KnowsMore}
use Rattle.part_rounds.specs.Counts.{removes_name}
use Rattle.part_rounds.specs.Rounds.{HasNamedOf, HoldNext}
use Rattle.part_rounds.proofs.Strings.{IsThere}

abbrev pub names_of : Bool → KnownObject → PlainNames
names_of true k = k.keys
names_of false k = k.xattrs

abbrev pub map_of : Bool → PlainObject → Attributes
map_of true o = (content_of o).omap
map_of false o = (content_of o).xattrs

-- the helpers that remove a name, and that look for the next one
abbrev pub rm_of : Bool → Helper
rm_of true = MapRm
rm_of false = RmXattr

abbrev pub next_of : Bool → Helper
next_of true = MapNext
next_of false = XattrNext

abbrev pub learned_of : Bool → Helper → Given → PlainNames → PlainNames
learned_of true h g = learned_keys h g
learned_of false h g = learned_xattrs h g

pub agrees_of : (b : Bool) (k : KnownObject) (o : PlainObject) → Stands k o → Agrees (names_of b k) (map_of b o)
agrees_of true k o s = s.keys
agrees_of false k o s = s.xattrs

pub learned_is : (b : Bool) (h : Helper) (g : Given) (old new : KnownObject) (answer : ℕ) → IsLearned h g old new answer →
    names_of b new ≡ (if is_done answer then learned_of b h g (names_of b old) else names_of b old)
learned_is true h g old new answer l = l.keys
learned_is false h g old new answer l = l.xattrs

pub grows_of : (b : Bool) (old new : KnownObject) → Grows old new → (name : List ℕ) → is_held (names_of b old).intervals name ≡ true → is_held (names_of b new).intervals name ≡ true
grows_of true old new g name h = g.keys name h
grows_of false old new g name h = g.xattrs name h

pub more_of : (b : Bool) (less more : KnownObject) → KnowsMore less more → (name : List ℕ) → is_held (names_of b less).intervals name ≡ true → is_held (names_of b more).intervals name ≡ true
more_of true less more k name h = k.keys.held name h
more_of false less more k name h = k.xattrs.held name h

-- ---- a name has a byte
pub named : (b : Bool) (o : PlainObject) → IsAnyObject o → (x : List ℕ) → IsThere (map_of b o) x → x ≡ [] → ⊥
named b None f x there e = none b (fin.get (map_of b None) x) refl there
  where
    empty : (b : Bool) → fin.get (map_of b None) x ≡ None
    empty true = fin.get-empty _ x
    empty false = fin.get-empty _ x

    none : (b : Bool) (v : Option (List ℕ)) → fin.get (map_of b None) x ≡ v → is_some (fin.get (map_of b None) x) ≡ true → ⊥
    none b v s t = cc (ap is_some (empty b), t)
named b (Some c) f x there e = by (fin.get (map_of b (Some c)) x) refl there
  where
    is_name : (b : Bool) (v : List ℕ) → fin.get (map_of b (Some c)) x ≡ Some v → IsName x
    is_name true v s = (f.omap x v s).0
    is_name false v s = (f.xattrs x v s).0

    by : (v : Option (List ℕ)) → fin.get (map_of b (Some c)) x ≡ v → is_some v ≡ true → ⊥
    by None s t = absurd (cc t)
    by (Some v) s t =
        let some = (is_name b v s).0 in
        let none : length x ≡ 0 = ap length e in
        omega (arith, some, none)

-- ---- what a helper that is done does to what is known of names
pub data Change (b : Bool) (h : Helper) (g : Given) : Type 0 where
  keeps : ((n : PlainNames) → learned_of b h g n ≡ n) → Change b h g
  sets : ((n : PlainNames) → learned_of b h g n ≡ with_entry n (text g 0) (text g 1)) → Change b h g
  removes : h ≡ rm_of b → ((n : PlainNames) → learned_of b h g n ≡ without_entry n (text g 0)) → Change b h g
  empties : ((n : PlainNames) → learned_of b h g n ≡ none_there n.most) → Change b h g

pub change : (b : Bool) (h : Helper) (g : Given) → Change b h g
change true Stat g = keeps (λ n. refl)
change true Read g = keeps (λ n. refl)
change true Write g = keeps (λ n. refl)
change true Truncate g = keeps (λ n. refl)
change true Remove g = empties (λ n. refl)
change true GetXattr g = keeps (λ n. refl)
change true SetXattr g = keeps (λ n. refl)
change true RmXattr g = keeps (λ n. refl)
change true MapGet g = keeps (λ n. refl)
change true MapSet g = sets (λ n. refl)
change true MapRm g = removes refl (λ n. refl)
change true MapNext g = keeps (λ n. refl)
change true OutLen g = keeps (λ n. refl)
change true Create g = keeps (λ n. refl)
change true Caller g = keeps (λ n. refl)
change true Compare g = keeps (λ n. refl)
change true Copy g = keeps (λ n. refl)
change true XattrNext g = keeps (λ n. refl)
change false Stat g = keeps (λ n. refl)
change false Read g = keeps (λ n. refl)
change false Write g = keeps (λ n. refl)
change false Truncate g = keeps (λ n. refl)
change false Remove g = empties (λ n. refl)
change false GetXattr g = keeps (λ n. refl)
change false SetXattr g = sets (λ n. refl)
change false RmXattr g = removes refl (λ n. refl)
change false MapGet g = keeps (λ n. refl)
change false MapSet g = keeps (λ n. refl)
change false MapRm g = keeps (λ n. refl)
change false MapNext g = keeps (λ n. refl)
change false OutLen g = keeps (λ n. refl)
change false Create g = keeps (λ n. refl)
change false Caller g = keeps (λ n. refl)
change false Compare g = keeps (λ n. refl)
change false Copy g = keeps (λ n. refl)
change false XattrNext g = keeps (λ n. refl)

-- one that removes a name and is done answers 0
zero_done : (named : Bool) (there : Content → Bool) (made : Content → PlainObject) (o : PlainObject) →
    is_done (if not named then refused EINVAL o else on_present o (λ c. if not (there c) then refused ENODATA (Some c) else changes (made c) 0)).answer ≡ true →
    (if not named then refused EINVAL o else on_present o (λ c. if not (there c) then refused ENODATA (Some c) else changes (made c) 0)).answer ≡ 0
zero_done false there made o done = absurd (cc done)
zero_done true there made None done = absurd (cc done)
zero_done true there made (Some c) done = by (there c) done
  where
    by : (t : Bool) → is_done (if not t then refused ENODATA (Some c) else changes (made c) 0).answer ≡ true → (if not t then refused ENODATA (Some c) else changes (made c) 0).answer ≡ 0
    by true d = refl
    by false d = absurd (cc d)

pub rm_answers : (b : Bool) (o : PlainObject) (g : Given) → is_done ((row (rm_of b)).effect o g).answer ≡ true → ((row (rm_of b)).effect o g).answer ≡ 0
rm_answers true o g done = zero_done (is_named_within g.limits.keys.length (text g 0)) (λ c. fin.contains_key c.omap (text g 0)) (λ c. Some (record c { omap = fin.remove c.omap (text g 0) })) o done
rm_answers false o g done = zero_done (is_named_within g.limits.xattrs.length (text g 0)) (λ c. fin.contains_key c.xattrs (text g 0)) (λ c. Some (record c { xattrs = fin.remove c.xattrs (text g 0) })) o done

pub rm_removes : (b : Bool) → removes_name (rm_of b) ≡ true
rm_removes true = refl
rm_removes false = refl

pub one_kind : (a b : Bool) → rm_of a ≡ rm_of b → a ≡ b
one_kind true true e = refl
one_kind true false e = absurd (cc e)
one_kind false true e = absurd (cc e)
one_kind false false e = refl

-- ---- what is needed from a place on
-- the kind and the place of a need
abbrev pub place_of : Need → Option (Bool × List ℕ)
place_of (Blocks first count) = None
place_of (Xattr name) = None
place_of (Key name) = None
place_of (KeyFrom place) = Some (true, place.items)
place_of (XattrFrom place) = Some (false, place.items)

abbrev pub GapOf : Bool → KnownObject → List ℕ → List ℕ → Type 0
GapOf b k bytes place = IsGap (names_of b k) (least_from bytes) (key_above (names_of b k).entries bytes) place

-- a need of that kind is the next name's, which isn't known from the place on
module _ (k : KnownObject) (g : Given) where
  abbrev IsGapAt : Helper → Need → Type 0
  IsGapAt h (Blocks first count) = Unit {0}
  IsGapAt h (Xattr name) = Unit {0}
  IsGapAt h (Key name) = Unit {0}
  IsGapAt h (KeyFrom place) = (h ≡ MapNext) × GapOf true k (text g 0) place.items
  IsGapAt h (XattrFrom place) = (h ≡ XattrNext) × GapOf false k (text g 0) place.items

  of_blocks : (h : Helper) (at n : ℕ) (need : Need) → NeedsBlocks k at n need → IsGapAt h need
  of_blocks h at n (Blocks first count) e = tt
  of_blocks h at n (Xattr name) e = tt
  of_blocks h at n (Key name) e = tt
  of_blocks h at n (KeyFrom place) e = absurd e
  of_blocks h at n (XattrFrom place) e = absurd e

  of_xattr : (h : Helper) (need : Need) → NeedsXattr g.limits k (text g 0) need → IsGapAt h need
  of_xattr h (Blocks first count) e = tt
  of_xattr h (Xattr name) e = tt
  of_xattr h (Key name) e = tt
  of_xattr h (KeyFrom place) e = absurd e
  of_xattr h (XattrFrom place) e = absurd e

  of_key : (h : Helper) (need : Need) → NeedsKey g.limits k (text g 0) need → IsGapAt h need
  of_key h (Blocks first count) e = tt
  of_key h (Xattr name) e = tt
  of_key h (Key name) e = tt
  of_key h (KeyFrom place) e = absurd e
  of_key h (XattrFrom place) e = absurd e

  of_key_from : (need : Need) → NeedsKeyFrom g.limits k (text g 0) need → IsGapAt MapNext need
  of_key_from (Blocks first count) e = tt
  of_key_from (Xattr name) e = tt
  of_key_from (Key name) e = tt
  of_key_from (KeyFrom place) e = (refl, e.gap)
  of_key_from (XattrFrom place) e = absurd e

  of_xattr_from : (need : Need) → NeedsXattrFrom g.limits k (text g 0) need → IsGapAt XattrNext need
  of_xattr_from (Blocks first count) e = tt
  of_xattr_from (Xattr name) e = tt
  of_xattr_from (Key name) e = tt
  of_xattr_from (KeyFrom place) e = absurd e
  of_xattr_from (XattrFrom place) e = (refl, e.gap)

  needed_gap : (h : Helper) (need : Need) → NeededBy h k g need → IsGapAt h need
  needed_gap Stat need n = absurd n
  needed_gap Read need n = of_blocks Read (number g 0) g.room need n
  needed_gap Write need n = absurd n
  needed_gap Truncate need n = absurd n
  needed_gap Remove need n = absurd n
  needed_gap GetXattr need n = of_xattr GetXattr need n
  needed_gap SetXattr need n = absurd n
  needed_gap RmXattr need n = of_xattr RmXattr need n
  needed_gap MapGet need n = of_key MapGet need n
  needed_gap MapSet need n = absurd n
  needed_gap MapRm need n = of_key MapRm need n
  needed_gap MapNext need n = of_key_from need n
  needed_gap OutLen need n = absurd n
  needed_gap Create need n = absurd n
  needed_gap Caller need n = absurd n
  needed_gap Compare need n = absurd n
  needed_gap Copy need n = absurd n
  needed_gap XattrNext need n = of_xattr_from need n

  pub gap_at : (h : Helper) (need : Need) (b : Bool) (p : List ℕ) → place_of need ≡ Some (b, p) → NeededBy h k g need → (h ≡ next_of b) × GapOf b k (text g 0) p
  gap_at h need b p e n = by need e (needed_gap h need n)
    where
      same : (x y : Bool × List ℕ) → Some x ≡ Some y → x ≡ y
      same x y e = cc

      by : (need : Need) → place_of need ≡ Some (b, p) → IsGapAt h need → (h ≡ next_of b) × GapOf b k (text g 0) p
      by (Blocks first count) e i = absurd (cc e)
      by (Xattr name) e i = absurd (cc e)
      by (Key name) e i = absurd (cc e)
      by (KeyFrom place) e i = subst (λ (x : Bool × List ℕ). (h ≡ next_of x.0) × GapOf x.0 k (text g 0) x.1) (same (true, place.items) (b, p) e) i
      by (XattrFrom place) e i = subst (λ (x : Bool × List ℕ). (h ≡ next_of x.0) × GapOf x.0 k (text g 0) x.1) (same (false, place.items) (b, p) e) i

  -- such a helper needs the next name alone
  pub place_at : (b : Bool) (need : Need) → NeededBy (next_of b) k g need → (p : List ℕ) × (place_of need ≡ Some (b, p))
  place_at true (Blocks first count) n = absurd n
  place_at true (Xattr name) n = absurd n
  place_at true (Key name) n = absurd n
  place_at true (KeyFrom place) n = (place.items, refl)
  place_at true (XattrFrom place) n = absurd n
  place_at false (Blocks first count) n = absurd n
  place_at false (Xattr name) n = absurd n
  place_at false (Key name) n = absurd n
  place_at false (KeyFrom place) n = absurd n
  place_at false (XattrFrom place) n = (place.items, refl)

-- what a part has of the next name
pub next_held : (o : PlainObject) (k : KnownObject) (need : Need) → HasNamedOf o k need → (b : Bool) (p : List ℕ) → place_of need ≡ Some (b, p) → HoldNext (map_of b o) (names_of b k).intervals p
next_held o k need has b p e = by need has e
  where
    same : (x y : Bool × List ℕ) → Some x ≡ Some y → x ≡ y
    same x y e = cc

    by : (need : Need) → HasNamedOf o k need → place_of need ≡ Some (b, p) → HoldNext (map_of b o) (names_of b k).intervals p
    by (Blocks first count) h e = absurd (cc e)
    by (Xattr name) h e = absurd (cc e)
    by (Key name) h e = absurd (cc e)
    by (KeyFrom place) h e = subst (λ (x : Bool × List ℕ). HoldNext (map_of x.0 o) (names_of x.0 k).intervals x.1) (same (true, place.items) (b, p) e) h
    by (XattrFrom place) h e = subst (λ (x : Bool × List ℕ). HoldNext (map_of x.0 o) (names_of x.0 k).intervals x.1) (same (false, place.items) (b, p) e) h

-- a need is of blocks or a name, or from a place on
pub data Sort (o : PlainObject) (k : KnownObject) (need : Need) : Type 0 where
  plain : HasNeeded k need → Sort o k need
  placed : (b : Bool) → (p : List ℕ) → place_of need ≡ Some (b, p) → Sort o k need

pub sort : (o : PlainObject) (k : KnownObject) (need : Need) → HasNamedOf o k need → Sort o k need
sort o k (Blocks first count) h = plain h
sort o k (Xattr name) h = plain h
sort o k (Key name) h = plain h
sort o k (KeyFrom place) h = placed true place.items refl
sort o k (XattrFrom place) h = placed false place.items refl

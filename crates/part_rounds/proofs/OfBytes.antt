-- The same of calls of a class on parts that are bytes.
use Rattle.std.proofs.Common.{◌≡◌, ◌∙◌, inl, inr, ℕ, suc, ◌+◌, ◌<◌, ◌≤◌, Bool, true, false, List, [], ◌∷◌, Some, None, length, refl, ap, sym, subst}
use Rattle.std.specs.Prelude.{◌⊎◌}
use Rattle.std.proofs.lemmas.Option.{same_Some}
use Rattle.bpf_decode.specs.Class.{ClassMethod}
use Rattle.object_store.specs.declared.limits.Limits.{Limits}
use Rattle.object_store.specs.Object.{PlainObject}
use Rattle.interp.specs.Plain.{method_named}
use Rattle.part_bytes.specs.Part.{PlainPart}
use Rattle.part_bytes.specs.declared.need.Need.{Need}
use Rattle.part_bytes.specs.declared.need.Need.TheVariants.{Blocks, Xattr, Key, KeyFrom, XattrFrom}
use Rattle.part_names.specs.Order.{is_held}
use Rattle.parts.specs.Known.{KnownObject}
use Rattle.parts.specs.Agreed.{AgreesPart, KnowsPart}
use Rattle.part_calls.specs.Parts.{Comes}
use Rattle.class_calls.proofs.OnParts.{OnePart}
use Rattle.class_calls.specs.OnParts.{HasNamed, HasPart, IsNameThere, IsNeededOnce, MoreOfPartStopsNoEarlier}
use Rattle.part_rounds.specs.Rounds.{HoldNext, Round, calls_on, last_stop, removals_on}
use Rattle.part_rounds.specs.ClassRounds.{AreNextParts, ClassRound, HasAllNamed, IsNextPart, PartRoundsAreFew, PartRoundsAreFewInRun, last_part_stop}
use Rattle.part_rounds.proofs.NameKinds.{map_of, names_of, place_of}
use Rattle.part_rounds.proofs.Rounds.{AllFollow, Follows, few, in_run}

-- ---- what a part has is held
module _ (o : PlainObject) (p q : PlainPart) (j k : KnownObject) (x : KnowsPart p j) (y : KnowsPart q k) where
  wider : AgreesPart p o → AgreesPart q o → HasPart p q → (b : Bool) (a : List ℕ) → is_held (names_of b j).intervals a ≡ true → is_held (names_of b k).intervals a ≡ true
  wider agree agree_more has b a h = by o p q agree agree_more has x y b h
    where
      by : (o : PlainObject) (p q : PlainPart) → AgreesPart p o → AgreesPart q o → HasPart p q → KnowsPart p j → KnowsPart q k → (b : Bool) → is_held (names_of b j).intervals a ≡ true → is_held (names_of b k).intervals a ≡ true
      by o p None u v has x y true h = y.keys_held a
      by o p None u v has x y false h = y.xattrs_held a
      by None None (Some d) u v has x y b h = absurd v
      by (Some c) None (Some d) u v has x y b h = absurd u
      by o (Some c) (Some d) u v has x y true h = (y.keys_held a).1 (has.keys a ((x.keys_held a).0 h))
      by o (Some c) (Some d) u v has x y false h = (y.xattrs_held a).1 (has.xattrs a ((x.xattrs_held a).0 h))

there_key : (q : PlainPart) (k : KnownObject) → KnowsPart q k → (a : List ℕ) → IsNameThere (λ c. c.keys) q a → is_held k.keys.intervals a ≡ true
there_key None k y a h = absurd h
there_key (Some c) k y a h = (y.keys_held a).1 h

there_xattr : (q : PlainPart) (k : KnownObject) → KnowsPart q k → (a : List ℕ) → IsNameThere (λ c. c.xattrs) q a → is_held k.xattrs.intervals a ≡ true
there_xattr None k y a h = absurd h
there_xattr (Some c) k y a h = (y.xattrs_held a).1 h

next_there : (o : PlainObject) (q : PlainPart) (k : KnownObject) → KnowsPart q k → (need : Need) → HasAllNamed o q need → (b : Bool) (p : List ℕ) → place_of need ≡ Some (b, p) → HoldNext (map_of b o) (names_of b k).intervals p
next_there o q k y need has b p e = by need has e
  where
    same : (x y : Bool × List ℕ) → Some x ≡ Some y → x ≡ y
    same x y e = cc

    by : (need : Need) → HasAllNamed o q need → place_of need ≡ Some (b, p) → HoldNext (map_of b o) (names_of b k).intervals p
    by (Blocks first count) h e = absurd (cc e)
    by (Xattr name) h e = absurd (cc e)
    by (Key name) h e = absurd (cc e)
    by (KeyFrom place) h e = subst (λ (x : Bool × List ℕ). HoldNext (map_of x.0 o) (names_of x.0 k).intervals x.1) (same (true, place.items) (b, p) e) (λ a from to. there_key q k y a (h a from to))
    by (XattrFrom place) h e = subst (λ (x : Bool × List ℕ). HoldNext (map_of x.0 o) (names_of x.0 k).intervals x.1) (same (false, place.items) (b, p) e) (λ a from to. there_xattr q k y a (h a from to))

-- a need of blocks or a name, or from a place on
data Sort (q : PlainPart) (need : Need) : Type 0 where
  plain : HasNamed q need → Sort q need
  placed : (b : Bool) → (p : List ℕ) → place_of need ≡ Some (b, p) → Sort q need

sort : (o : PlainObject) (q : PlainPart) (need : Need) → HasAllNamed o q need → Sort q need
sort o q (Blocks first count) h = plain h
sort o q (Xattr name) h = plain h
sort o q (Key name) h = plain h
sort o q (KeyFrom place) h = placed true place.items refl
sort o q (XattrFrom place) h = placed false place.items refl

-- ---- rounds
module _ (one_part : OnePart) (no_earlier : MoreOfPartStopsNoEarlier) (needed_once : IsNeededOnce)
    (class : List ClassMethod) (name : List ℕ) (caller : ℕ) (limits : Limits) (input : List ℕ) (o : PlainObject)
    (m : ClassMethod) (is : method_named class name ≡ Some m) where
  abbrev OnBytes : Type 0
  OnBytes = ClassRound class name caller limits input o

  one_method : (r : OnBytes) → r.stops.method ≡ m
  one_method r = same_Some r.stops.method m (sym r.stops.named ∙ is)

  the_part : (r : OnBytes) → r.part ≡ r.stops.plain
  the_part r = one_part r.part r.stops.plain r.is_part.spelled.part r.stops.spelled.spelled.part (r.is_part.spelled.spelled ∙ sym r.stops.spelled.spelled.spelled)

  knows : (r : OnBytes) → KnowsPart r.part r.stops.known
  knows r = subst (λ (p : PlainPart). KnowsPart p r.stops.known) (sym (the_part r)) r.stops.says.knows

  abbrev rounded : OnBytes → Round limits m o caller input
  rounded r = record {
    part = r.stops.known;
    may_be = record {
      stands = (r.stops.says.agree o).0 (subst (λ (p : PlainPart). AgreesPart p o) (the_part r) r.is_part.agrees);
      formed = r.is_part.formed;
    };
    need = r.need;
    stops = record {
      steps = r.stops.stops.steps;
      id = r.stops.stops.id;
      helper = r.stops.stops.helper;
      given = r.stops.stops.given;
      known = r.stops.stops.known;
      found = r.stops.stops.found;
      comes = λ o may. subst (λ (m : ClassMethod). Comes limits m o caller input r.stops.stops.steps r.stops.stops.id r.stops.stops.helper r.stops.stops.given r.stops.known r.stops.stops.known) (one_method r) (r.stops.stops.comes o may);
      grows = r.stops.stops.grows;
      stops = r.stops.stops.stops;
    };
  }

  follows : (r s : OnBytes) → IsNextPart r s → Follows limits m o caller input (rounded r) (rounded s)
  follows r s next = record {
    more = wider o r.part s.part r.stops.known s.stops.known (knows r) (knows s) r.is_part.agrees s.is_part.agrees next.more;
    later = no_earlier class name r.bytes s.bytes caller limits input r.part s.part o r.is_part s.is_part next.more r.need s.need r.stops s.stops;
    next = next_there o s.part s.stops.known (knows s) r.need next.named;
    once = by (sort o s.part r.need next.named);
  }
    where
      by : Sort s.part r.need → ((b : Bool) × (p : List ℕ) × (place_of r.need ≡ Some (b, p))) ⊎ (r.stops.stops.steps < s.stops.stops.steps)
      by (placed b p e) = inl (b, p, e)
      by (plain has) = inr (needed_once class name r.bytes s.bytes caller limits input r.part s.part o r.is_part s.is_part next.more r.need s.need has r.stops s.stops)

  abbrev all_rounded : List OnBytes → List (Round limits m o caller input)
  all_rounded [] = []
  all_rounded (r ∷ rounds) = rounded r ∷ all_rounded rounds

  all_follow : (r : OnBytes) (rounds : List OnBytes) → AreNextParts r rounds → AllFollow limits m o caller input (rounded r) (all_rounded rounds)
  all_follow r [] are = tt
  all_follow r (s ∷ rounds) are = (follows r s are.0, all_follow s rounds are.1)

  as_many : (rounds : List OnBytes) → length (all_rounded rounds) ≡ length rounds
  as_many [] = refl
  as_many (r ∷ rounds) = ap suc (as_many rounds)

  last_is : (r : OnBytes) (rounds : List OnBytes) → last_stop (rounded r) (all_rounded rounds) ≡ last_part_stop r rounds
  last_is r [] = refl
  last_is r (s ∷ rounds) = last_is s rounds

  pub few_of_bytes : (r : OnBytes) (rounds : List OnBytes) → AreNextParts r rounds →
      length (r ∷ rounds) ≤ calls_on limits m o caller input (suc (last_part_stop r rounds)) + removals_on limits m o caller input (last_part_stop r rounds)
  few_of_bytes r rounds are =
      subst (λ n. suc (length rounds) ≤ calls_on limits m o caller input (suc n) + removals_on limits m o caller input n) (last_is r rounds)
      (subst (λ n. suc n ≤ calls_on limits m o caller input (suc (last_stop (rounded r) (all_rounded rounds))) + removals_on limits m o caller input (last_stop (rounded r) (all_rounded rounds))) (as_many rounds)
      (few limits m o caller input (rounded r) (all_rounded rounds) (all_follow r rounds are)))

  pub few_of_bytes_in_run : (r : OnBytes) (rounds : List OnBytes) → AreNextParts r rounds → (n : ℕ) → last_part_stop r rounds < n →
      length (r ∷ rounds) ≤ calls_on limits m o caller input n + removals_on limits m o caller input n
  few_of_bytes_in_run r rounds are n lt =
      subst (λ k. suc k ≤ calls_on limits m o caller input n + removals_on limits m o caller input n) (as_many rounds)
      (in_run limits m o caller input (suc (length (all_rounded rounds))) (rounded r) (all_rounded rounds) n (subst (λ k. k < n) (sym (last_is r rounds)) lt)
      (few limits m o caller input (rounded r) (all_rounded rounds) (all_follow r rounds are)))

pub part_rounds_are_few : OnePart → MoreOfPartStopsNoEarlier → IsNeededOnce → PartRoundsAreFew
part_rounds_are_few one_part no_earlier needed_once class name caller limits input o m is = few_of_bytes one_part no_earlier needed_once class name caller limits input o m is

pub part_few_in_run : OnePart → MoreOfPartStopsNoEarlier → IsNeededOnce → PartRoundsAreFewInRun
part_few_in_run one_part no_earlier needed_once class name caller limits input o m is = few_of_bytes_in_run one_part no_earlier needed_once class name caller limits input o m is

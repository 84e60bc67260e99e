-- What a call on a part needs isn't in the part.
use Rattle.std.proofs.Common.{◌≡◌, ◌∙◌, inl, inr, ℕ, ◌*◌, ◌/◌, ◌≤◌, Bool, true, false, ◌||◌, List, [], ◌∷◌, Option, Some, None, IsSome, is_some, refl, ap, sym, subst, arith}
use Rattle.std.specs.Prelude.{◌⊎◌}
use Rattle.std.proofs.lemmas.Bool.{cases_lt}
use Rattle.std.proofs.lemmas.Option.{same_Some}
use Rattle.object_store.specs.Object.{PlainObject}
use Rattle.bpf_decode.specs.Class.{ClassMethod}
use Rattle.object_store.specs.declared.limits.Limits.{Limits}
use Rattle.helpers.specs.declared.helper.Helper.{Helper}
use Rattle.helpers.specs.declared.helper.Helper.TheVariants.{Stat, Read, Write, Truncate, Remove, GetXattr, SetXattr, RmXattr, MapGet, MapSet, MapRm, MapNext, OutLen, Create, Caller, Compare, Copy, XattrNext}
use Rattle.helpers.specs.Effect.{Given, number, text}
use Rattle.part_bytes.specs.Part.{Block, Content, Interval, PlainPart, Everything, IsBelow, IsHeld}
use Rattle.part_bytes.specs.declared.need.Need.{Need}
use Rattle.part_bytes.specs.declared.need.Need.TheVariants.{Blocks, Xattr, Key, KeyFrom, XattrFrom}
use Rattle.part_data.specs.Known.{blocks_of, known, IsBlockKnown}
use Rattle.part_names.specs.Known.{PlainNames, is_known}
use Rattle.part_names.specs.Order.{is_held}
use Rattle.parts.specs.Known.{KnownObject}
use Rattle.parts.specs.Grows.{Grows}
use Rattle.parts.specs.Agreed.{AgreesPart, IsInBlock, KnowsAll, KnowsContent, KnowsPart}
use Rattle.parts.specs.Needs.{NeedsBlocks, NeedsXattr, NeedsKey, NeedsKeyFrom, NeedsXattrFrom}
use Rattle.parts.specs.declared.stop.Stop.{Stop}
use Rattle.parts.specs.declared.stop.Stop.TheVariants as stop
use Rattle.part_calls.specs.Needed.{NeededBy}
use Rattle.part_calls.specs.Parts.{Comes, MayBe, StopsPart}
use Rattle.part_calls.specs.More.{HasNeeded, KnowsMore, MoreIsEnough, MoreStopsNoEarlier, NeededOnce}
use Rattle.class_calls.proofs.OnParts.{OnePart}
use Rattle.class_calls.specs.Parts.{HasBlock, IsNoBlock, IsNotHeld, IsNotIn, IsLacking}
use Rattle.class_calls.specs.OnParts.{AllIsEnough, HasAll, HasContent, HasNamed, HasPart, IsBlockThere, IsNameThere, IsNeededOnce, MoreOfPartIsEnough, MoreOfPartStopsNoEarlier}

-- the block of a position
pub block_has : (bs : List Block) (n p : ℕ) → p / 4096 ≡ n → HasBlock bs n → IsInBlock bs p
block_has [] n p e h = h
block_has (b ∷ bs) n p e (inl is) = inl (e ∙ is)
block_has (b ∷ bs) n p e (inr h) = inr (block_has bs n p e h)

not_some : (o : Option ℕ) → o ≡ None → IsSome o → ⊥
not_some None e s = cc
not_some (Some v) e s = cc

held_known : (n : PlainNames) (name : List ℕ) → is_known n name ≡ false → is_held n.intervals name ≡ true → ⊥
held_known n name not held = by (is_some _) (is_held n.intervals name) not held
  where
    by : (a b : Bool) → (a || b) ≡ false → b ≡ true → ⊥
    by true b p q = cc
    by false b p q = cc

module _ (p : PlainPart) (k last : KnownObject) (knows : KnowsPart p k) (grows : Grows k last) where
  block_not : (first : ℕ) → ((at : ℕ) → at / 4096 ≡ first → known last.bytes at ≡ None) → IsNoBlock p first
  block_not first none = by p knows
    where
      here : (first * 4096) / 4096 ≡ first
      here = omega arith

      unknown : IsSome (known k.bytes (first * 4096)) → ⊥
      unknown s = not_some (known last.bytes (first * 4096)) (none (first * 4096) here) (grows.bytes (first * 4096) s)

      by : (p : PlainPart) → KnowsPart p k → IsNoBlock p first
      by None all = unknown (all.bytes (first * 4096))
      by (Some c) some = (
        elim (cases_lt first (blocks_of c.size)) [
          | inl lt ↦ lt
          | inr past ↦ absurd (unknown ((some.bytes (first * 4096)).1 (inr (subst (λ n. blocks_of c.size ≤ n) (sym here) past))))
        ],
        λ has. unknown ((some.bytes (first * 4096)).1 (inl (block_has c.blocks first (first * 4096) here has))),
      )

  xattr_not : (name : List ℕ) → is_known last.xattrs name ≡ false → is_held k.xattrs.intervals name ≡ true → ⊥
  xattr_not name not held = held_known last.xattrs name not (grows.xattrs name held)

  key_not : (name : List ℕ) → is_known last.keys name ≡ false → is_held k.keys.intervals name ≡ true → ⊥
  key_not name not held = held_known last.keys name not (grows.keys name held)

  -- a name, or a place
  xattr_lacks : (q : PlainPart) (name : List ℕ) → is_known last.xattrs name ≡ false → KnowsPart q k → IsNotHeld (λ c. c.xattrs) q name
  xattr_lacks None name not all = xattr_not name not (all.xattrs_held name)
  xattr_lacks (Some c) name not some = λ held. xattr_not name not ((some.xattrs_held name).1 held)

  key_lacks : (q : PlainPart) (name : List ℕ) → is_known last.keys name ≡ false → KnowsPart q k → IsNotHeld (λ c. c.keys) q name
  key_lacks None name not all = key_not name not (all.keys_held name)
  key_lacks (Some c) name not some = λ held. key_not name not ((some.keys_held name).1 held)

  -- what each kind of helper needs
  of_blocks : (at n : ℕ) (need : Need) → NeedsBlocks last at n need → IsNotIn p need
  of_blocks at n (Blocks first count) h = block_not first h.1.first
  of_blocks at n (Xattr needed) h = absurd h
  of_blocks at n (Key needed) h = absurd h
  of_blocks at n (KeyFrom place) h = absurd h
  of_blocks at n (XattrFrom place) h = absurd h

  of_xattr : (limits : Limits) (name : List ℕ) (need : Need) → NeedsXattr limits last name need → IsNotIn p need
  of_xattr limits name (Blocks first count) h = absurd h
  of_xattr limits name (Xattr needed) h = xattr_lacks p needed.items (ap (is_known last.xattrs) h.1 ∙ h.0.unknown) knows
  of_xattr limits name (Key needed) h = absurd h
  of_xattr limits name (KeyFrom place) h = absurd h
  of_xattr limits name (XattrFrom place) h = absurd h

  of_key : (limits : Limits) (key : List ℕ) (need : Need) → NeedsKey limits last key need → IsNotIn p need
  of_key limits key (Blocks first count) h = absurd h
  of_key limits key (Xattr needed) h = absurd h
  of_key limits key (Key needed) h = key_lacks p needed.items (ap (is_known last.keys) h.1 ∙ h.0.unknown) knows
  of_key limits key (KeyFrom place) h = absurd h
  of_key limits key (XattrFrom place) h = absurd h

  of_key_from : (limits : Limits) (key : List ℕ) (need : Need) → NeedsKeyFrom limits last key need → IsNotIn p need
  of_key_from limits key (Blocks first count) h = absurd h
  of_key_from limits key (Xattr needed) h = absurd h
  of_key_from limits key (Key needed) h = absurd h
  of_key_from limits key (KeyFrom place) h = key_lacks p place.items h.gap.unknown knows
  of_key_from limits key (XattrFrom place) h = absurd h

  of_xattr_from : (limits : Limits) (name : List ℕ) (need : Need) → NeedsXattrFrom limits last name need → IsNotIn p need
  of_xattr_from limits name (Blocks first count) h = absurd h
  of_xattr_from limits name (Xattr needed) h = absurd h
  of_xattr_from limits name (Key needed) h = absurd h
  of_xattr_from limits name (KeyFrom place) h = absurd h
  of_xattr_from limits name (XattrFrom place) h = xattr_lacks p place.items h.gap.unknown knows

  pub not_in : (h : Helper) (g : Given) (need : Need) → NeededBy h last g need → IsNotIn p need
  not_in Stat g need n = absurd n
  not_in Read g need n = of_blocks (number g 0) g.room need n
  not_in Write g need n = absurd n
  not_in Truncate g need n = absurd n
  not_in Remove g need n = absurd n
  not_in GetXattr g need n = of_xattr g.limits (text g 0) need n
  not_in SetXattr g need n = absurd n
  not_in RmXattr g need n = of_xattr g.limits (text g 0) need n
  not_in MapGet g need n = of_key g.limits (text g 0) need n
  not_in MapSet g need n = absurd n
  not_in MapRm g need n = of_key g.limits (text g 0) need n
  not_in MapNext g need n = of_key_from g.limits (text g 0) need n
  not_in OutLen g need n = absurd n
  not_in Create g need n = absurd n
  not_in Caller g need n = absurd n
  not_in Compare g need n = absurd n
  not_in Copy g need n = absurd n
  not_in XattrNext g need n = of_xattr_from g.limits (text g 0) need n

-- why a call on a part stops
pub lacking : (p : PlainPart) (k : KnownObject) → KnowsPart p k → (limits : Limits) (m : ClassMethod) (caller : ℕ) (input : List ℕ) (why : Stop) → StopsPart limits m k caller input why → IsLacking p why
lacking p k knows limits m caller input stop.NoMemory s = tt
lacking p k knows limits m caller input stop.Full s = tt
lacking p k knows limits m caller input (stop.Needs need) s = not_in p k s.known knows s.grows s.helper s.given need s.stops

-- ---- a part that has all lacks nothing
all_held : (is : List Interval) → is ≡ Everything → (name : List ℕ) → IsHeld is name
all_held is e name = subst (λ (v : List Interval). IsHeld v name) (sym e) (inl (record { from = λ b. least name b; to = inl refl }))
  where
    least : (name : List ℕ) → IsBelow name [] → ⊥
    least [] b = cc
    least (x ∷ xs) b = cc

pub all_lacks : (p : PlainPart) → HasAll p → (need : Need) → IsNotIn p need → ⊥
all_lacks None all (Blocks first count) n = n
all_lacks None all (Xattr name) n = n
all_lacks None all (Key name) n = n
all_lacks None all (KeyFrom place) n = n
all_lacks None all (XattrFrom place) n = n
all_lacks (Some c) all (Blocks first count) n = n.1 (all.0 first n.0)
all_lacks (Some c) all (Xattr name) n = n (all_held c.xattrs.intervals all.1 name.items)
all_lacks (Some c) all (Key name) n = n (all_held c.keys.intervals all.2 name.items)
all_lacks (Some c) all (KeyFrom place) n = n (all_held c.keys.intervals all.2 place.items)
all_lacks (Some c) all (XattrFrom place) n = n (all_held c.xattrs.intervals all.1 place.items)

pub all_is_enough : OnePart → AllIsEnough
all_is_enough one_part class name bytes caller limits input p spelled all need y =
    let same : y.plain ≡ p = one_part y.plain p y.spelled.spelled.part spelled.part (y.spelled.spelled.spelled ∙ sym spelled.spelled) in
    all_lacks p all need (subst (λ (q : PlainPart). IsNotIn q need) same y.lacking)

-- ---- a part that has more
has_block : (bs : List Block) (at : ℕ) → IsInBlock bs at → HasBlock bs (at / 4096)
has_block [] at h = h
has_block (b ∷ bs) at (inl e) = inl e
has_block (b ∷ bs) at (inr h) = inr (has_block bs at h)

knows_all : (j k : KnownObject) → KnowsAll k → KnowsMore j k
knows_all j k all = record {
  bytes = λ at s. all.bytes at;
  xattrs = record { held = λ name h. all.xattrs_held name; known = λ name h. all.xattrs name };
  keys = record { held = λ name h. all.keys_held name; known = λ name h. all.keys name };
}

module _ (p q : Content) (size : p.size ≡ q.size) (has : HasContent p q) (j k : KnownObject) (x : KnowsContent p j) (y : KnowsContent q k) where
  in_more : (at : ℕ) → IsInBlock p.blocks at ⊎ (blocks_of p.size ≤ at / 4096) → IsInBlock q.blocks at ⊎ (blocks_of q.size ≤ at / 4096)
  in_more at (inl h) = inl (block_has q.blocks (at / 4096) at refl (has.blocks (at / 4096) (has_block p.blocks at h)))
  in_more at (inr h) = inr (subst (λ n. blocks_of n ≤ at / 4096) size h)

  knows_content : KnowsMore j k
  knows_content = record {
    bytes = λ at s. (y.bytes at).1 (in_more at ((x.bytes at).0 s));
    xattrs = record {
      held = λ name h. (y.xattrs_held name).1 (has.xattrs name ((x.xattrs_held name).0 h));
      known = λ name h. (y.xattrs name).1 (has.xattrs name ((x.xattrs name).0 h));
    };
    keys = record {
      held = λ name h. (y.keys_held name).1 (has.keys name ((x.keys_held name).0 h));
      known = λ name h. (y.keys name).1 (has.keys name ((x.keys name).0 h));
    };
  }

knows_more : (p q : PlainPart) (o : PlainObject) → AgreesPart p o → AgreesPart q o → HasPart p q → (j k : KnownObject) → KnowsPart p j → KnowsPart q k → KnowsMore j k
knows_more p None o a b has j k x y = knows_all j k y
knows_more None (Some d) None a b has j k x y = absurd b
knows_more None (Some d) (Some c) a b has j k x y = absurd a
knows_more (Some c) (Some d) None a b has j k x y = absurd a
knows_more (Some c) (Some d) (Some o) a b has j k x y = knows_content c d (sym a.size ∙ b.size) has j k x y

pub more_of_part : OnePart → MoreIsEnough → MoreOfPartIsEnough
more_of_part one_part law class name part more caller limits input p q o ip iq has a x need y =
    let same : y.method ≡ x.method = same_Some y.method x.method (sym y.named ∙ x.named) in
    let is_p : p ≡ x.plain = one_part p x.plain ip.spelled.part x.spelled.spelled.part (ip.spelled.spelled ∙ sym x.spelled.spelled.spelled) in
    let is_q : q ≡ y.plain = one_part q y.plain iq.spelled.part y.spelled.spelled.part (iq.spelled.spelled ∙ sym y.spelled.spelled.spelled) in
    let may : MayBe x.known o = record { stands = (x.says.agree o).0 (subst (λ (r : PlainPart). AgreesPart r o) is_p ip.agrees); formed = ip.formed } in
    let may_more : MayBe y.known o = record { stands = (y.says.agree o).0 (subst (λ (r : PlainPart). AgreesPart r o) is_q iq.agrees); formed = iq.formed } in
    let knows = knows_more p q o ip.agrees iq.agrees has x.known y.known (subst (λ (r : PlainPart). KnowsPart r x.known) (sym is_p) x.says.knows) (subst (λ (r : PlainPart). KnowsPart r y.known) (sym is_q) y.says.knows) in
    let s = y.stops in
    let comes = subst (λ (m : ClassMethod). Comes limits m o caller input s.steps s.id s.helper s.given y.known s.known) same (s.comes o may_more) in
    law limits x.method o caller input x.known y.known knows a.steps (x.learns o may) s.steps s.id s.helper s.given s.known s.found comes need s.stops

pub no_earlier : OnePart → MoreStopsNoEarlier → MoreOfPartStopsNoEarlier
no_earlier one_part law class name part more caller limits input p q o ip iq has need other x y =
    let same : y.method ≡ x.method = same_Some y.method x.method (sym y.named ∙ x.named) in
    let is_p : p ≡ x.plain = one_part p x.plain ip.spelled.part x.spelled.spelled.part (ip.spelled.spelled ∙ sym x.spelled.spelled.spelled) in
    let is_q : q ≡ y.plain = one_part q y.plain iq.spelled.part y.spelled.spelled.part (iq.spelled.spelled ∙ sym y.spelled.spelled.spelled) in
    let may : MayBe x.known o = record { stands = (x.says.agree o).0 (subst (λ (r : PlainPart). AgreesPart r o) is_p ip.agrees); formed = ip.formed } in
    let may_more : MayBe y.known o = record { stands = (y.says.agree o).0 (subst (λ (r : PlainPart). AgreesPart r o) is_q iq.agrees); formed = iq.formed } in
    let knows = knows_more p q o ip.agrees iq.agrees has x.known y.known (subst (λ (r : PlainPart). KnowsPart r x.known) (sym is_p) x.says.knows) (subst (λ (r : PlainPart). KnowsPart r y.known) (sym is_q) y.says.knows) in
    let r = x.stops in
    let s = y.stops in
    let comes = subst (λ (m : ClassMethod). Comes limits m o caller input s.steps s.id s.helper s.given y.known s.known) same (s.comes o may_more) in
    law limits x.method o caller input x.known y.known knows r.steps r.id r.helper r.given r.known (r.comes o may) s.steps s.id s.helper s.given s.known s.found comes other s.stops

-- ---- what was needed
named_block : (q : PlainPart) (k : KnownObject) → KnowsPart q k → (n : ℕ) → IsBlockThere q n → IsBlockKnown k.bytes n
named_block None k knows n h = absurd h
named_block (Some c) k knows n h = λ p here. (knows.bytes p).1 (inl (block_has c.blocks n p here h))

named_xattr : (q : PlainPart) (k : KnownObject) → KnowsPart q k → (name : List ℕ) → IsNameThere (λ c. c.xattrs) q name → is_held k.xattrs.intervals name ≡ true
named_xattr None k knows name h = absurd h
named_xattr (Some c) k knows name h = (knows.xattrs_held name).1 h

named_key : (q : PlainPart) (k : KnownObject) → KnowsPart q k → (name : List ℕ) → IsNameThere (λ c. c.keys) q name → is_held k.keys.intervals name ≡ true
named_key None k knows name h = absurd h
named_key (Some c) k knows name h = (knows.keys_held name).1 h

named_known : (q : PlainPart) (k : KnownObject) → KnowsPart q k → (need : Need) → HasNamed q need → HasNeeded k need
named_known q k knows (Blocks first count) h = λ b from to. named_block q k knows b (h b from to)
named_known q k knows (Xattr name) h = named_xattr q k knows name.items h
named_known q k knows (Key name) h = named_key q k knows name.items h
named_known q k knows (KeyFrom place) h = h
named_known q k knows (XattrFrom place) h = h

pub needed_once : OnePart → NeededOnce → IsNeededOnce
needed_once one_part law class name part more caller limits input p q o ip iq has need other named x y =
    let same : y.method ≡ x.method = same_Some y.method x.method (sym y.named ∙ x.named) in
    let is_p : p ≡ x.plain = one_part p x.plain ip.spelled.part x.spelled.spelled.part (ip.spelled.spelled ∙ sym x.spelled.spelled.spelled) in
    let is_q : q ≡ y.plain = one_part q y.plain iq.spelled.part y.spelled.spelled.part (iq.spelled.spelled ∙ sym y.spelled.spelled.spelled) in
    let may : MayBe x.known o = record { stands = (x.says.agree o).0 (subst (λ (r : PlainPart). AgreesPart r o) is_p ip.agrees); formed = ip.formed } in
    let may_more : MayBe y.known o = record { stands = (y.says.agree o).0 (subst (λ (r : PlainPart). AgreesPart r o) is_q iq.agrees); formed = iq.formed } in
    let says_q = subst (λ (r : PlainPart). KnowsPart r y.known) (sym is_q) y.says.knows in
    let knows = knows_more p q o ip.agrees iq.agrees has x.known y.known (subst (λ (r : PlainPart). KnowsPart r x.known) (sym is_p) x.says.knows) says_q in
    let r = x.stops in
    let s = y.stops in
    let comes = subst (λ (m : ClassMethod). Comes limits m o caller input s.steps s.id s.helper s.given y.known s.known) same (s.comes o may_more) in
    law limits x.method o caller input x.known y.known knows r.steps r.id r.helper r.given r.known r.found (r.comes o may) need r.stops (named_known q y.known says_q need named) s.steps s.id s.helper s.given s.known s.found comes other s.stops

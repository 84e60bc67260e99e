-- What is known as a call begins is what the part says.
use Rattle.std.proofs.Common.{◌≡◌, ◌∙◌, ℕ, true, false, List, Option, Some, None, is_some, map, ap, sym, subst}
use Rattle.std.specs.Prelude.{◌↔◌}
use Rattle.std.specs.Borrow.{Bor}
use Rattle.std.specs.Option.{option_copied}
use Rattle.object_store.specs.Object.{PlainObject}
use Rattle.part_bytes.specs.declared.blocks.Block as block
use Rattle.part_bytes.specs.declared.part.ObjectPart.{ObjectPart}
use Rattle.part_bytes.specs.Part.{Content, Names, PlainPart, IsPart, IsContent, IsHeld}
use Rattle.part_bytes.specs.View.{block_view, names_view, content_view, part_view}
use Rattle.part_data.specs.Known.{known}
use Rattle.part_names.specs.Order.{Interval, is_held}
use Rattle.part_names.specs.Known.{PlainNames, is_known}
use Rattle.part_names.specs.Changes.{none_there}
use Rattle.part_names.proofs.Knowing.{all_are_known}
use Rattle.parts.specs.Known.{KnownObject, Stands}
use Rattle.parts.specs.Agreed.{AgreesPart, KnowsPart, HasAllNames}
use Rattle.parts.specs.inner.Part.{IsDataOf, IsNamesOf, interval_of}
use Rattle.parts.proofs.Blocks.{blocks_agree, agree_blocks, known_blocks}
use Rattle.parts.proofs.Intervals.{everything_held, held_so, so_held, whole_held}
use Rattle.parts.proofs.Entries.{names_agree, agree_names, known_is}

-- the intervals that are known are the part's
intervals_are : (n : Names) (k : PlainNames) → k.intervals ≡ map interval_of n.intervals → (name : List ℕ) → (is_held k.intervals name ≡ true) ↔ IsHeld n.intervals name
intervals_are n k is name = (
  λ h. so_held n.intervals name (ap (λ (v : List Interval). is_held v name) (sym is) ∙ h),
  λ h. ap (λ (v : List Interval). is_held v name) is ∙ held_so n.intervals name h,
)

-- ---- an object that is there
pub record IsBegun (q : PlainPart) (k : KnownObject) : Type 0 where
  pub stands : (o : PlainObject) → AgreesPart q o → Stands k o
  pub agrees : (o : PlainObject) → Stands k o → AgreesPart q o
  pub known : KnowsPart q k

module _ (p : Content) (k : KnownObject) (part : IsContent p) (there : k.present ≡ true) (blocks : IsDataOf p.size p.blocks k.bytes) (xattrs : IsNamesOf 32 p.xattrs k.xattrs) (keys : IsNamesOf 1024 p.keys k.keys) where
  stands : (o : PlainObject) → AgreesPart (Some p) o → Stands k o
  stands None a = absurd a
  stands (Some c) a = record {
    presence = sym there;
    bytes = blocks_agree p.size p.blocks k.bytes part.blocks blocks c.bytes a.size a.blocks;
    xattrs = names_agree 32 p.xattrs k.xattrs part.xattrs xattrs c.xattrs a.xattrs;
    keys = names_agree 1024 p.keys k.keys part.keys keys c.omap a.keys;
  }

  agrees : (o : PlainObject) → Stands k o → AgreesPart (Some p) o
  agrees None s = let h = s.presence in absurd (let f : false ≡ true = h ∙ there in cc)
  agrees (Some c) s = record {
    size = s.bytes.length ∙ blocks.size;
    blocks = agree_blocks p.size p.blocks k.bytes part.blocks blocks c.bytes s.bytes;
    xattrs = agree_names 32 p.xattrs k.xattrs part.xattrs xattrs c.xattrs s.xattrs;
    keys = agree_names 1024 p.keys k.keys part.keys keys c.omap s.keys;
  }

  begun : IsBegun (Some p) k
  begun = record {
    stands = stands;
    agrees = agrees;
    known = record {
      bytes = known_blocks p.size p.blocks k.bytes part.blocks blocks;
      xattrs = known_is 32 p.xattrs k.xattrs part.xattrs xattrs;
      keys = known_is 1024 p.keys k.keys part.keys keys;
      xattrs_held = intervals_are p.xattrs k.xattrs xattrs.intervals;
      keys_held = intervals_are p.keys k.keys keys.intervals;
    };
  }

-- of the part that is lent
module _ (lent : Option (Bor ObjectPart)) (p : Bor ObjectPart) (is : lent ≡ Some p) where
  plain : part_view (option_copied lent) ≡ Some (content_view p.now)
  plain = ap (λ (x : Option (Bor ObjectPart)). part_view (option_copied x)) is

  pub is_begun : (k : KnownObject) (items : List block.Block) → k.present ≡ true → items ≡ p.now.blocks.items → IsPart (part_view (option_copied lent)) → IsDataOf p.now.size (map block_view items) k.bytes → IsNamesOf 32 (names_view p.now.xattrs) k.xattrs → IsNamesOf 1024 (names_view p.now.keys) k.keys → IsBegun (part_view (option_copied lent)) k
  is_begun k items there same part blocks xattrs keys =
      let data_is = subst (λ (v : List block.Block). IsDataOf p.now.size (map block_view v) k.bytes) same blocks in
      subst (λ (q : PlainPart). IsBegun q k) (sym plain) (begun (content_view p.now) k (subst IsPart plain part) there data_is xattrs keys)

  -- all names of which all are said
  pub whole_names : (names : Content → Names) (most : ℕ) (n : PlainNames) → IsNamesOf most (names (content_view p.now)) n → HasAllNames names (part_view (option_copied lent)) → (name : List ℕ) → is_held n.intervals name ≡ true
  whole_names names most n of all name =
      ap (λ (v : List Interval). is_held v name) of.intervals
      ∙ whole_held (names (content_view p.now)).intervals (subst (HasAllNames names) plain all) name

-- ---- an object that is absent
module _ (names : PlainNames) (most : ℕ) (is : names ≡ none_there most) where
  pub absent_known : (name : List ℕ) → is_known names name ≡ true
  absent_known name = ap (λ (n : PlainNames). is_known n name) is ∙ all_are_known most name

  pub absent_held : (name : List ℕ) → is_held names.intervals name ≡ true
  absent_held name = ap (λ (n : PlainNames). is_held n.intervals name) is ∙ everything_held name

pub all_known : (lent : Option (Bor ObjectPart)) (k : KnownObject) → lent ≡ None → ((at : ℕ) → known k.bytes at ≡ Some 0) → k.xattrs ≡ none_there 32 → k.keys ≡ none_there 1024 → KnowsPart (part_view (option_copied lent)) k
all_known lent k is bytes xattrs keys =
    let plain : part_view (option_copied lent) ≡ None = ap (λ (x : Option (Bor ObjectPart)). part_view (option_copied x)) is in
    subst (λ (q : PlainPart). KnowsPart q k) (sym plain) (record {
      bytes = λ at. ap is_some (bytes at);
      xattrs = absent_known k.xattrs 32 xattrs;
      keys = absent_known k.keys 1024 keys;
      xattrs_held = absent_held k.xattrs 32 xattrs;
      keys_held = absent_held k.keys 1024 keys;
    })

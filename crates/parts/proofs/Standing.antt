-- Looking up and setting names of an object, whichever it is of those that stand.
use Rattle.std.proofs.Common.{◌≡◌, ◌≤◌, ℕ, Bool, true, false, not, List, [], ◌∷◌, Option, Some, None, is_some, refl, ap, sym, ◌∙◌, arith, length, nat_lt}
use Rattle.std.specs.Prelude.{if◌then◌else◌, IsTrue}
use Rattle.std.proofs.lemmas.Bool.{ltb-false}
use Rattle.object_store.specs.declared.limits.NameLimits.{NameLimits}
use Rattle.object_store.specs.declared.limits.TheConstants.{NAME_LIMIT, VALUE_LIMIT}
use Rattle.object_store.specs.Object.{Attributes, Content, PlainObject, content_of}
use Rattle.object_store.specs.Calls.{is_named_within, is_named}
use Rattle.txn.specs.Edits.{created}
use Rattle.txn.specs.Staging.{creation}
use Rattle.helpers.specs.declared.errno.TheConstants.{EINVAL, EFBIG, ENOSPC}
use Rattle.helpers.specs.Effect.{Effect, is_full}
use Rattle.helpers.specs.Table.{next_answer}
use Rattle.part_names.specs.Known.{PlainNames, Agrees}
use Rattle.part_names.specs.Order.{is_held}
use Rattle.part_names.specs.Changes.{none_there}
use Rattle.parts.specs.inner.Names.{above_answer, set_errno}

-- what is looked up above some bytes, of an object that is there or not
pub above_is : (names : Content → Attributes) (most : ℕ) (there : Bool) (o : PlainObject) (bytes : List ℕ) (room : ℕ) → is_some o ≡ there → above_answer there most (names (content_of o)) bytes room ≡ next_answer most names o bytes room
above_is names most there None bytes room e = ap (λ t. above_answer t most (names (content_of None)) bytes room) (sym e)
above_is names most there (Some c) bytes room e = ap (λ t. above_answer t most (names c) bytes room) (sym e)

-- the entries agree with themselves
pub own_entries : (names : PlainNames) → Agrees names names.entries
own_entries names name known = refl

-- a set that isn't refused
pub record Passes (limits : NameLimits) (m : Attributes) (name value : List ℕ) : Type 0 where
  pub named : is_named_within limits.length name ≡ true
  pub short : nat_lt VALUE_LIMIT (length value) ≡ false
  pub room : is_full limits.count m name ≡ false

some_none : (e : ℕ) → ◌≡◌ {A = Option ℕ} None (Some e) → ⊥
some_none e h = cc

abbrev errno_by : Bool → Bool → Bool → Option ℕ
errno_by a b c = if not a then Some EINVAL else if b then Some EFBIG else if c then Some ENOSPC else None

pub passes : (limits : NameLimits) (m : Attributes) (name value : List ℕ) → None ≡ set_errno limits m name value → Passes limits m name value
passes limits m name value e = by (is_named_within limits.length name) (nat_lt VALUE_LIMIT (length value)) (is_full limits.count m name) refl refl refl e
  where
    by : (a b c : Bool) → is_named_within limits.length name ≡ a → nat_lt VALUE_LIMIT (length value) ≡ b → is_full limits.count m name ≡ c → None ≡ errno_by a b c → Passes limits m name value
    by false b c p q r h = absurd (some_none _ h)
    by true true c p q r h = absurd (some_none _ h)
    by true false true p q r h = absurd (some_none _ h)
    by true false false p q r h = record { named = p; short = q; room = r }

-- what passes three tests
pub third : (a b c : Bool) (x y z w : Effect) → a ≡ true → b ≡ false → c ≡ false → (if not a then x else if b then y else if c then z else w) ≡ w
third a b c x y z w p q r =
    ap (λ a. if not a then x else if b then y else if c then z else w) p ∙ ap (λ b. if b then y else if c then z else w) q ∙ ap (λ c. if c then z else w) r

-- a name within a host's limit is a name
pub name_of : (most : ℕ) (name : List ℕ) → most ≤ NAME_LIMIT → is_named_within most name ≡ true → IsTrue (is_named name)
name_of most name le e = grind (arith, le, e)

pub name_short : (most : ℕ) (name : List ℕ) → most ≤ NAME_LIMIT → is_named_within most name ≡ true → length name ≤ NAME_LIMIT
name_short most name le e = grind (arith, le, e)

pub value_short : (value : List ℕ) → nat_lt VALUE_LIMIT (length value) ≡ false → length value ≤ VALUE_LIMIT
value_short value e = ltb-false VALUE_LIMIT (length value) e

-- the creation of an object that may be absent
pub creation_is : (o : PlainObject) (there : Bool) → is_some o ≡ there → creation (not there) ≡ created o
creation_is None there e = ap (λ t. creation (not t)) (sym e)
creation_is (Some c) there e = ap (λ t. creation (not t)) (sym e)

-- where all names are absent, all are known
pub all_held : (most : ℕ) (name : List ℕ) → IsTrue (is_held (none_there most).intervals name)
all_held most [] = refl
all_held most (x ∷ xs) = refl

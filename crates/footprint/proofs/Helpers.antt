-- A helper that code without some parts may call does on the reduced object what it does on the
-- whole one.
use Rattle.std.proofs.Common.{◌≡◌, ◌∙◌, ℕ, ◌+◌, Bool, true, false, List, [], Some, None, refl, ap, sym, subst, length}
use Rattle.std.specs.Prelude.{if◌then◌else◌, nat_lt, not, ◌==◌}
use Rattle.std.specs.FinMap as fin
use Rattle.object_store.specs.declared.limits.Limits.{Limits}
use Rattle.object_store.specs.declared.limits.TheConstants.{VALUE_LIMIT}
use Rattle.object_store.specs.Calls.{is_named_within}
use Rattle.object_store.specs.Object.{Attributes, Content, PlainObject, nothing, spliced, resized}
use Rattle.helpers.specs.declared.errno.TheConstants.{ENOENT, EEXIST, EINVAL, EFBIG, ENOSPC, ENODATA}
use Rattle.helpers.specs.declared.helper.Helper.{Helper}
use Rattle.helpers.specs.declared.helper.Helper.TheVariants.{Stat, Read, Write, Truncate, Remove, GetXattr, SetXattr, RmXattr, MapGet, MapSet, MapRm, MapNext, OutLen, Create, Caller, Compare, Copy, XattrNext}
use Rattle.helpers.specs.Effect.{Given, Answer, Effect, leaves, refused, changes, is_full, number, text}
use Rattle.helpers.specs.Table.{row, stat_answer, read_answer, write_effect, truncate_effect, remove_effect, getxattr_answer, setxattr_effect, rmxattr_effect, map_get_answer, map_set_effect, map_rm_effect, map_next_answer, create_effect, xattr_next_answer}
use Rattle.footprint.specs.declared.parts.Parts.{Parts}
use Rattle.footprint.specs.declared.scan.Touch.TheVariants.{Bytes, Xattrs, Keys, Removal, Creation}
use Rattle.footprint.specs.Parts.{restored}
use Rattle.footprint.specs.Needed.{touches}

pub same_if : {A : Type 0} (b : Bool) (x : A) → (if b then x else x) ≡ x
same_if true x = refl
same_if false x = refl

module _ (kept : Parts) (whole : PlainObject) (creates : Bool) where
  -- nothing is in the parts that aren't kept
  pub record IsEmpty (c : Content) : Type 0 where
    pub bytes : (if kept.bytes then c.bytes else []) ≡ c.bytes
    pub xattrs : (if kept.xattrs then c.xattrs else fin.empty) ≡ c.xattrs
    pub omap : (if kept.keys then c.omap else fin.empty) ≡ c.omap

  -- a reduced object; one that is absent, and may be created, was absent from the start
  abbrev pub IsReduced : PlainObject → Type 0
  IsReduced None = creates ≡ true → whole ≡ None
  IsReduced (Some c) = IsEmpty c

  -- the effect on the whole object
  abbrev pub over : Effect → Effect
  over e = record e { object = restored kept whole e.object }

  pub record Matches (e f : Effect) : Type 0 where
    pub good : IsReduced e.object
    pub same : f ≡ over e

  m_if : (t : Bool) (a b c d : Effect) → Matches a c → Matches b d → Matches (if t then a else b) (if t then c else d)
  m_if true a b c d p q = p
  m_if false a b c d p q = q

  m_leaves : (x : PlainObject) (a b : Answer) → IsReduced x → b ≡ a → Matches (leaves x a) (leaves (restored kept whole x) b)
  m_leaves x a b g e = record { good = g; same = ap (leaves (restored kept whole x)) e }

  m_refused : (errno : ℕ) (x : PlainObject) → IsReduced x → Matches (refused errno x) (refused errno (restored kept whole x))
  m_refused errno x g = record { good = g; same = refl }

  m_changes : (x y : PlainObject) (n : ℕ) → IsReduced x → y ≡ restored kept whole x → Matches (changes x n) (changes y n)
  m_changes x y n g e = record { good = g; same = ap (λ (o : PlainObject). changes o n) e }

  -- what is created is the same, where the object was absent from the start
  created : (c : Content) → IsEmpty c → whole ≡ None → Some c ≡ restored kept whole (Some c)
  created c g none =
      (λ i. Some (record { bytes = sym g.bytes i; xattrs = sym g.xattrs i; omap = sym g.omap i }))
      ∙ ap (λ (w : PlainObject). restored kept w (Some c)) (sym none)

  nothing_empty : IsEmpty nothing
  nothing_empty = record { bytes = same_if kept.bytes []; xattrs = same_if kept.xattrs fin.empty; omap = same_if kept.keys fin.empty }

  -- the helpers that read and change no part
  remove_matches : (creates ≡ true → ⊥) → (x : PlainObject) → IsReduced x → Matches (remove_effect x) (remove_effect (restored kept whole x))
  remove_matches never None g = m_refused ENOENT None g
  remove_matches never (Some c) g = m_changes None None 0 (λ e. absurd (never e)) refl

  create_matches : creates ≡ true → (x : PlainObject) (n : ℕ) → IsReduced x → Matches (create_effect x n) (create_effect (restored kept whole x) n)
  create_matches made None n g = m_changes (Some nothing) (Some nothing) 0 nothing_empty (created nothing nothing_empty (g made))
  create_matches made (Some c) n g =
      m_if (n == 0) (changes (Some c) 0) (refused EEXIST (Some c)) _ _ (m_changes (Some c) _ 0 g refl) (m_refused EEXIST (Some c) g)

-- ---- helpers of the data, which is kept
module _ (limits : Limits) (kx ko : Bool) (whole : PlainObject) (creates : Bool) where
  abbrev K : Parts
  K = record { bytes = true; xattrs = kx; keys = ko }

  with_bytes : (c : Content) (bytes : List ℕ) → IsEmpty K whole creates c → IsEmpty K whole creates (record c { bytes = bytes })
  with_bytes c bytes g = record { bytes = refl; xattrs = g.xattrs; omap = g.omap }

  stat_matches : (x : PlainObject) → IsReduced K whole creates x → Matches K whole creates (leaves x (stat_answer x)) (leaves (restored K whole x) (stat_answer (restored K whole x)))
  stat_matches None g = m_leaves K whole creates None _ _ g refl
  stat_matches (Some c) g = m_leaves K whole creates (Some c) _ _ g refl

  read_matches : (x : PlainObject) (at room : ℕ) → IsReduced K whole creates x → Matches K whole creates (leaves x (read_answer x at room)) (leaves (restored K whole x) (read_answer (restored K whole x) at room))
  read_matches None at room g = m_leaves K whole creates None _ _ g refl
  read_matches (Some c) at room g = m_leaves K whole creates (Some c) _ _ g refl

  write_matches : creates ≡ true → (x : PlainObject) (at : ℕ) (t : List ℕ) → IsReduced K whole creates x → Matches K whole creates (write_effect limits x at t) (write_effect limits (restored K whole x) at t)
  write_matches made None at t g =
      let c : Content = record nothing { bytes = spliced [] at t } in
      let e : IsEmpty K whole creates c = with_bytes nothing (spliced [] at t) (nothing_empty K whole creates) in
      m_if K whole creates (nat_lt limits.bytes (at + length t)) (refused EFBIG None) (changes (Some c) (length t)) _ _
      (m_refused K whole creates EFBIG None g)
      (m_changes K whole creates (Some c) (Some c) (length t) e (created K whole creates c e (g made)))
  write_matches made (Some c) at t g =
      let d : Content = record c { bytes = spliced c.bytes at t } in
      m_if K whole creates (nat_lt limits.bytes (at + length t)) (refused EFBIG (Some c)) (changes (Some d) (length t)) _ _
      (m_refused K whole creates EFBIG (Some c) g)
      (m_changes K whole creates (Some d) _ (length t) (with_bytes c (spliced c.bytes at t) g) refl)

  truncate_matches : (x : PlainObject) (size : ℕ) → IsReduced K whole creates x → Matches K whole creates (truncate_effect limits x size) (truncate_effect limits (restored K whole x) size)
  truncate_matches None size g =
      m_if K whole creates (nat_lt limits.bytes size) (refused EFBIG None) (refused ENOENT None) _ _ (m_refused K whole creates EFBIG None g) (m_refused K whole creates ENOENT None g)
  truncate_matches (Some c) size g =
      let d : Content = record c { bytes = resized c.bytes size } in
      m_if K whole creates (nat_lt limits.bytes size) (refused EFBIG (Some c)) (changes (Some d) 0) _ _
      (m_refused K whole creates EFBIG (Some c) g)
      (m_changes K whole creates (Some d) _ 0 (with_bytes c (resized c.bytes size) g) refl)

-- ---- helpers of the xattrs, which are kept
module _ (limits : Limits) (kb ko : Bool) (whole : PlainObject) (creates : Bool) where
  abbrev X : Parts
  X = record { bytes = kb; xattrs = true; keys = ko }

  with_xattrs : (c : Content) (m : Attributes) → IsEmpty X whole creates c → IsEmpty X whole creates (record c { xattrs = m })
  with_xattrs c m g = record { bytes = g.bytes; xattrs = refl; omap = g.omap }

  getxattr_matches : (x : PlainObject) (name : List ℕ) (room : ℕ) → IsReduced X whole creates x → Matches X whole creates (leaves x (getxattr_answer limits x name room)) (leaves (restored X whole x) (getxattr_answer limits (restored X whole x) name room))
  getxattr_matches None name room g = m_leaves X whole creates None _ _ g refl
  getxattr_matches (Some c) name room g = m_leaves X whole creates (Some c) _ _ g refl

  xattr_next_matches : (x : PlainObject) (name : List ℕ) (room : ℕ) → IsReduced X whole creates x → Matches X whole creates (leaves x (xattr_next_answer limits x name room)) (leaves (restored X whole x) (xattr_next_answer limits (restored X whole x) name room))
  xattr_next_matches None name room g = m_leaves X whole creates None _ _ g refl
  xattr_next_matches (Some c) name room g = m_leaves X whole creates (Some c) _ _ g refl

  setxattr_matches : creates ≡ true → (x : PlainObject) (name value : List ℕ) → IsReduced X whole creates x → Matches X whole creates (setxattr_effect limits x name value) (setxattr_effect limits (restored X whole x) name value)
  setxattr_matches made None name value g =
      let c : Content = record nothing { xattrs = fin.insert nothing.xattrs name value } in
      let e : IsEmpty X whole creates c = with_xattrs nothing (fin.insert nothing.xattrs name value) (nothing_empty X whole creates) in
      m_if X whole creates (not (is_named_within limits.xattrs.length name)) (refused EINVAL None) (if nat_lt VALUE_LIMIT (length value) then refused EFBIG None else if is_full limits.xattrs.count nothing.xattrs name then refused ENOSPC None else changes (Some c) 0) _ _
      (m_refused X whole creates EINVAL None g)
      (m_if X whole creates (nat_lt VALUE_LIMIT (length value)) (refused EFBIG None) (if is_full limits.xattrs.count nothing.xattrs name then refused ENOSPC None else changes (Some c) 0) _ _
      (m_refused X whole creates EFBIG None g)
      (m_if X whole creates (is_full limits.xattrs.count nothing.xattrs name) (refused ENOSPC None) (changes (Some c) 0) _ _
      (m_refused X whole creates ENOSPC None g)
      (m_changes X whole creates (Some c) (Some c) 0 e (created X whole creates c e (g made)))))
  setxattr_matches made (Some c) name value g =
      let d : Content = record c { xattrs = fin.insert c.xattrs name value } in
      m_if X whole creates (not (is_named_within limits.xattrs.length name)) (refused EINVAL (Some c)) (if nat_lt VALUE_LIMIT (length value) then refused EFBIG (Some c) else if is_full limits.xattrs.count c.xattrs name then refused ENOSPC (Some c) else changes (Some d) 0) _ _
      (m_refused X whole creates EINVAL (Some c) g)
      (m_if X whole creates (nat_lt VALUE_LIMIT (length value)) (refused EFBIG (Some c)) (if is_full limits.xattrs.count c.xattrs name then refused ENOSPC (Some c) else changes (Some d) 0) _ _
      (m_refused X whole creates EFBIG (Some c) g)
      (m_if X whole creates (is_full limits.xattrs.count c.xattrs name) (refused ENOSPC (Some c)) (changes (Some d) 0) _ _
      (m_refused X whole creates ENOSPC (Some c) g)
      (m_changes X whole creates (Some d) _ 0 (with_xattrs c (fin.insert c.xattrs name value) g) refl)))

  rmxattr_matches : (x : PlainObject) (name : List ℕ) → IsReduced X whole creates x → Matches X whole creates (rmxattr_effect limits x name) (rmxattr_effect limits (restored X whole x) name)
  rmxattr_matches None name g =
      m_if X whole creates (not (is_named_within limits.xattrs.length name)) (refused EINVAL None) (refused ENOENT None) _ _ (m_refused X whole creates EINVAL None g) (m_refused X whole creates ENOENT None g)
  rmxattr_matches (Some c) name g =
      let d : Content = record c { xattrs = fin.remove c.xattrs name } in
      m_if X whole creates (not (is_named_within limits.xattrs.length name)) (refused EINVAL (Some c)) (if not (fin.contains_key c.xattrs name) then refused ENODATA (Some c) else changes (Some d) 0) _ _
      (m_refused X whole creates EINVAL (Some c) g)
      (m_if X whole creates (not (fin.contains_key c.xattrs name)) (refused ENODATA (Some c)) (changes (Some d) 0) _ _
      (m_refused X whole creates ENODATA (Some c) g)
      (m_changes X whole creates (Some d) _ 0 (with_xattrs c (fin.remove c.xattrs name) g) refl))

-- ---- helpers of the keys, which are kept
module _ (limits : Limits) (kb kx : Bool) (whole : PlainObject) (creates : Bool) where
  abbrev O : Parts
  O = record { bytes = kb; xattrs = kx; keys = true }

  with_omap : (c : Content) (m : Attributes) → IsEmpty O whole creates c → IsEmpty O whole creates (record c { omap = m })
  with_omap c m g = record { bytes = g.bytes; xattrs = g.xattrs; omap = refl }

  map_get_matches : (x : PlainObject) (key : List ℕ) (room : ℕ) → IsReduced O whole creates x → Matches O whole creates (leaves x (map_get_answer limits x key room)) (leaves (restored O whole x) (map_get_answer limits (restored O whole x) key room))
  map_get_matches None key room g = m_leaves O whole creates None _ _ g refl
  map_get_matches (Some c) key room g = m_leaves O whole creates (Some c) _ _ g refl

  map_next_matches : (x : PlainObject) (key : List ℕ) (room : ℕ) → IsReduced O whole creates x → Matches O whole creates (leaves x (map_next_answer limits x key room)) (leaves (restored O whole x) (map_next_answer limits (restored O whole x) key room))
  map_next_matches None key room g = m_leaves O whole creates None _ _ g refl
  map_next_matches (Some c) key room g = m_leaves O whole creates (Some c) _ _ g refl

  map_set_matches : creates ≡ true → (x : PlainObject) (key value : List ℕ) → IsReduced O whole creates x → Matches O whole creates (map_set_effect limits x key value) (map_set_effect limits (restored O whole x) key value)
  map_set_matches made None key value g =
      let c : Content = record nothing { omap = fin.insert nothing.omap key value } in
      let e : IsEmpty O whole creates c = with_omap nothing (fin.insert nothing.omap key value) (nothing_empty O whole creates) in
      m_if O whole creates (not (is_named_within limits.keys.length key)) (refused EINVAL None) (if nat_lt VALUE_LIMIT (length value) then refused EFBIG None else if is_full limits.keys.count nothing.omap key then refused ENOSPC None else changes (Some c) 0) _ _
      (m_refused O whole creates EINVAL None g)
      (m_if O whole creates (nat_lt VALUE_LIMIT (length value)) (refused EFBIG None) (if is_full limits.keys.count nothing.omap key then refused ENOSPC None else changes (Some c) 0) _ _
      (m_refused O whole creates EFBIG None g)
      (m_if O whole creates (is_full limits.keys.count nothing.omap key) (refused ENOSPC None) (changes (Some c) 0) _ _
      (m_refused O whole creates ENOSPC None g)
      (m_changes O whole creates (Some c) (Some c) 0 e (created O whole creates c e (g made)))))
  map_set_matches made (Some c) key value g =
      let d : Content = record c { omap = fin.insert c.omap key value } in
      m_if O whole creates (not (is_named_within limits.keys.length key)) (refused EINVAL (Some c)) (if nat_lt VALUE_LIMIT (length value) then refused EFBIG (Some c) else if is_full limits.keys.count c.omap key then refused ENOSPC (Some c) else changes (Some d) 0) _ _
      (m_refused O whole creates EINVAL (Some c) g)
      (m_if O whole creates (nat_lt VALUE_LIMIT (length value)) (refused EFBIG (Some c)) (if is_full limits.keys.count c.omap key then refused ENOSPC (Some c) else changes (Some d) 0) _ _
      (m_refused O whole creates EFBIG (Some c) g)
      (m_if O whole creates (is_full limits.keys.count c.omap key) (refused ENOSPC (Some c)) (changes (Some d) 0) _ _
      (m_refused O whole creates ENOSPC (Some c) g)
      (m_changes O whole creates (Some d) _ 0 (with_omap c (fin.insert c.omap key value) g) refl)))

  map_rm_matches : (x : PlainObject) (key : List ℕ) → IsReduced O whole creates x → Matches O whole creates (map_rm_effect limits x key) (map_rm_effect limits (restored O whole x) key)
  map_rm_matches None key g =
      m_if O whole creates (not (is_named_within limits.keys.length key)) (refused EINVAL None) (refused ENOENT None) _ _ (m_refused O whole creates EINVAL None g) (m_refused O whole creates ENOENT None g)
  map_rm_matches (Some c) key g =
      let d : Content = record c { omap = fin.remove c.omap key } in
      m_if O whole creates (not (is_named_within limits.keys.length key)) (refused EINVAL (Some c)) (if not (fin.contains_key c.omap key) then refused ENODATA (Some c) else changes (Some d) 0) _ _
      (m_refused O whole creates EINVAL (Some c) g)
      (m_if O whole creates (not (fin.contains_key c.omap key)) (refused ENODATA (Some c)) (changes (Some d) 0) _ _
      (m_refused O whole creates ENODATA (Some c) g)
      (m_changes O whole creates (Some d) _ 0 (with_omap c (fin.remove c.omap key) g) refl))

-- What code that leaves out parts may call: helpers of kept parts, none that removes where one
-- creates.
pub record MayCall (kept : Parts) (creates : Bool) (h : Helper) : Type 0 where
  pub bytes : touches Bytes h ≡ true → kept.bytes ≡ true
  pub xattrs : touches Xattrs h ≡ true → kept.xattrs ≡ true
  pub keys : touches Keys h ≡ true → kept.keys ≡ true
  pub removal : touches Removal h ≡ true → creates ≡ true → ⊥
  pub creation : touches Creation h ≡ true → creates ≡ true

-- a claim of parts of which one is kept
of_bytes : (P : Parts → Type 0) (kept : Parts) → kept.bytes ≡ true → P (record { bytes = true; xattrs = kept.xattrs; keys = kept.keys }) → P kept
of_bytes P kept e p = subst (λ (b : Bool). P (record { bytes = b; xattrs = kept.xattrs; keys = kept.keys })) (sym e) p

of_xattrs : (P : Parts → Type 0) (kept : Parts) → kept.xattrs ≡ true → P (record { bytes = kept.bytes; xattrs = true; keys = kept.keys }) → P kept
of_xattrs P kept e p = subst (λ (b : Bool). P (record { bytes = kept.bytes; xattrs = b; keys = kept.keys })) (sym e) p

of_keys : (P : Parts → Type 0) (kept : Parts) → kept.keys ≡ true → P (record { bytes = kept.bytes; xattrs = kept.xattrs; keys = true }) → P kept
of_keys P kept e p = subst (λ (b : Bool). P (record { bytes = kept.bytes; xattrs = kept.xattrs; keys = b })) (sym e) p

module _ (kept : Parts) (whole : PlainObject) (creates : Bool) where
  -- the claim of a helper, for parts of which one is kept
  abbrev Match : Helper → PlainObject → Given → Parts → Type 0
  Match h x g k = IsReduced k whole creates x → Matches k whole creates ((row h).effect x g) ((row h).effect (restored k whole x) g)

  pub matches : (h : Helper) (x : PlainObject) (g : Given) → MayCall kept creates h → IsReduced kept whole creates x → Matches kept whole creates ((row h).effect x g) ((row h).effect (restored kept whole x) g)
  matches Stat x g may = of_bytes (Match Stat x g) kept (may.bytes refl) (stat_matches g.limits kept.xattrs kept.keys whole creates x)
  matches Read x g may = of_bytes (Match Read x g) kept (may.bytes refl) (read_matches g.limits kept.xattrs kept.keys whole creates x (number g 0) g.room)
  matches Write x g may = of_bytes (Match Write x g) kept (may.bytes refl) (write_matches g.limits kept.xattrs kept.keys whole creates (may.creation refl) x (number g 0) (text g 0))
  matches Truncate x g may = of_bytes (Match Truncate x g) kept (may.bytes refl) (truncate_matches g.limits kept.xattrs kept.keys whole creates x (number g 0))
  matches Remove x g may = remove_matches kept whole creates (may.removal refl) x
  matches GetXattr x g may = of_xattrs (Match GetXattr x g) kept (may.xattrs refl) (getxattr_matches g.limits kept.bytes kept.keys whole creates x (text g 0) g.room)
  matches SetXattr x g may = of_xattrs (Match SetXattr x g) kept (may.xattrs refl) (setxattr_matches g.limits kept.bytes kept.keys whole creates (may.creation refl) x (text g 0) (text g 1))
  matches RmXattr x g may = of_xattrs (Match RmXattr x g) kept (may.xattrs refl) (rmxattr_matches g.limits kept.bytes kept.keys whole creates x (text g 0))
  matches MapGet x g may = of_keys (Match MapGet x g) kept (may.keys refl) (map_get_matches g.limits kept.bytes kept.xattrs whole creates x (text g 0) g.room)
  matches MapSet x g may = of_keys (Match MapSet x g) kept (may.keys refl) (map_set_matches g.limits kept.bytes kept.xattrs whole creates (may.creation refl) x (text g 0) (text g 1))
  matches MapRm x g may = of_keys (Match MapRm x g) kept (may.keys refl) (map_rm_matches g.limits kept.bytes kept.xattrs whole creates x (text g 0))
  matches MapNext x g may = of_keys (Match MapNext x g) kept (may.keys refl) (map_next_matches g.limits kept.bytes kept.xattrs whole creates x (text g 0) g.room)
  matches OutLen x g may = λ r. record { good = r; same = refl }
  matches Create x g may = create_matches kept whole creates (may.creation refl) x (number g 0)
  matches Caller x g may = λ r. m_leaves kept whole creates x _ _ r refl
  matches Compare x g may = λ r. m_leaves kept whole creates x _ _ r refl
  matches Copy x g may = λ r. m_leaves kept whole creates x _ _ r refl
  matches XattrNext x g may = of_xattrs (Match XattrNext x g) kept (may.xattrs refl) (xattr_next_matches g.limits kept.bytes kept.keys whole creates x (text g 0) g.room)

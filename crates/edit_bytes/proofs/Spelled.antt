-- A list of edits is read as it was spelled.
use Rattle.std.proofs.Common.{◌≡◌, ◌∙◌, ℕ, ◌^◌, ◌<◌, ◌≤◌, Bool, true, false, List, [], ◌∷◌, ◌++◌, Option, Some, refl, ap, arith, length, drop, append_assoc, length-drop}
use Rattle.std.specs.Prelude.{◌==◌, nat_le, if◌then◌else◌, take}
use Rattle.byteorder.specs.Endian.{little_bytes, little_number}
use Rattle.part_bytes.specs.inner.Reading.{◌>>=◌, Reading, bytes_at, followed, formed, number_at, pair_at, text_at}
use Rattle.part_bytes.proofs.Exact.{came, some_is, was_checked}
use Rattle.part_bytes.proofs.ExactFields.{number_exact, bytes_exact, text_exact, pair_exact}
use Rattle.txn.specs.Edits.{Edit, Create, Remove, SetXattr, RemoveXattr, SetKey, RemoveKey, SetLength, Write, edit_bytes, counted_bytes, placed_bytes}
use Rattle.edit_bytes.specs.Reading.{counted_at, edit_at, edit_of_kind, plain_at}

-- ---- the fields of an edit fit: its lengths and its place
abbrev pub Fits : Edit → Type 0
Fits Create = Unit {0}
Fits Remove = Unit {0}
Fits (SetXattr name value) = (length name < 65536) × (length value < 65536)
Fits (RemoveXattr name) = length name < 65536
Fits (SetKey key value) = (length key < 65536) × (length value < 65536)
Fits (RemoveKey key) = length key < 65536
Fits (SetLength len) = len < 2 ^ 64
Fits (Write at text) = (at < 2 ^ 64) × (length text < 2 ^ 32)

-- ---- what is read is what was spelled
counted_again : (text rest : List ℕ) → length text < 2 ^ 32 → counted_at (counted_bytes text ++ rest) ≡ Some (text, rest)
unfolding counted_at
counted_again text rest h =
    ap (λ (bytes : List ℕ). number_at 4 bytes >>= λ n. bytes_at n.0 n.1) (append_assoc (little_bytes 4 (length text)) text rest)
    ∙ ap (λ (r : Option (ℕ × List ℕ)). r >>= λ n. bytes_at n.0 n.1) ((number_exact 4).again (length text) (text ++ rest) h)
    ∙ (bytes_exact (length text)).again text rest refl

placed_again : (at : ℕ) (text rest : List ℕ) → at < 2 ^ 64 → length text < 2 ^ 32 → followed (number_at 8) (λ _. counted_at) (placed_bytes at text ++ rest) ≡ Some ((at, text), rest)
placed_again at text rest h k =
    ap (followed (number_at 8) (λ _. counted_at)) (append_assoc (little_bytes 8 at) (counted_bytes text) rest)
    ∙ ap (λ (r : Option (ℕ × List ℕ)). r >>= λ x. counted_at x.1 >>= λ y. Some ((x.0, y.0), y.1)) ((number_exact 8).again at (counted_bytes text ++ rest) h)
    ∙ ap (λ (r : Option (List ℕ × List ℕ)). r >>= λ y. Some ((at, y.0), y.1)) (counted_again text rest k)

-- in another form
form_again : {X Y : Type 0} (read : Reading X) (form : X → Y) (bytes : List ℕ) (x : X) (rest : List ℕ) → read bytes ≡ Some (x, rest) → formed read form bytes ≡ Some (form x, rest)
form_again {X} read form bytes x rest e = ap (λ (r : Option (X × List ℕ)). r >>= λ x. Some (form x.0, x.1)) e

pub edit_again : (e : Edit) (rest : List ℕ) → Fits e → edit_at (edit_bytes e ++ rest) ≡ Some (e, rest)
unfolding edit_of_kind
edit_again Create rest h = refl
edit_again Remove rest h = refl
edit_again (SetXattr name value) rest h = form_again pair_at (λ p. SetXattr p.0 p.1) _ (name, value) rest (pair_exact.again (name, value) rest h)
edit_again (RemoveXattr name) rest h = form_again text_at RemoveXattr _ name rest (text_exact.again name rest h)
edit_again (SetKey key value) rest h = form_again pair_at (λ p. SetKey p.0 p.1) _ (key, value) rest (pair_exact.again (key, value) rest h)
edit_again (RemoveKey key) rest h = form_again text_at RemoveKey _ key rest (text_exact.again key rest h)
edit_again (SetLength len) rest h = form_again (number_at 8) SetLength (little_bytes 8 len ++ rest) len rest ((number_exact 8).again len rest h)
edit_again (Write at text) rest h = form_again (followed (number_at 8) (λ _. counted_at)) (λ p. Write p.0 p.1) (placed_bytes at text ++ rest) (at, text) rest (placed_again at text rest h.0 h.1)

-- ---- what follows is shorter
number_shorter : (k : ℕ) (bytes : List ℕ) (n : ℕ) (rest : List ℕ) → number_at k bytes ≡ Some (n, rest) → length rest ≤ length bytes
number_shorter k bytes n rest e =
    let c = was_checked (nat_le k (length bytes)) (little_number k bytes, drop k bytes) (n, rest) e in
    let is : drop k bytes ≡ rest = ap (λ (p : ℕ × List ℕ). p.1) c.1 in
    omega (arith, ap length is, length-drop k bytes)

bytes_shorter : (k : ℕ) (bytes x rest : List ℕ) → bytes_at k bytes ≡ Some (x, rest) → length rest ≤ length bytes
bytes_shorter k bytes x rest e =
    let c = was_checked (nat_le k (length bytes)) (take k bytes, drop k bytes) (x, rest) e in
    let is : drop k bytes ≡ rest = ap (λ (p : List ℕ × List ℕ). p.1) c.1 in
    omega (arith, ap length is, length-drop k bytes)

-- a text after its length, of so many bytes
text_after : (k : ℕ) (bytes x rest : List ℕ) → (number_at k bytes >>= λ n. bytes_at n.0 n.1) ≡ Some (x, rest) → length rest ≤ length bytes
text_after k bytes x rest e =
    let n = came (number_at k bytes) (λ n. bytes_at n.0 n.1) (x, rest) e in
    let p = number_shorter k bytes n.0.0 n.0.1 n.1 in
    let q = bytes_shorter n.0.0 n.0.1 x rest n.2 in
    omega (arith, p, q)

text_shorter : (bytes x rest : List ℕ) → text_at bytes ≡ Some (x, rest) → length rest ≤ length bytes
unfolding text_at
text_shorter bytes x rest e = text_after 2 bytes x rest e

counted_shorter : (bytes x rest : List ℕ) → counted_at bytes ≡ Some (x, rest) → length rest ≤ length bytes
unfolding counted_at
counted_shorter bytes x rest e = text_after 4 bytes x rest e

-- one after the other
both_shorter : {X Y : Type 0} (read : Reading X) (more : X → Reading Y) → ((bytes : List ℕ) (x : X) (rest : List ℕ) → read bytes ≡ Some (x, rest) → length rest ≤ length bytes) →
    ((s : X) (bytes : List ℕ) (y : Y) (rest : List ℕ) → more s bytes ≡ Some (y, rest) → length rest ≤ length bytes) →
    (bytes : List ℕ) (p : X × Y) (rest : List ℕ) → followed read more bytes ≡ Some (p, rest) → length rest ≤ length bytes
both_shorter {X} {Y} read more one two bytes p rest e =
    let x = came (read bytes) (λ x. more x.0 x.1 >>= λ y. Some ((x.0, y.0), y.1)) (p, rest) e in
    let y = came (more x.0.0 x.0.1) (λ y. Some ((x.0.0, y.0), y.1)) (p, rest) x.2 in
    let last : y.0.1 ≡ rest = ap (λ (q : (X × Y) × List ℕ). q.1) (some_is ((x.0.0, y.0.0), y.0.1) (p, rest) y.2) in
    let a = one bytes x.0.0 x.0.1 x.1 in
    let b = two x.0.0 x.0.1 y.0.0 y.0.1 y.1 in
    omega (arith, a, b, ap length last)

form_shorter : {X Y : Type 0} (read : Reading X) (form : X → Y) → ((bytes : List ℕ) (x : X) (rest : List ℕ) → read bytes ≡ Some (x, rest) → length rest ≤ length bytes) →
    (bytes : List ℕ) (y : Y) (rest : List ℕ) → formed read form bytes ≡ Some (y, rest) → length rest ≤ length bytes
form_shorter {X} {Y} read form one bytes y rest e =
    let x = came (read bytes) (λ x. Some (form x.0, x.1)) (y, rest) e in
    let last : x.0.1 ≡ rest = ap (λ (q : Y × List ℕ). q.1) (some_is (form x.0.0, x.0.1) (y, rest) x.2) in
    let a = one bytes x.0.0 x.0.1 x.1 in
    omega (arith, a, ap length last)

pair_shorter : (bytes : List ℕ) (p : List ℕ × List ℕ) (rest : List ℕ) → pair_at bytes ≡ Some (p, rest) → length rest ≤ length bytes
pair_shorter = both_shorter text_at (λ _. text_at) text_shorter (λ _. text_shorter)

-- what the reading of an edit's fields leaves
record Shortens (bytes : List ℕ) (o : Option (Edit × List ℕ)) : Type 0 where
  pub by : (e : Edit) (rest : List ℕ) → o ≡ Some (e, rest) → length rest ≤ length bytes

plain_shortens : (bytes : List ℕ) (x : Edit) → Shortens bytes (plain_at x bytes)
plain_shortens bytes x = record {
  by = λ e rest is.
      let last : bytes ≡ rest = ap (λ (q : Edit × List ℕ). q.1) (some_is (x, bytes) (e, rest) is) in
      omega (arith, ap length last);
}

shortens_if : (bytes : List ℕ) (b : Bool) (o p : Option (Edit × List ℕ)) → Shortens bytes o → Shortens bytes p → Shortens bytes (if b then o else p)
shortens_if bytes true o p h k = h
shortens_if bytes false o p h k = k

kind_shortens : (kind : ℕ) (bytes : List ℕ) → Shortens bytes (edit_of_kind kind bytes)
unfolding edit_of_kind
kind_shortens kind bytes =
    shortens_if bytes (kind == 1) _ _ (plain_shortens bytes Create) (
    shortens_if bytes (kind == 2) _ _ (plain_shortens bytes Remove) (
    shortens_if bytes (kind == 3) _ _ (record { by = form_shorter pair_at (λ p. SetXattr p.0 p.1) pair_shorter bytes }) (
    shortens_if bytes (kind == 4) _ _ (record { by = form_shorter text_at RemoveXattr text_shorter bytes }) (
    shortens_if bytes (kind == 5) _ _ (record { by = form_shorter pair_at (λ p. SetKey p.0 p.1) pair_shorter bytes }) (
    shortens_if bytes (kind == 6) _ _ (record { by = form_shorter text_at RemoveKey text_shorter bytes }) (
    shortens_if bytes (kind == 7) _ _ (record { by = form_shorter (number_at 8) SetLength (number_shorter 8) bytes }) (
    shortens_if bytes (kind == 8) _ _ (record { by = form_shorter (followed (number_at 8) (λ _. counted_at)) (λ p. Write p.0 p.1) (both_shorter (number_at 8) (λ _. counted_at) (number_shorter 8) (λ _. counted_shorter)) bytes })
    (record { by = λ e rest is. absurd cc }))))))))

pub edit_shorter : (bytes : List ℕ) (e : Edit) (rest : List ℕ) → edit_at bytes ≡ Some (e, rest) → length rest < length bytes
edit_shorter [] e rest is = absurd cc
edit_shorter (kind ∷ bytes) e rest is = let h = (kind_shortens kind bytes).by e rest is in omega (arith, h)

-- ---- along a list
pub some_byte : (e : Edit) (rest : List ℕ) → edit_bytes e ++ rest ≡ [] → ⊥
some_byte Create rest h = cc
some_byte Remove rest h = cc
some_byte (SetXattr name value) rest h = cc
some_byte (RemoveXattr name) rest h = cc
some_byte (SetKey key value) rest h = cc
some_byte (RemoveKey key) rest h = cc
some_byte (SetLength len) rest h = cc
some_byte (Write at text) rest h = cc

pub is_some : (bytes : List ℕ) → false ≡ (length bytes == 0) → bytes ≡ [] → ⊥
is_some bytes some e = let none : (length bytes == 0) ≡ true = ap (λ (l : List ℕ). length l == 0) e in cc

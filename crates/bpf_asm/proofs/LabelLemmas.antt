-- The labels of a method's lines, by a map of names.
use Rattle.std.proofs.Common.{◌≡◌, ℕ, zero, suc, ◌+◌, ◌<◌, ◌≤◌, Bool, true, false, cond, nat_lt, List, [], ◌∷◌, take, Option, Some, None, is_some, refl, sym, ap, subst, ◌∙◌, arith}
use Rattle.std.specs.Option.{option_map}
use Rattle.std.proofs.lemmas.Bool.Decides.{nat_tests}
use Rattle.asm_lines.specs.declared.statement.Statement.{Statement}
use Rattle.bpf_asm.specs.Bodies.{is_label, line_slots, slot_of_label}
use Rattle.bpf_asm.specs.Places.{first_place, place_in, or_else, IsNoted}
use Rattle.std.specs.Borrow.{Bor}
use Rattle.std.specs.Str.{bytes_eq}
use Rattle.std.specs.BTreeMap as tree
use Rattle.std.specs.BTreeMap.{BTreeMap}
use Rattle.std.specs.Cmp.Lexicographic.{slice_cmp}
use Rattle.std.specs.Ordering.{nat_cmp}
use Rattle.std.proofs.lemmas.Slice.Eq.{bytes_eq-Decides}
use Rattle.std.proofs.lemmas.Map.Text.{btree_map_updates_str}

map_cond : (b : Bool) (p : ℕ × ℕ) (o : Option (ℕ × ℕ)) → option_map (λ p. p.0) (cond b (Some p) o) ≡ cond b (Some p.0) (option_map (λ p. p.0) o)
map_cond true p o = refl
map_cond false p o = refl

-- the slot of the first line
pub place_slot : (name : List ℕ) (slot line : ℕ) (ss : List Statement) → option_map (λ p. p.0) (first_place name slot line ss) ≡ slot_of_label name slot ss
unfolding slot_of_label
place_slot name slot line [] = refl
place_slot name slot line (s ∷ ss) =
    map_cond (is_label name s) (slot, line) (first_place name (slot + line_slots s) (suc line) ss)
    ∙ ap (cond (is_label name s) (Some slot)) (place_slot name (slot + line_slots s) (suc line) ss)

-- whether a place is above a line
abbrev pub is_above : Option (ℕ × ℕ) → ℕ → Bool
is_above None line = false
is_above (Some p) line = nat_lt p.1 line

low_test : (a b : ℕ) → b ≤ a → nat_lt a b ≡ false
low_test a b h = grind (arith, nat_tests)

high_test : (a b : ℕ) → a < b → nat_lt a b ≡ true
high_test a b h = grind (arith, nat_tests)

none_by : (slot line : ℕ) (rest : Option (ℕ × ℕ)) (n : ℕ) → n ≤ line → is_above rest n ≡ false → (b : Bool) → is_above (cond b (Some (slot, line)) rest) n ≡ false
none_by slot line rest n h e true = low_test line n h
none_by slot line rest n h e false = e

-- no first line is above the lines
none_above : (name : List ℕ) (slot line : ℕ) (ss : List Statement) (n : ℕ) → n ≤ line → is_above (first_place name slot line ss) n ≡ false
none_above name slot line [] n h = refl
none_above name slot line (s ∷ ss) n h =
    none_by slot line (first_place name (slot + line_slots s) (suc line) ss) n h (none_above name (slot + line_slots s) (suc line) ss n (omega arith)) (is_label name s)

above_by : (slot line : ℕ) (o : Option ℕ) (rest : Option (ℕ × ℕ)) (n : ℕ) → line < n → is_some o ≡ is_above rest n → (b : Bool) → is_some (cond b (Some slot) o) ≡ is_above (cond b (Some (slot, line)) rest) n
above_by slot line o rest n h e true = sym (high_test line n h)
above_by slot line o rest n h e false = e

-- whether a label stands among the lines above
pub place_above : (name : List ℕ) (slot line : ℕ) (ss : List Statement) (k n : ℕ) → n ≡ line + k → is_some (slot_of_label name slot (take k ss)) ≡ is_above (first_place name slot line ss) n
unfolding slot_of_label
place_above name slot line ss zero n e = sym (none_above name slot line ss n (omega arith))
place_above name slot line [] (suc k) n e = refl
place_above name slot line (s ∷ ss) (suc k) n e =
    above_by slot line (slot_of_label name (slot + line_slots s) (take k ss)) (first_place name (slot + line_slots s) (suc line) ss) n (omega arith)
    (place_above name (slot + line_slots s) (suc line) ss k n (omega arith)) (is_label name s)

-- ---- the map

-- one that isn't, with its place
pub noted_now : (m n : BTreeMap (Bor (List ℕ)) (ℕ × ℕ)) (name : List ℕ) (place : ℕ × ℕ) → is_some (place_in m name) ≡ false →
    tree.UpdatesBy (λ x y. slice_cmp nat_cmp x.now y.now) (λ k. slice_cmp nat_cmp name k.now) m n (Some place) → IsNoted m n name place
noted_now m n name place h u q = btree_map_updates_str name m n (Some place) u q ∙ noted_by (bytes_eq name q) refl
  where
    stays : (o : Option (ℕ × ℕ)) → o ≡ or_else o None
    stays None = refl
    stays (Some p) = refl

    lacks : (o w : Option (ℕ × ℕ)) → is_some o ≡ false → w ≡ or_else o w
    lacks None w e = refl
    lacks (Some p) w e = absurd cc

    noted_by : (b : Bool) → bytes_eq name q ≡ b → cond b (Some place) (place_in m q) ≡ or_else (place_in m q) (cond b (Some place) None)
    noted_by false e = stays (place_in m q)
    noted_by true e =
        let same : name ≡ q = (bytes_eq-Decides name q).0 e in
        lacks (place_in m q) (Some place) (subst (λ (t : List ℕ). is_some (place_in m t) ≡ false) same h)

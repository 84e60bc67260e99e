-- The entries that texts spell.
use Rattle.std.proofs.Common.{◌≡◌, ◌∙◌, ◌<◌, ◌+◌, ℕ, suc, List, [], ◌∷◌, ◌++◌, ap, sym, subst, arith, length, map, take, drop, get_or}
use Rattle.std.proofs.lemmas.List.{map-append, take-append-drop}
use Rattle.std.proofs.Math.Seq.{drop-cons, take-suc}
use Rattle.command_line.specs.Parsed.{Text}
use Rattle.object_texts.specs.declared.method_call.SpelledEntry.{SpelledEntry}
use Rattle.radoscls_program.specs.Entries.{AreEntries, IsEntry}

-- one more entry
one_more : (texts : List Text) (es : List SpelledEntry) (text : Text) (e : SpelledEntry) → AreEntries texts es → IsEntry text e → AreEntries (texts ++ text ∷ []) (es ++ e ∷ [])
one_more [] [] text e are is = (is, tt)
one_more [] (n ∷ ns) text e are is = absurd are
one_more (t ∷ ts) [] text e are is = absurd are
one_more (t ∷ ts) (n ∷ ns) text e are is = (are.0, one_more ts ns text e are.1 is)

-- a text among them that spells no entry
one_spells_none : (first : List Text) (text : Text) (rest : List Text) → ((e : SpelledEntry) → IsEntry text e → ⊥)
    → (es : List SpelledEntry) → AreEntries (first ++ text ∷ rest) es → ⊥
one_spells_none [] text rest none [] are = are
one_spells_none [] text rest none (e ∷ es) are = none e are.0
one_spells_none (t ∷ ts) text rest none [] are = are
one_spells_none (t ∷ ts) text rest none (e ∷ es) are = one_spells_none ts text rest none es are.1

module _ {X : Type 0} (f : X → Text) where
  -- the entries of the first texts, and of the next
  pub next_entered : (texts : List X) (i : ℕ) (d : X) (es : List SpelledEntry) (e : SpelledEntry) → i < length texts
      → AreEntries (map f (take i texts)) es → IsEntry (f (get_or texts i d)) e → AreEntries (map f (take (i + 1) texts)) (es ++ e ∷ [])
  next_entered texts i d es e within are is =
      let one : i + 1 ≡ suc i = omega arith in
      let longer : map f (take (i + 1) texts) ≡ map f (take i texts) ++ f (get_or texts i d) ∷ [] =
      ap (λ n. map f (take n texts)) one ∙ ap (map f) (take-suc texts i d within) ∙ map-append f (take i texts) (get_or texts i d ∷ []) in
      subst (λ (ts : List Text). AreEntries ts (es ++ e ∷ [])) (sym longer) (one_more (map f (take i texts)) es (f (get_or texts i d)) e are is)

  -- if the next text spells no entry, the texts spell none
  pub next_enters_none : (texts : List X) (i : ℕ) (d : X) → i < length texts → ((e : SpelledEntry) → IsEntry (f (get_or texts i d)) e → ⊥)
      → (es : List SpelledEntry) → AreEntries (map f texts) es → ⊥
  next_enters_none texts i d within none es are =
      let split : texts ≡ take i texts ++ get_or texts i d ∷ drop (suc i) texts =
      sym (take-append-drop i texts) ∙ ap (λ rest. take i texts ++ rest) (drop-cons texts i d within) in
      let parts : map f texts ≡ map f (take i texts) ++ f (get_or texts i d) ∷ map f (drop (suc i) texts) =
      ap (map f) split ∙ map-append f (take i texts) (get_or texts i d ∷ drop (suc i) texts) in
      one_spells_none (map f (take i texts)) (f (get_or texts i d)) (map f (drop (suc i) texts)) none es (subst (λ (ts : List Text). AreEntries ts es) parts are)

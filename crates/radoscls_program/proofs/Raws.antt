-- The methods that texts spell.
use Rattle.std.proofs.Common.{◌≡◌, ◌∙◌, ◌<◌, ◌+◌, ℕ, suc, List, [], ◌∷◌, ◌++◌, Option, Some, None, ap, sym, subst, refl, arith, length, map, take, drop, get_or}
use Rattle.std.specs.Prelude.{IfNone}
use Rattle.std.proofs.lemmas.List.{map-append, take-append-drop}
use Rattle.std.proofs.Math.Seq.{drop-cons, take-suc}
use Rattle.command_line.specs.Parsed.{Text}
use Rattle.class_tool.specs.declared.action.RawMethod.{RawMethod}
use Rattle.radoscls_program.specs.Raw.{AreRaw, IsRaw}

-- a fact about a value that isn't there holds
pub if_none : {A P : Type 0} (o : Option A) → (o ≡ None → P) → IfNone o P
if_none None holds = holds refl
if_none (Some a) holds = tt

-- one more method
one_more : (texts : List Text) (ms : List RawMethod) (text : Text) (m : RawMethod) → AreRaw texts ms → IsRaw text m
    → AreRaw (texts ++ text ∷ []) (ms ++ m ∷ [])
one_more [] [] text m are is = (is, tt)
one_more [] (n ∷ ns) text m are is = absurd are
one_more (t ∷ ts) [] text m are is = absurd are
one_more (t ∷ ts) (n ∷ ns) text m are is = (are.0, one_more ts ns text m are.1 is)

-- a text among them that spells no method
one_spells_none : (first : List Text) (text : Text) (rest : List Text) → ((m : RawMethod) → IsRaw text m → ⊥)
    → (ms : List RawMethod) → AreRaw (first ++ text ∷ rest) ms → ⊥
one_spells_none [] text rest none [] are = are
one_spells_none [] text rest none (m ∷ ms) are = none m are.0
one_spells_none (t ∷ ts) text rest none [] are = are
one_spells_none (t ∷ ts) text rest none (m ∷ ms) are = one_spells_none ts text rest none ms are.1

module _ {X : Type 0} (f : X → Text) where
  -- the methods of the first texts, and of the next
  pub next_spelled : (texts : List X) (i : ℕ) (d : X) (ms : List RawMethod) (m : RawMethod) → i < length texts
      → AreRaw (map f (take i texts)) ms → IsRaw (f (get_or texts i d)) m → AreRaw (map f (take (i + 1) texts)) (ms ++ m ∷ [])
  next_spelled texts i d ms m within are is =
      let one : i + 1 ≡ suc i = omega arith in
      let longer : map f (take (i + 1) texts) ≡ map f (take i texts) ++ f (get_or texts i d) ∷ [] =
      ap (λ n. map f (take n texts)) one ∙ ap (map f) (take-suc texts i d within) ∙ map-append f (take i texts) (get_or texts i d ∷ []) in
      subst (λ (ts : List Text). AreRaw ts (ms ++ m ∷ [])) (sym longer) (one_more (map f (take i texts)) ms (f (get_or texts i d)) m are is)

  -- if the next text spells no method, the texts spell none
  pub next_spells_none : (texts : List X) (i : ℕ) (d : X) → i < length texts → ((m : RawMethod) → IsRaw (f (get_or texts i d)) m → ⊥)
      → (ms : List RawMethod) → AreRaw (map f texts) ms → ⊥
  next_spells_none texts i d within none ms are =
      let split : texts ≡ take i texts ++ get_or texts i d ∷ drop (suc i) texts =
      sym (take-append-drop i texts) ∙ ap (λ rest. take i texts ++ rest) (drop-cons texts i d within) in
      let parts : map f texts ≡ map f (take i texts) ++ f (get_or texts i d) ∷ map f (drop (suc i) texts) =
      ap (map f) split ∙ map-append f (take i texts) (get_or texts i d ∷ drop (suc i) texts) in
      one_spells_none (map f (take i texts)) (f (get_or texts i d)) (map f (drop (suc i) texts)) none ms (subst (λ (ts : List Text). AreRaw ts ms) parts are)

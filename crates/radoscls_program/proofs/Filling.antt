-- The values of entries.
use Rattle.std.proofs.Common.{◌≡◌, ◌∙◌, ◌<◌, ◌+◌, ℕ, suc, inl, inr, List, [], ◌∷◌, ◌++◌, Option, ap, sym, subst, arith, length, map, take, drop, get_or, string_bytes}
use Rattle.std.proofs.lemmas.List.{map-append, take-append-drop}
use Rattle.std.proofs.Math.Seq.{drop-cons, take-suc}
use Rattle.program_files.specs.Files.{Disk}
use Rattle.object_texts.specs.declared.method_call.SpelledEntry.{SpelledEntry}
use Rattle.program_files.specs.declared.failure.Failure.{Failure}
use Rattle.command_line.specs.Parsed.{Text}
use Rattle.radoscls_program.specs.Values.{AreValues, EntriesFail, IsValue, ValueFails, entry_texts, filled_texts}
use Rattle.radoscls_program.specs.declared.values.FilledEntry.{FilledEntry}

-- one more value
one_more : (disk : Option Disk) (es fs : List (Text × Text)) (e f : Text × Text) → AreValues disk es fs → f.0 ≡ e.0 → IsValue disk 65537 e.1 f.1
    → AreValues disk (es ++ e ∷ []) (fs ++ f ∷ [])
one_more disk [] [] e f are name value = (name, value, tt)
one_more disk [] (n ∷ ns) e f are name value = absurd are
one_more disk (t ∷ ts) [] e f are name value = absurd are
one_more disk (t ∷ ts) (n ∷ ns) e f are name value = (are.0, are.1, one_more disk ts ns e f are.2 name value)

-- the values of the first entries, and of the next
pub next_filled : (disk : Option Disk) (es : List SpelledEntry) (i : ℕ) (d : SpelledEntry) (fs : List FilledEntry) (f : FilledEntry) → i < length es
    → AreValues disk (map entry_texts (take i es)) (map filled_texts fs) → string_bytes f.name ≡ (get_or es i d).name.now
    → IsValue disk 65537 (get_or es i d).value.now (string_bytes f.value) → AreValues disk (map entry_texts (take (i + 1) es)) (map filled_texts (fs ++ f ∷ []))
next_filled disk es i d fs f within are name value =
    let one : i + 1 ≡ suc i = omega arith in
    let longer : map entry_texts (take (i + 1) es) ≡ map entry_texts (take i es) ++ entry_texts (get_or es i d) ∷ [] =
    ap (λ n. map entry_texts (take n es)) one ∙ ap (map entry_texts) (take-suc es i d within) ∙ map-append entry_texts (take i es) (get_or es i d ∷ []) in
    let more : map filled_texts (fs ++ f ∷ []) ≡ map filled_texts fs ++ filled_texts f ∷ [] = map-append filled_texts fs (f ∷ []) in
    subst (λ (xs : List (Text × Text)). AreValues disk xs (map filled_texts (fs ++ f ∷ []))) (sym longer)
    (subst (λ (ys : List (Text × Text)). AreValues disk (map entry_texts (take i es) ++ entry_texts (get_or es i d) ∷ []) ys) (sym more)
    (one_more disk (map entry_texts (take i es)) (map filled_texts fs) (entry_texts (get_or es i d)) (filled_texts f) are name value))

-- the next value fails
pub next_fails : (disk : Option Disk) (es : List SpelledEntry) (i : ℕ) (d : SpelledEntry) (e : Failure) → i < length es → ValueFails disk (get_or es i d).value.now e
    → EntriesFail disk (map entry_texts es) e
next_fails disk es i d e within (inl memory) = inl memory
next_fails disk es i d e within (inr unread) =
    let split : es ≡ take i es ++ get_or es i d ∷ drop (suc i) es = sym (take-append-drop i es) ∙ ap (λ rest. take i es ++ rest) (drop-cons es i d within) in
    inr (
      unread.0,
      record {
        first = map entry_texts (take i es);
        next = entry_texts (get_or es i d);
        rest = map entry_texts (drop (suc i) es);
        split = ap (map entry_texts) split ∙ map-append entry_texts (take i es) (get_or es i d ∷ drop (suc i) es);
        unread = unread.1;
      },
    )

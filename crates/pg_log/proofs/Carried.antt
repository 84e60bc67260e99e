-- The invariant of a group holds also by a longer table of classes.
use Rattle.std.proofs.Common.{◌≡◌, ℕ, suc, List, [], ◌∷◌, ◌++◌, Some, sym, ◌∙◌, subst, refl}
use Rattle.std.specs.List.{slice_get}
use Rattle.std.specs.FinMap as fin
use mathlib.Core.List.{IsPrefix}
use Rattle.object_store.specs.Names.{PlainObjects}
use Rattle.pg_log.specs.declared.entry.Entry.{Entry}
use Rattle.pg_log.specs.declared.places.Places.{Places}
use Rattle.pg_log.specs.Requests.{ClientRequest}
use Rattle.pg_log.specs.Log.{Classes, CanRun, after}
use Rattle.pg_log.specs.Entries.{AreEntries, requests_of, Keeps}
use Rattle.pg_log.proofs.Ran.{more-outcome, more-safe}
use Rattle.pg_log.proofs.Tables.{after-more, same_with_more}

module _ (classes more : Classes) where
  entries-more : (objects : PlainObjects) (es : List Entry) → ((i : ℕ) (r : ClientRequest) → slice_get (requests_of es) i ≡ Some r → CanRun classes r) →
      AreEntries classes objects es → AreEntries (classes ++ more) objects es
  entries-more objects [] run h = tt
  entries-more objects (e ∷ es) run h =
      let P : PlainObjects → Type 0 = λ w. AreEntries (classes ++ more) w es in
      let can = run 0 e.request refl in (
        more-outcome classes more objects e.request e.code e.output.items e.change can h.0,
        subst P (sym (after-more classes more objects e.request can)) (entries-more (after classes objects e.request) es (λ i r p. run (suc i) r p) h.1),
      )

  keeps-more : (es : List Entry) (objects : PlainObjects) (places : Places) → Keeps classes es objects places → Keeps (classes ++ more) es objects places
  keeps-more es objects places k =
      let same = same_with_more classes more (requests_of es) k.legal in
      record {
        legal = same.legal;
        safe = λ i r e. more-safe classes more r (k.legal.run i r e) (k.safe i r e);
        kept = entries-more fin.empty es k.legal.run k.kept;
        folded = k.folded ∙ sym same.same_objects;
        indexed = k.indexed;
      }

pub carried : (classes longer : Classes) → IsPrefix classes longer → (es : List Entry) (objects : PlainObjects) (places : Places) → Keeps classes es objects places → Keeps longer es objects places
carried classes longer pre es objects places k =
    let P : Classes → Type 0 = λ w. Keeps w es objects places in
    subst P pre.1 (keeps-more classes pre.0 es objects places k)

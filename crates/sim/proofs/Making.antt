-- The objects that a log's entries hold are those that its requests make.
use Rattle.std.proofs.Common.{◌≡◌, ◌∙◌, ◌<◌, ℕ, zero, suc, List, [], ◌∷◌, drop, length, ap, arith, get_or, refl, subst, sym}
use Rattle.std.specs.FinMap as fin
use Rattle.object_store.specs.Names.{PlainObjects, stored}
use Rattle.bpf_machine.specs.State.{Outcome}
use Rattle.pg_log.specs.Entries.{AreEntries, requests_of}
use Rattle.pg_log.specs.Log.{Classes, after, fold, fold_from}
use Rattle.pg_log.specs.declared.entry.Entry.{Entry}

-- the entries that are left, on the objects so far
pub record Making (classes : Classes) (all rest : List Entry) (objects : PlainObjects) : Type 0 where
  pub kept : AreEntries classes objects rest
  pub goes_on : fold_from classes objects (requests_of rest) ≡ fold classes (requests_of all)

pub none_made : (classes : Classes) (all : List Entry) → AreEntries classes fin.empty all → Making classes all (drop 0 all) fin.empty
none_made classes all kept = record { kept = kept; goes_on = refl }

-- an entry more
pub one_made : (classes : Classes) (all es : List Entry) (i j : ℕ) (d : Entry) (objects new : PlainObjects) → i < length es → j ≡ suc i
    → Making classes all (drop i es) objects → new ≡ stored objects (get_or es i d).request.object (get_or es i d).change.after
    → Making classes all (drop j es) new
one_made classes all [] i j d objects new h f at is = absurd (omega arith)
one_made classes all (e ∷ es) zero j d objects new h f at is =
    let step : new ≡ after classes objects e.request = is ∙ ap (λ (o : Outcome). stored objects e.request.object o.object) at.kept.0.made in
    let next : Making classes all es (after classes objects e.request) = record { kept = at.kept.1; goes_on = at.goes_on } in
    subst (λ (k : ℕ). Making classes all (drop k (e ∷ es)) new) (sym f) (subst (λ (o : PlainObjects). Making classes all es o) (sym step) next)
one_made classes all (e ∷ es) (suc i) j d objects new h f at is =
    subst (λ (k : ℕ). Making classes all (drop k (e ∷ es)) new) (sym f) (one_made classes all es i (suc i) d objects new (omega arith) refl at is)

-- all entries
pub all_made : (classes : Classes) (all es : List Entry) (i : ℕ) (objects : PlainObjects) → i ≡ length es
    → Making classes all (drop i es) objects → objects ≡ fold classes (requests_of all)
all_made classes all [] zero objects h at = at.goes_on
all_made classes all [] (suc i) objects h at = absurd (omega arith)
all_made classes all (e ∷ es) zero objects h at = absurd (omega arith)
all_made classes all (e ∷ es) (suc i) objects h at = all_made classes all es i objects (omega arith) at

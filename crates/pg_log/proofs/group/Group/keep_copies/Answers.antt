use Rattle.std.proofs.Common.{◌≡◌, ◌∙◌, ap, sym, subst, refl, ℤ, List, ℕ, [], ◌∷◌, ◌++◌, take, Some}
use Rattle.std.specs.FinMap as fin
use Rattle.std.specs.List.{slice_get}
use Rattle.std.proofs.lemmas.Option.{slice_get_read}
use Rattle.txn.specs.Versions.{Versions}
use Rattle.pg_log.specs.Requests.{ClientRequest}
use Rattle.pg_log.specs.Log.{Legal, fold}
use Rattle.pg_log.specs.Entries.{requests_of, IsOutcomeOn, IsSafeRequest}
use Rattle.pg_log.proofs.Kept.{entry_at, entry_follows, entry_next, requests_at}
use Rattle.pg_log.proofs.group.Group.keep_copies.Goals as goal

pub loop-entry-preserved : goal.loop-entry-preserved
loop-entry-preserved g c =
    let es = c.args.entries.now in
    let k = c.loop-entry.entry-index in
    let item = c.entry-item.result in
    let e = c.in_ok-copy.copy in
    let at : slice_get es k ≡ Some item = slice_get_read es _ k item refl c.loop-entry-test.true c.entry-item.is in
    c.in_ok-keep.ensures.ok.1 ∙ ap (λ w. w ++ e.request ∷ []) c.loop-entry.invariant
    ∙ ap (λ r. take k (requests_of es) ++ r ∷ []) c.in_ok-copy.ensures.ok.request ∙ entry_next es k item at

pub keep-requires : goal.keep-requires
keep-requires g c =
    let classes = g.C.Classes.classes in
    let es = c.args.entries.now in
    let k = c.loop-entry.entry-index in
    let item = c.entry-item.result in
    let e = c.in_ok-copy.copy in
    let same = c.in_ok-copy.ensures.ok in
    let at : slice_get es k ≡ Some item = slice_get_read es _ k item refl c.loop-entry-test.true c.entry-item.is in
    let group : c.loop-entry.self ≡ take k (requests_of es) = c.loop-entry.invariant in
    let L : List ClientRequest → Type 0 = λ w. Legal classes (w ++ e.request ∷ []) in
    let M : ClientRequest → Type 0 = λ w. Legal classes (take k (requests_of es) ++ w ∷ []) in
    let N : ClientRequest → Type 0 = IsSafeRequest classes in
    let P : List ClientRequest → Type 0 = λ w. IsOutcomeOn classes (fold classes w) e.request e.code e.output.items e.change in
    let Q : ClientRequest → Type 0 = λ w. IsOutcomeOn classes (fold classes (take k (requests_of es))) w e.code e.output.items e.change in
    let R : ℤ → Type 0 = λ w. IsOutcomeOn classes (fold classes (take k (requests_of es))) item.request w e.output.items e.change in
    let S : List ℕ → Type 0 = λ w. IsOutcomeOn classes (fold classes (take k (requests_of es))) item.request item.code w e.change in
    let T : Versions → Type 0 = λ w. IsOutcomeOn classes (fold classes (take k (requests_of es))) item.request item.code item.output.items w in
    record {
      legal = subst L (sym group) (subst M (sym same.request) (entry_follows classes es k item c.requires.legal at));
      safe = subst N (sym same.request) (c.requires.safe k item.request (requests_at es k item at));
      outcome = subst P (sym group) (subst Q (sym same.request) (subst R (sym same.code) (subst S (sym same.output) (subst T (sym same.change)
          (entry_at classes fin.empty es k item c.requires.kept at)))));
    }

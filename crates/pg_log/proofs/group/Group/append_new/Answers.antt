use Rattle.std.proofs.Common.{◌≡◌, ◌++◌, ◌∷◌, [], List, length, sym, subst, IfOk, IfErr}
use Rattle.pg_log.specs.Requests.{ClientRequest}
use Rattle.pg_log.specs.Refusals.{place_of, refusal}
use Rattle.pg_log.specs.Entries.{IsNextEntry}
use Rattle.pg_log.specs.declared.log_error.LogError.TheVariants.{NoMemory}
use Rattle.pg_log.proofs.Kept.{kept_answer, kept_list, kept_nothing}
use Rattle.pg_log.proofs.group.Group.append_new.Goals as goal

pub keep-requires : goal.keep-requires
keep-requires g c =
    subst (λ (w : List ClientRequest). IsNextEntry g.C.Classes.classes w c.in_ok-entry.entry) (sym c.next_entry.ensures.same) c.in_ok-entry.ensures.next

pub returns-clause-answer : goal.returns-clause-answer
returns-clause-answer g c =
    let xs = c.args.self.now in
    let r = c.args.request in
    let q = c.in_ok-entry.entry.request in
    let K : List ClientRequest → Type 0 = λ w. IfOk c.keep.result (λ place. (place ≡ length w) × (c.keep.new.self ≡ w ++ q ∷ [])) in
    let E : List ClientRequest → Type 0 = λ w. IfErr c.keep.result (λ e. (e ≡ NoMemory) × (c.keep.new.self ≡ w)) in
    kept_answer (place_of r.client r.number xs) (refusal c.args.table.now xs r) xs c.keep.new.self q c.keep.result c.requires.none c.in_ok-entry.ensures.unrefused
    (subst K c.next_entry.ensures.same c.keep.ensures.ok) (subst E c.next_entry.ensures.same c.keep.ensures.err)

pub returns-clause-ok : goal.returns-clause-ok
returns-clause-ok g c =
    let xs = c.args.self.now in
    let r = c.args.request in
    let q = c.in_ok-entry.entry.request in
    let K : List ClientRequest → Type 0 = λ w. IfOk c.keep.result (λ place. (place ≡ length w) × (c.keep.new.self ≡ w ++ q ∷ [])) in
    kept_list (place_of r.client r.number xs) xs c.keep.new.self q r c.keep.result c.requires.none c.in_ok-entry.ensures.request (subst K c.next_entry.ensures.same c.keep.ensures.ok)

pub returns-clause-refused : goal.returns-clause-refused
returns-clause-refused g c =
    let E : List ClientRequest → Type 0 = λ w. IfErr c.keep.result (λ e. (e ≡ NoMemory) × (c.keep.new.self ≡ w)) in
    kept_nothing c.args.self.now c.keep.new.self c.keep.result (subst E c.next_entry.ensures.same c.keep.ensures.err)

use Rattle.std.proofs.Common.{◌≡◌, Some, ap, sym, ◌∙◌}
use Rattle.std.specs.Ordering.{nat_cmp}
use Rattle.std.specs.Cmp.Lexicographic.{slice_cmp}
use Rattle.std.proofs.lemmas.Cmp.{nat_list_cmp_total, tied_itself}
use Rattle.std.proofs.lemmas.Map.Lookups.{exact_bytes}
use Rattle.shared_map.specs.Entries.{Pair, entry_behind}
use Rattle.shared_map.proofs.shared_map.same_entry.Goals as goal

same_pair : {V : Type 0} (p q : Pair V) → Some p ≡ Some q → p ≡ q
same_pair p q e = cc

pub returns-in-Equal : goal.returns-in-Equal
returns-in-Equal g c =
    let k = c.in-Some-Some.key.now in
    let v = c.in-Some-Some.value.now in
    let other_k = c.in-Some-Some.other_key.now in
    let other_v = c.in-Some-Some.other_value.now in
    let one : entry_behind c.args.one ≡ Some (k, v) = ap entry_behind c.in-Some-Some.is-0 in
    let other : entry_behind c.args.other ≡ Some (other_k, other_v) = ap entry_behind c.in-Some-Some.is-1 in
    let same : k ≡ other_k = exact_bytes k other_k (sym c.cmp.ensures ∙ c.in-Equal.is) in (
      λ t. one ∙ ap (λ q. Some (q, v)) same ∙ ap (λ q. Some (other_k, q)) (c.is_same.ensures.0 t) ∙ sym other,
      λ e. c.is_same.ensures.1 (ap (λ (p : Pair g.row.V.Denot). p.1) (same_pair (k, v) (other_k, other_v) (sym one ∙ e ∙ other))),
    )

pub returns-in_default-cmp : goal.returns-in_default-cmp
returns-in_default-cmp g c =
    let k = c.in-Some-Some.key.now in
    let v = c.in-Some-Some.value.now in
    let other_k = c.in-Some-Some.other_key.now in
    let other_v = c.in-Some-Some.other_value.now in
    let one : entry_behind c.args.one ≡ Some (k, v) = ap entry_behind c.in-Some-Some.is-0 in
    let other : entry_behind c.args.other ≡ Some (other_k, other_v) = ap entry_behind c.in-Some-Some.is-1 in (
      λ t. absurd (cc),
      λ e. absurd (c.in_default-cmp.not-Equal
          (c.cmp.ensures ∙ ap (slice_cmp nat_cmp k) (sym (ap (λ (p : Pair g.row.V.Denot). p.0) (same_pair (k, v) (other_k, other_v) (sym one ∙ e ∙ other)))) ∙ tied_itself nat_list_cmp_total k)),
    )

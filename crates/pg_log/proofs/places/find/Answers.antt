use Rattle.std.proofs.Common.{◌∙◌, ap, sym, refl, nat_lt, rules}
use Rattle.std.proofs.lemmas.Option.{slice_get_read, slice_get_past}
use Rattle.std.proofs.lemmas.List.Sorted.{IsPartitionPoint-from_clause, IsPartitionedBy-ltb}
use Rattle.pg_log.proofs.Indexed.{place_in-unreached, place_in-point, IsRising-ordered, found, found-hit, found-miss}
use Rattle.pg_log.proofs.places.find.Goals as goal

pub returns-then-not-reaches : goal.returns-then-not-reaches
returns-then-not-reaches c = λ h. place_in-unreached c.args.number c.args.requests.now (sym (c.reaches.ensures h) ∙ c.if-not-reaches.true)

pub returns-in_err-request : goal.returns-in_err-request
returns-in_err-request c = λ h.
    let xs = c.args.requests.now in
    let number = c.args.number in
    let parted = IsPartitionedBy-ltb (λ p. p.0) xs number (IsRising-ordered xs h) in
    let point = IsPartitionPoint-from_clause (λ p. nat_lt p.0 number) xs _ c.partition_point-at.ensures.partitioned parted (λ a r q k. search rules) in
    let past = slice_get_past xs c.partition_point-at.result c.in_err-request.ensures.lookup.3 in
    c.from_residual.ensures ∙ sym (ap (found number) past) ∙ place_in-point number c.partition_point-at.result xs h point.0 point.1

pub returns-then-request-number : goal.returns-then-request-number
returns-then-request-number c = λ h.
    let xs = c.args.requests.now in
    let number = c.args.number in
    let parted = IsPartitionedBy-ltb (λ p. p.0) xs number (IsRising-ordered xs h) in
    let point = IsPartitionPoint-from_clause (λ p. nat_lt p.0 number) xs _ c.partition_point-at.ensures.partitioned parted (λ a r q k. search rules) in
    let l = c.in_ok-request.ensures.lookup in
    let at = slice_get_read xs _ c.partition_point-at.result c.in_ok-request.request.now refl l.3.0 l.1 in
    found-hit number c.in_ok-request.request.now c.if-request-number.true ∙ sym (ap (found number) at) ∙ place_in-point number c.partition_point-at.result xs h point.0 point.1

pub returns-else-request-number : goal.returns-else-request-number
returns-else-request-number c = λ h.
    let xs = c.args.requests.now in
    let number = c.args.number in
    let parted = IsPartitionedBy-ltb (λ p. p.0) xs number (IsRising-ordered xs h) in
    let point = IsPartitionPoint-from_clause (λ p. nat_lt p.0 number) xs _ c.partition_point-at.ensures.partitioned parted (λ a r q k. search rules) in
    let l = c.in_ok-request.ensures.lookup in
    let at = slice_get_read xs _ c.partition_point-at.result c.in_ok-request.request.now refl l.3.0 l.1 in
    found-miss number c.in_ok-request.request.now c.if-request-number.false ∙ sym (ap (found number) at) ∙ place_in-point number c.partition_point-at.result xs h point.0 point.1

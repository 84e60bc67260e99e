use Rattle.std.proofs.Common.{◌≡◌, length, sym, subst, List, rules}
use mathlib.Core.List.{IsPrefix}
use Rattle.pg_log.specs.Requests.{ClientRequest}
use Rattle.pg_log.specs.Entries.{requests_of}
use Rattle.pg_log.proofs.Adopted.{begins_whole, whole_begins}
use Rattle.pg_log.proofs.group.Group.begins_with.Goals as goal

pub returns : goal.returns
returns g c =
    let list = c.args.list.now in
    let own = requests_of c.entries.result.now in
    let k = c.common_beginning.result in
    let P : List ClientRequest → Type 0 = λ l. IsPrefix list l in
    let same : own ≡ c.args.self.now = c.entries.ensures.requests in (
      λ h. let e : k ≡ length list = search rules in subst P same (begins_whole own list k c.common_beginning.ensures e),
      λ p. let e : k ≡ length list = whole_begins own list k c.common_beginning.ensures (subst P (sym same) p) in search rules,
    )

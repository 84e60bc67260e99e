use Rattle.std.proofs.Common.{◌≡◌, ◌<◌, ◌∙◌, ℕ, List, take, length, Some, ap, sym, subst, arith}
use Rattle.std.specs.Prelude.{slice_get}
use Rattle.std.specs.List.{AllByRecursion}
use Rattle.std.proofs.lemmas.Option.{slice_get-get_or}
use Rattle.std.proofs.lemmas.List.{length-take-le}
use Rattle.pg_log.specs.Requests.{ClientRequest}
use Rattle.pg_log.specs.Log.{Legal, reply_at}
use Rattle.pg_log.specs.Entries.{requests_of}
use Rattle.pg_log.specs.Within.{IsRequest}
use Rattle.pg_log.proofs.Kept.{requests_at}
use Rattle.peering.proofs.Lists.{length_requests}
use Rattle.commit_board.specs.Lists.{list_at}
use Rattle.group_cell.specs.Cell.{CellState}
use Rattle.group_cell.specs.Posts.{Stands}
use Rattle.group_cell.proofs.Standing.{committed_stands}
use Rattle.group_cell.proofs.cell.GroupCell.reply_with.Goals as goal

pub invariant_of-result : goal.invariant_of-result
invariant_of-result g c =
    let i = c.self.invariant in
    let s = c.self.inside.node.state in
    let place = c.args.place in
    let classes = g.N.Classes.classes in
    let es = c.entries.result.now in
    let e = c.index-entries-place.result in
    let request = c.in-Ok.request in
    let answer = c.args.answer in
    let written : List ClientRequest = take s.committed s.log in
    let list : list_at c.share.result.lists c.row.result ≡ written =
    ap (λ (k : ℕ). list_at c.share.result.lists k) c.row.ensures ∙ c.share.ensures.row ∙ i.1 in
    let log : requests_of es ≡ s.log = c.entries.ensures.requests ∙ c.group.ensures in
    let viewed = ap (λ (k : CellState). k.written) c.self.view_is in
    let below : place < s.committed =
    omega (arith, c.requires.committed, ap (λ (w : List ClientRequest). length w) viewed, ap (λ (w : List ClientRequest). length w) i.1, length-take-le s.committed s.log c.committed.ensures.within) in
    let long : length es ≡ length s.log = sym (length_requests es) ∙ ap (λ (w : List ClientRequest). length w) log in
    let at = slice_get-get_or es place e (omega (arith, below, long, c.committed.ensures.within)) in
    let there : slice_get s.log place ≡ Some request =
    ap (λ (w : List ClientRequest). slice_get w place) (sym log) ∙ requests_at es place _ at ∙ ap (λ (r : ClientRequest). Some r) (sym c.in-Ok.ensures.ok) in
    let gives = ap (λ (w : List ClientRequest). reply_at classes w place) (sym i.1 ∙ viewed) ∙ c.requires.answer in
    let legal = subst (λ (w : List ClientRequest). Legal classes w) c.group.ensures c.entries.ensures.legal in
    let stands = committed_stands c.legal_lists.ensures.beginnings c.pairs.ensures.once classes s.log s.committed place request answer
    legal (subst (λ (w : List ClientRequest). AllByRecursion IsRequest w) i.1 i.2) c.committed.ensures.within below there gives in
    (c.share.ensures.board ∙ c.requires.board, subst (λ (l : List ClientRequest). Stands classes l place request answer) (sym list) stands)

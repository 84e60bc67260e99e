use Rattle.std.proofs.Common.{FitsSigned, ◌≡◌, ◌<◌, ◌∙◌, ℕ, List, length, Some, ap, sym, arith, rules, w64}
use Rattle.std.specs.Int.{cast_unsigned}
use Rattle.std.proofs.lemmas.Int.{to_z-of_z}
use Rattle.std.proofs.lemmas.List.{length-take-le}
use Rattle.pg_log.specs.Requests.{ClientRequest}
use Rattle.pg_log.specs.Log.{Reply, reply_at}
use Rattle.pg_log.specs.Entries.{given_reply}
use Rattle.group_cell.specs.Cell.{CellState}
use Rattle.group_cell.proofs.Standing.{committed_answer}
use Rattle.group_cell.proofs.cell.GroupCell.reply.Goals as goal

pub reply_with-requires-clause-committed : goal.reply_with-requires-clause-committed
reply_with-requires-clause-committed g c =
    let s = c.self.inside.node.state in
    let long = ap (λ (w : List ClientRequest). length w) c.self.invariant.1 in
    let viewed = ap (λ (k : CellState). length k.written) c.self.view_is in
    omega (arith, long, viewed, c.committed.ensures.value, length-take-le s.committed s.log c.committed.ensures.within)

pub reply_with-requires-clause-answer : goal.reply_with-requires-clause-answer
reply_with-requires-clause-answer g c =
    let s = c.self.inside.node.state in
    let place = c.args.place in
    let classes = g.N.Classes.classes in
    let answer = c.new-answer.result in
    let below : place < s.committed = omega (arith, c.committed.ensures.value) in
    let code = c.in-Some.code in
    let fits : FitsSigned w64 code = search rules in
    let made : answer ≡ record { code = cast_unsigned w64 code; output = c.in-Some.output.now } =
    c.new-answer.ensures ∙ ap (λ z. record { code = cast_unsigned w64 z; output = c.in_ok-from_slice.field-0.items }) (to_z-of_z w64 code fits)
    ∙ ap (λ (o : List ℕ). record { code = cast_unsigned w64 code; output = o }) c.in_ok-from_slice.ensures.items in
    let gives : reply_at classes s.log place ≡ Some answer =
    ap (λ (w : List ClientRequest). reply_at classes w place) (sym c.group.ensures) ∙ sym c.reply_at.ensures ∙ ap given_reply c.in-Some.is
    ∙ ap (λ (a : Reply). Some a) (sym made) in
    ap (λ (w : List ClientRequest). reply_at classes w place) (sym (ap (λ (k : CellState). k.written) c.self.view_is) ∙ c.self.invariant.1)
    ∙ committed_answer c.replies.ensures.stay classes s.log s.committed place c.committed.ensures.within below ∙ gives

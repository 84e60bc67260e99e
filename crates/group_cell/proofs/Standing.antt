-- What is committed stands in the committed list as it does in the log.
use Rattle.std.proofs.Common.{◌≡◌, ℕ, ◌<◌, ◌≤◌, List, take, drop, length, refl, ap, sym, ◌∙◌, subst, arith, Some}
use Rattle.std.specs.Prelude.{slice_get}
use Rattle.std.specs.List.{AllByRecursion}
use Rattle.std.proofs.lemmas.List.{take-append-drop, length-take-le}
use Rattle.pg_log.specs.Requests.{ClientRequest}
use Rattle.pg_log.specs.Log.{Classes, Legal, Reply, reply_at}
use Rattle.pg_log.specs.Within.{IsRequest}
use Rattle.pg_log.specs.Laws.{BeginningsAreLegal, PairsStandOnce, RepliesStay}
use Rattle.group_world.proofs.Leading.{slice_get_take}
use Rattle.group_cell.specs.Posts.{Stands}

-- the answer at a committed place is that of the log
pub committed_answer : (stay : RepliesStay) (classes : Classes) (log : List ClientRequest) (c place : ℕ) → c ≤ length log → place < c → reply_at classes (take c log) place ≡ reply_at classes log place
committed_answer stay classes log c place within below =
    sym (stay classes (take c log) (drop c log) place (omega (arith, length-take-le c log within)))
    ∙ ap (λ (w : List ClientRequest). reply_at classes w place) (take-append-drop c log)

-- the request at a committed place of the log stands there in the committed list
pub committed_request : (log : List ClientRequest) (c place : ℕ) (request : ClientRequest) → c ≤ length log → place < c → slice_get log place ≡ Some request → slice_get (take c log) place ≡ Some request
committed_request log c place request within below there = slice_get_take c place log below within ∙ there

pub committed_stands : (beginnings : BeginningsAreLegal) (once : PairsStandOnce) (classes : Classes) (log : List ClientRequest) (c place : ℕ) (request : ClientRequest) (answer : Reply) →
    Legal classes log → AllByRecursion IsRequest (take c log) → c ≤ length log → place < c → slice_get log place ≡ Some request → reply_at classes (take c log) place ≡ Some answer → Stands classes (take c log) place request answer
committed_stands beginnings once classes log c place request answer legal requests within below there gives =
    let list = take c log in
    let begun : Legal classes list = beginnings classes list (drop c log) (subst (λ (w : List ClientRequest). Legal classes w) (sym (take-append-drop c log)) legal) in
    let stands = committed_request log c place request within below there in
    record {
      legal = begun;
      requests = requests;
      there = stands;
      once = λ k at. once classes list begun k place request request at stands refl refl;
      gives = gives;
    }

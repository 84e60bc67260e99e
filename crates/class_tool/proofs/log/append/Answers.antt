use Rattle.std.proofs.Common.{◌≡◌, ◌⊎◌, ◌++◌, ◌∷◌, [], ◌∙◌, ap, subst, Err, List}
use Rattle.bpf_decode.specs.Class.{ClassMethod}
use Rattle.pg_log.specs.Refusals.{append_answer}
use Rattle.pg_log.specs.Requests.{ClientRequest}
use Rattle.pg_log.specs.declared.log_error.LogError.TheVariants.{NoMemory}
use Rattle.class_tool.proofs.Called.{call_refused}
use Rattle.class_tool.proofs.log.append.Goals as goal

pub returns-clause-err : goal.returns-clause-err
returns-clause-err c =
    let table : c.add.new.self ≡ c.args.class ∷ [] = c.in-Ok.ensures.added ∙ ap (λ (t : List (List ClassMethod)). t ++ (c.args.class ∷ [])) c.new-table.ensures in
    let P : List (List ClassMethod) → Type 0 = λ t. (append_answer t [] c.in_ok-request.request ≡ Err c.in-Err.error) ⊎ (c.in-Err.error ≡ NoMemory) in
    let Q : ClientRequest → Type 0 = λ r. (append_answer (c.args.class ∷ []) [] r ≡ Err c.in-Err.error) ⊎ (c.in-Err.error ≡ NoMemory) in
    call_refused c.args.class c.args.method.now c.args.input.items c.args.caller c.in-Err.error c.call_error.result c.call_error.ensures
    (subst Q c.in_ok-request.ensures (subst P table c.in-Err.ensures.err))

-- What `Box::into_raw_with_allocator` asks of the class beside its box: that its `drop` lets it go,
-- at any lifetime within the class's own.
--     drops     the `drop`, as a call passes it
--     goes      it meets what is asked. Its own contract asks nothing, so it carries the lifetime's
--               token along, and what it says of the class at the end is let go
use mathlib.Core.Path.{refl}
use mathlib.Core.List.{[], ◌∷◌}
use seplogic.Ra.Ura.{Ura}
use mir.Syntax.{Callee, Dict, impl, tnil, dnil, method, no_args}
use mir.Val.{Val}
use base.Logic.{SProp, sep, ex, emp, id⊢, via}
use prog.Model.{Model}
use prog.Wired.{Wired}
use types.Logic.{Logic, sem}
use types.Kit.{raw, ◌⊛◌, some, later, ◌$◌, ◌∵◌, !, qed, move, use1, split, join, pick, drop, show, frame, fjoin, await, updating, now as at_once, done}
use contract.Monad.{fm→mono}
use contract.Running.{Running}
use denote.Exit.{no}
use denote.Param.Glue as glue
use denote.Steps.{nothing}
use denote.Triple.Carry.{grown, spared}
use denote.Triple.Clauses.{Ended, lasts}
use denote.Triple.Spec.{Back, triple_of}
use denote.Triple.Table.{run_framed, widened}
use Rattle.class_loops.specs.contracts.held.HeldClass as Class
use Rattle.class_loops.specs.contracts.held.HeldClass.drop as its_drop
use Rattle.class_loops.proofs.held.HeldClass.drop.Met.{met}
use Rattle.class_loops.proofs.held.HeldClass.drop.Symbol.{code, as_method, symbol, name}

abbrev pub drops : Dict
drops = impl (symbol ∷ []) tnil dnil

abbrev callee : Callee
callee = method drops 0 no_args

-- what is asked: the class is handed over for good, so nothing is said of it at the end
abbrev asked : Ended
asked = record { signature = glue.signature Class.the_row; kept = (no, tt) }

pub goes : {M : Type 1} (𝓤 : Ura M) (𝓛 : Logic 𝓤) (𝓜 : Model 𝓤 𝓛.H) (𝓡 : Running 𝓤 𝓛.H 𝓜) → Wired 𝓡.env code → glue.Met 𝓛 𝓜 𝓡 𝓡.env Class.the_row drops
goes 𝓤 𝓛 𝓜 𝓡 wired y =
    let c = its_drop.spec 𝓛 𝓜.mem 𝓡.returns in
    let run = 𝓡.run (𝓡.env callee) in
    let fm = run_framed 𝓤 𝓛.H 𝓜 𝓡 (𝓡.env callee) in
    -- by its own name it meets its own contract, so it does as the method of `drops`
    let own = widened 𝓤 𝓛.H (triple_of 𝓛 its_drop.signature c) 𝓜 𝓡 𝓡.env (𝓡.env name) (𝓡.env callee) (as_method 𝓡.env wired callee refl) (met 𝓤 𝓛 𝓜 𝓡 wired) in
    let G = grown 𝓛 its_drop.signature 1 (Class.the_row.lives, tt) c in
    let W = triple_of 𝓛 (glue.signature Class.the_row) (glue.spent 𝓛 Class.the_row) in
    let back : Val → Unit {0} → SProp 𝓤 = Back 𝓛 (glue.signature Class.the_row) y.0 in
    let end : Unit {0} × Unit {0} → SProp 𝓤 = λ ws. sep 𝓤 (sem 𝓛 (lasts asked y.0.0 y.0.3 ws)) (emp 𝓤) in
    via 𝓤 (run (G.args y) (G.post y)) (spared 𝓛 its_drop.signature run fm 1 (Class.the_row.lives, tt) c own y)
    (fm→mono 𝓤 (run (G.args y)) (fm (G.args y)) (G.post y) (W.post y) (λ v.
    qed 𝓛 (raw (G.post y v) ∷ []) ∵ updating ! $
    use1 𝓛 (later (some (λ (r : Unit {0}). raw (back v r) ⊛ raw ((c tt y.0.3).ensures tt r)))) (id⊢ 𝓤 _) $ await ! tt $ pick ! (λ r. split ! $ move ! (1 ∷ []) $ drop ! $
    -- [the token with the result]
    at_once ! $ show ! (λ (r' : Unit {0}). sep 𝓤 (back v r') (ex 𝓤 end)) r $ frame ! $ show ! end (tt, tt) $ nothing ! $ nothing ! $ nothing ! $ fjoin ! $ join ! $ done !)))

use Rattle.std.proofs.Common.{[], ◌∷◌}
use Rattle.std.specs.FinMap as map
use Rattle.pg_log.proofs.Fold.{fold_from-append, fold-beginning}
use Rattle.pg_log.proofs.laws.folds.Goals as goal

pub returns-clause-step : goal.returns-clause-step
returns-clause-step c = λ classes xs r. fold_from-append classes map.empty xs (r ∷ [])

pub returns-clause-on : goal.returns-clause-on
returns-clause-on c = λ classes xs ys. fold_from-append classes map.empty xs ys

pub returns-clause-stay : goal.returns-clause-stay
returns-clause-stay c = fold-beginning

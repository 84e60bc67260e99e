use Rattle.loop_bytes.proofs.Exact.{are_bytes}
use Rattle.loop_bytes.proofs.ExactLoops.{loops_exact, one_beginning}
use Rattle.loop_bytes.proofs.laws.round_trip.Goals as goal

pub returns-clause-written : goal.returns-clause-written
returns-clause-written c = λ starts loops rest may. (loops_exact starts).again loops rest may

pub returns-clause-read : goal.returns-clause-read
returns-clause-read c = λ starts bytes loops rest fits e. (loops_exact starts).exact bytes loops rest (are_bytes bytes fits) e

pub returns-clause-one : goal.returns-clause-one
returns-clause-one c = λ starts l m x y p q e. one_beginning starts l m x y p q e

use Rattle.abstract_num.proofs.Loads.{load_holds}
use Rattle.abstract_num.proofs.number.loaded.Goals as goal

pub returns-clause-holds : goal.returns-clause-holds
returns-clause-holds c = load_holds c.args.precision c.args.width c.of_load.result c.of_load.ensures

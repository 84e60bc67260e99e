use Rattle.abstract_num.proofs.Loads.{signed_load_holds}
use Rattle.abstract_num.proofs.number.loaded_signed.Goals as goal

pub returns-clause-holds : goal.returns-clause-holds
returns-clause-holds c = signed_load_holds c.args.precision c.args.width c.of_signed_load.result c.of_signed_load.ensures

use Rattle.abstract_num.proofs.Keepings.{constants_fit, negative_keeps, range_keeps, load_keeps, signed_load_keeps, join_keeps}
use Rattle.abstract_num.proofs.Tight.{tighten_sound}
use Rattle.abstract_num.proofs.Transfers.{view_fits, any_holds, constant_holds, transferred_keeps, copied_keeps, sign_extended_keeps, ordered_keeps}
use Rattle.abstract_num.proofs.Pairs.{along_keeps}
use Rattle.abstract_num.proofs.laws.keeping_laws.Goals as goal

pub returns-clause-fits : goal.returns-clause-fits
returns-clause-fits c = view_fits

pub returns-clause-constants_fit : goal.returns-clause-constants_fit
returns-clause-constants_fit c = constants_fit

pub returns-clause-any : goal.returns-clause-any
returns-clause-any c = any_holds

pub returns-clause-constant : goal.returns-clause-constant
returns-clause-constant c = constant_holds

pub returns-clause-arithmetic : goal.returns-clause-arithmetic
returns-clause-arithmetic c = transferred_keeps

pub returns-clause-negative : goal.returns-clause-negative
returns-clause-negative c = negative_keeps

pub returns-clause-copies : goal.returns-clause-copies
returns-clause-copies c = copied_keeps

pub returns-clause-extensions : goal.returns-clause-extensions
returns-clause-extensions c = sign_extended_keeps

pub returns-clause-orders : goal.returns-clause-orders
returns-clause-orders c = ordered_keeps

pub returns-clause-ranges : goal.returns-clause-ranges
returns-clause-ranges c = range_keeps

pub returns-clause-loads : goal.returns-clause-loads
returns-clause-loads c = load_keeps

pub returns-clause-signed_loads : goal.returns-clause-signed_loads
returns-clause-signed_loads c = signed_load_keeps

pub returns-clause-tighten : goal.returns-clause-tighten
returns-clause-tighten c = tighten_sound

pub returns-clause-edges : goal.returns-clause-edges
returns-clause-edges c = along_keeps

pub returns-clause-join : goal.returns-clause-join
returns-clause-join c = join_keeps

use Rattle.abstract_regs.proofs.Keeping.{each_fits}
use Rattle.abstract_regs.proofs.slots.fit_all.Goals as goal

pub returns : goal.returns
returns c = each_fits c.keeping_laws.ensures.fits c.args.kinds.now

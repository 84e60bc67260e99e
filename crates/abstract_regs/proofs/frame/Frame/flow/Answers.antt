use Rattle.abstract_num.specs.Plain.{view}
use Rattle.abstract_regs.proofs.LinkKeeping.{keeps}
use Rattle.abstract_regs.proofs.frame.Frame.flow.Goals as goal

pub returns-clause-keeps : goal.returns-clause-keeps
returns-clause-keeps c =
    let law = c.keeping_laws.ensures in
    keeps (record {
      constants_fit = law.constants_fit;
      any = law.any;
      constant = law.constant;
      arithmetic = law.arithmetic;
      negative = law.negative;
      copies = law.copies;
      extensions = law.extensions;
      orders = law.orders;
      loads = law.loads;
      signed_loads = law.signed_loads;
      tighten = law.tighten;
      edges = law.edges;
    }) c.args.precision c.args.self.now c.fits.ensures.fits c.fits.ensures.eleven c.args.room (view c.args.answer.now) c.args.insn.now c.args.slot

use Rattle.abstract_regs.proofs.Known.{slots_known, loads_known, ranges_known}
use Rattle.abstract_regs.proofs.laws.slots_known.Goals as goal

pub returns-clause-slots : goal.returns-clause-slots
returns-clause-slots c =
    let law = c.keeping_laws.ensures in
    slots_known (record {
      constants_fit = law.constants_fit;
      any = law.any;
      constant = law.constant;
      arithmetic = law.arithmetic;
      negative = law.negative;
      copies = law.copies;
      extensions = law.extensions;
      orders = law.orders;
      loads = law.loads;
      signed_loads = law.signed_loads;
      tighten = law.tighten;
      edges = law.edges;
    })

pub returns-clause-loads : goal.returns-clause-loads
returns-clause-loads c =
    let law = c.keeping_laws.ensures in
    loads_known (record {
      constants_fit = law.constants_fit;
      any = law.any;
      constant = law.constant;
      arithmetic = law.arithmetic;
      negative = law.negative;
      copies = law.copies;
      extensions = law.extensions;
      orders = law.orders;
      loads = law.loads;
      signed_loads = law.signed_loads;
      tighten = law.tighten;
      edges = law.edges;
    })

pub returns-clause-ranges : goal.returns-clause-ranges
returns-clause-ranges c = ranges_known

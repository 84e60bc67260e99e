use Rattle.abstract_num.specs.declared.precision.Precision.TheVariants.{Halves}
use Rattle.abstract_regs.proofs.LinkKeeping as kept
use Rattle.verifier.proofs.Memory.{SlotLaws, Laws}
use Rattle.loop_tables.proofs.Steps.{FlowsKeep}
use Rattle.loop_tables.proofs.Runs.{LoopLaws, accepted}
use Rattle.loop_tables.proofs.laws.accepted_loops.Goals as goal

pub returns : goal.returns
returns c =
    let numbers = c.keeping_laws.ensures in
    let slots : SlotLaws =
    record {
      values = c.slots.ensures.values;
      begin = c.slots.ensures.begin;
      read = c.slots.ensures.read;
      bytes = c.slots.ensures.bytes;
      places = c.slots.ensures.places;
      numbers = c.slots.ensures.numbers;
    } in
    let laws : Laws =
    record {
      joins = c.holding_laws.ensures.joins;
      entry = c.holding_laws.ensures.entry;
      accesses = c.holding_laws.ensures.accesses;
      along = c.slots_stay.ensures.flows;
      joined = c.slots_stay.ensures.joins;
      names = c.links_stay.ensures.flow_names;
      joined_names = c.links_stay.ensures.join_names;
      places = c.slots_known.ensures.slots;
      loads = c.slots_known.ensures.loads;
      ranges = c.slots_known.ensures.ranges;
      slots = slots;
      effects = c.effects_keep_the_form.ensures;
      answers = c.answers_are_in_range.ensures;
      any = numbers.any;
      tighten = numbers.tighten;
    } in
    let loops : LoopLaws = record { heads = c.loop_laws.ensures.heads; greater = c.loop_laws.ensures.greater; pairs = c.loop_laws.ensures.pairs; links = c.links_stay.ensures.flows; joined_links = c.links_stay.ensures.joins } in
    let keeps : FlowsKeep =
    kept.keeps (record {
      constants_fit = numbers.constants_fit;
      any = numbers.any;
      constant = numbers.constant;
      arithmetic = numbers.arithmetic;
      negative = numbers.negative;
      copies = numbers.copies;
      extensions = numbers.extensions;
      orders = numbers.orders;
      loads = numbers.loads;
      signed_loads = numbers.signed_loads;
      tighten = numbers.tighten;
      edges = numbers.edges;
    }) Halves in
    accepted laws loops keeps

use Rattle.class_calls.proofs.One.{loaded_same, loaded_not, refused_same}
use Rattle.class_calls.proofs.laws.one_class.Goals as goal

pub returns-clause-class : goal.returns-clause-class
returns-clause-class c = loaded_same c.one_class.ensures.image c.round_trip.ensures.written

pub returns-clause-loaded : goal.returns-clause-loaded
returns-clause-loaded c = loaded_not c.one_class.ensures.image c.round_trip.ensures.written

pub returns-clause-refusal : goal.returns-clause-refusal
returns-clause-refusal c = refused_same c.one_class.ensures.image c.round_trip.ensures.written

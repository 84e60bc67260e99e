use Rattle.op_shards.proofs.Sent.{grew_none, grew_several, sent_property, sent_further}
use Rattle.op_shards.proofs.laws.sending_goes_on.Goals as goal

pub returns-clause-none : goal.returns-clause-none
returns-clause-none g c = grew_none

pub returns-clause-several : goal.returns-clause-several
returns-clause-several g c = grew_several

pub returns-clause-property : goal.returns-clause-property
returns-clause-property g c = sent_property g.P.Property.holds

pub returns-clause-further : goal.returns-clause-further
returns-clause-further g c = sent_further g.P.Property.holds

use Rattle.helpers.proofs.Leads.{edits_lead}
use Rattle.helpers.proofs.laws.edits_lead.Goals as goal

pub returns : goal.returns
returns c = edits_lead

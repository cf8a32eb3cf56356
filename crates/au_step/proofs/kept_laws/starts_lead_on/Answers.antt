use Rattle.au_step.proofs.Frames.{start_leads}
use Rattle.au_step.proofs.kept_laws.starts_lead_on.Goals as goal

pub returns : goal.returns
returns c = start_leads

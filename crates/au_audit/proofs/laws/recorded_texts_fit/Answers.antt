use Rattle.au_audit.proofs.Recorded.{recorded_fits, recorded_some}
use Rattle.au_audit.proofs.laws.recorded_texts_fit.Goals as goal

pub returns-clause-some : goal.returns-clause-some
returns-clause-some c = recorded_some

pub returns-clause-fits : goal.returns-clause-fits
returns-clause-fits c = recorded_fits

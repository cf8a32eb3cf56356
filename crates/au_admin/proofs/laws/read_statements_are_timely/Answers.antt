use Rattle.au_admin.proofs.Short.{timely}
use Rattle.au_admin.proofs.laws.read_statements_are_timely.Goals as goal

pub returns : goal.returns
returns c = timely

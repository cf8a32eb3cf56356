use Rattle.au_admin.proofs.Short.{short}
use Rattle.au_admin.proofs.laws.read_statements_are_short.Goals as goal

pub returns : goal.returns
returns c = short

use Rattle.au_modify.proofs.Known.{have_columns}
use Rattle.au_modify.proofs.targets.targets_are_columns.Goals as goal

pub returns : goal.returns
returns c = λ columns names is. have_columns columns names is

use Rattle.au_modify.proofs.Known.{known, one_by_one}
use Rattle.au_modify.proofs.targets.kinds_are_told_one_by_one.Goals as goal

pub returns : goal.returns
returns c = λ ranges columns names values is. one_by_one ranges columns names values (known columns names is)

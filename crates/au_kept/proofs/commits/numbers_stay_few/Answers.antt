use Rattle.au_kept.proofs.Numbers.{counted, one_more, used}
use Rattle.au_kept.proofs.commits.numbers_stay_few.Goals as goal

pub returns-clause-counted : goal.returns-clause-counted
returns-clause-counted c = counted

pub returns-clause-used : goal.returns-clause-used
returns-clause-used c = used

pub returns-clause-one_more : goal.returns-clause-one_more
returns-clause-one_more c = one_more

use Rattle.au_store.proofs.Doubted.{left_wrote, not_both, one_left}
use Rattle.au_store.proofs.laws.one_doubt.Goals as goal

pub returns-clause-one : goal.returns-clause-one
returns-clause-one c = one_left c.one_result.ensures.logged c.one_result.ensures.step

pub returns-clause-begun : goal.returns-clause-begun
returns-clause-begun c = not_both

pub returns-clause-wrote : goal.returns-clause-wrote
returns-clause-wrote c = left_wrote c.one_result.ensures.logged c.one_result.ensures.step

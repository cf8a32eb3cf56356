use Rattle.au_grants.proofs.Reached.{found_more}
use Rattle.au_grants.proofs.searching.put.Goals as goal

pub returns-clause-went_on : goal.returns-clause-went_on
returns-clause-went_on c = found_more _ _ _ _ _ c.requires.search c.requires.first c.requires.new

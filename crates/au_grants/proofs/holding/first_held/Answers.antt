use Rattle.au_grants.proofs.Holders.{first_of_both}
use Rattle.au_grants.proofs.holding.first_held.Goals as goal

pub returns : goal.returns
returns c = first_of_both _ _ _ _ _ _ c.first_granted-direct.ensures c.first_by_role.ensures

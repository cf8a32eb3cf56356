use Rattle.au_entries.proofs.DemandedNames.{demanded_few, demanded_from, demanded_ordered}
use Rattle.au_entries.proofs.laws.demanded_names_stand_in_order.Goals as goal

pub returns-clause-few : goal.returns-clause-few
returns-clause-few c = demanded_few

pub returns-clause-from : goal.returns-clause-from
returns-clause-from c = demanded_from

pub returns-clause-ordered : goal.returns-clause-ordered
returns-clause-ordered c = demanded_ordered

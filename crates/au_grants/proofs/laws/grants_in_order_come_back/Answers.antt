use Rattle.au_grants.proofs.Regranted.{object_regranted, role_regranted, system_regranted}
use Rattle.au_grants.proofs.laws.grants_in_order_come_back.Goals as goal

pub returns-clause-system : goal.returns-clause-system
returns-clause-system c grants ordered = system_regranted grants ordered.0

pub returns-clause-role : goal.returns-clause-role
returns-clause-role c grants ordered = role_regranted grants ordered.1

pub returns-clause-object : goal.returns-clause-object
returns-clause-object c grants ordered = object_regranted grants ordered.2

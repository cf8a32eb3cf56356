use Rattle.au_base.proofs.SamenessDecides.{action_decides, privilege_decides, table_decides}
use Rattle.au_base.proofs.sameness.same_is_equal.Goals as goal

pub returns-clause-table : goal.returns-clause-table
returns-clause-table c = table_decides

pub returns-clause-privilege : goal.returns-clause-privilege
returns-clause-privilege c = privilege_decides

pub returns-clause-action : goal.returns-clause-action
returns-clause-action c = action_decides

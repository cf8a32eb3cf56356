use Rattle.au_grants.proofs.Limits.{applied_count, grant_adds, other_adds}
use Rattle.au_grants.proofs.laws.changes_add_one_grant_at_most.Goals as goal

pub returns-clause-grants : goal.returns-clause-grants
returns-clause-grants c grants change is = grant_adds change grants

pub returns-clause-others : goal.returns-clause-others
returns-clause-others c grants change not_grant = other_adds change grants not_grant

pub returns-clause-new : goal.returns-clause-new
returns-clause-new c grants change = applied_count change grants

use Rattle.au_grants.specs.Holding.{grants_role_as}
use Rattle.au_grants.specs.Order.{role_before}
use Rattle.au_grants.proofs.Growths.{found_first, found_second}
use Rattle.au_grants.proofs.granting.is_role_there_as.Goals as goal

pub returns-then-has_role_as : goal.returns-then-has_role_as
returns-then-has_role_as c = found_first (grants_role_as c.args.grantee.now c.args.role.now c.args.admin) role_before _ _ _ _ c.as_slice.ensures.value c.has_role_as.ensures c.if-has_role_as.true

pub returns-else-has_role_as : goal.returns-else-has_role_as
returns-else-has_role_as c =
    found_second (grants_role_as c.args.grantee.now c.args.role.now c.args.admin) role_before _ _ _ _ _ _ c.as_slice.ensures.value c.has_role_as.ensures c.if-has_role_as.false c.as_slice-else-has_role_as.ensures.value c.has_role_as-else-has_role_as.ensures

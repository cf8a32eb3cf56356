use Rattle.au_grants.specs.Holding.{grants_role}
use Rattle.au_grants.specs.Order.{role_before}
use Rattle.au_grants.proofs.Growths.{found_first, found_second}
use Rattle.au_grants.proofs.granting.is_role_there.Goals as goal

pub returns-then-has_role : goal.returns-then-has_role
returns-then-has_role c = found_first (grants_role c.args.grantee.now c.args.role.now) role_before _ _ _ _ c.as_slice.ensures.value c.has_role.ensures c.if-has_role.true

pub returns-else-has_role : goal.returns-else-has_role
returns-else-has_role c =
    found_second (grants_role c.args.grantee.now c.args.role.now) role_before _ _ _ _ _ _ c.as_slice.ensures.value c.has_role.ensures c.if-has_role.false c.as_slice-else-has_role.ensures.value c.has_role-else-has_role.ensures

use Rattle.au_grants.specs.Holding.{grants_privilege_as}
use Rattle.au_grants.specs.Order.{system_before}
use Rattle.au_grants.proofs.Growths.{found_first, found_second}
use Rattle.au_grants.proofs.granting.is_system_there_as.Goals as goal

pub returns-then-has_privilege_as : goal.returns-then-has_privilege_as
returns-then-has_privilege_as c = found_first (grants_privilege_as c.args.grantee.now c.args.privilege c.args.admin) system_before _ _ _ _ c.as_slice.ensures.value c.has_privilege_as.ensures c.if-has_privilege_as.true

pub returns-else-has_privilege_as : goal.returns-else-has_privilege_as
returns-else-has_privilege_as c =
    found_second (grants_privilege_as c.args.grantee.now c.args.privilege c.args.admin) system_before _ _ _ _ _ _ c.as_slice.ensures.value c.has_privilege_as.ensures c.if-has_privilege_as.false c.as_slice-else-has_privilege_as.ensures.value c.has_privilege_as-else-has_privilege_as.ensures

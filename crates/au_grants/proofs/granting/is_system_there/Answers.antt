use Rattle.au_grants.specs.Holding.{grants_privilege}
use Rattle.au_grants.specs.Order.{system_before}
use Rattle.au_grants.proofs.Growths.{found_first, found_second}
use Rattle.au_grants.proofs.granting.is_system_there.Goals as goal

pub returns-then-has_privilege : goal.returns-then-has_privilege
returns-then-has_privilege c = found_first (grants_privilege c.args.grantee.now c.args.privilege) system_before _ _ _ _ c.as_slice.ensures.value c.has_privilege.ensures c.if-has_privilege.true

pub returns-else-has_privilege : goal.returns-else-has_privilege
returns-else-has_privilege c =
    found_second (grants_privilege c.args.grantee.now c.args.privilege) system_before _ _ _ _ _ _ c.as_slice.ensures.value c.has_privilege.ensures c.if-has_privilege.false c.as_slice-else-has_privilege.ensures.value c.has_privilege-else-has_privilege.ensures

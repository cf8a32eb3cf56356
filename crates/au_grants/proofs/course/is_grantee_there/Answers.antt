use Rattle.au_grants.specs.Changing.{role_to}
use Rattle.au_grants.specs.Order.{role_before}
use Rattle.au_grants.proofs.Growths.{found_first, found_second}
use Rattle.au_grants.proofs.course.is_grantee_there.Goals as goal

pub returns-then-is_grantee : goal.returns-then-is_grantee
returns-then-is_grantee c = found_first (role_to c.args.name.now) role_before _ _ _ _ c.as_slice.ensures.value c.is_grantee.ensures c.if-is_grantee.true

pub returns-else-is_grantee : goal.returns-else-is_grantee
returns-else-is_grantee c =
    found_second (role_to c.args.name.now) role_before _ _ _ _ _ _ c.as_slice.ensures.value c.is_grantee.ensures c.if-is_grantee.false c.as_slice-else-is_grantee.ensures.value c.is_grantee-else-is_grantee.ensures

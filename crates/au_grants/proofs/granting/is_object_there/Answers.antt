use Rattle.au_grants.specs.Holding.{grants_object}
use Rattle.au_grants.specs.Order.{object_before}
use Rattle.au_grants.proofs.Growths.{found_first, found_second}
use Rattle.au_grants.proofs.granting.is_object_there.Goals as goal

pub returns-then-has_object : goal.returns-then-has_object
returns-then-has_object c = found_first (grants_object c.args.grantee.now c.args.table.now c.args.action) object_before _ _ _ _ c.as_slice.ensures.value c.has_object.ensures c.if-has_object.true

pub returns-else-has_object : goal.returns-else-has_object
returns-else-has_object c =
    found_second (grants_object c.args.grantee.now c.args.table.now c.args.action) object_before _ _ _ _ _ _ c.as_slice.ensures.value c.has_object.ensures c.if-has_object.false c.as_slice-else-has_object.ensures.value c.has_object-else-has_object.ensures

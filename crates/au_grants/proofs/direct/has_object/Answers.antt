use Rattle.std.proofs.Common.{◌∙◌, ap}
use Rattle.au_grants.specs.Holding.{grants_object}
use Rattle.au_grants.proofs.AtPlaces.{object_at}
use Rattle.au_grants.proofs.direct.has_object.Goals as goal

pub returns-then-place-object : goal.returns-then-place-object
returns-then-place-object c =
    c.is_object_grant.ensures ∙ ap (grants_object c.args.grantee.now c.args.table.now c.args.action) c.index-object-place.is ∙ object_at c.args.grantee.now c.args.table.now c.args.action _ _ _ c.requires.order c.object_place-place.ensures c.if-place-object.true

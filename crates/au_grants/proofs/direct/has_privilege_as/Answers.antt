use Rattle.std.proofs.Common.{◌∙◌, ap}
use Rattle.au_grants.specs.Holding.{grants_privilege_as}
use Rattle.au_grants.proofs.AtPlaces.{system_as_at}
use Rattle.au_grants.proofs.direct.has_privilege_as.Goals as goal

pub returns-then-place-system : goal.returns-then-place-system
returns-then-place-system c =
    c.is_system_grant_as.ensures ∙ ap (grants_privilege_as c.args.grantee.now c.args.privilege c.args.admin) c.index-system-place.is ∙ system_as_at c.args.grantee.now c.args.privilege c.args.admin _ _ _ c.requires.order c.system_place-place.ensures c.if-place-system.true

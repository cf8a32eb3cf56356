use Rattle.std.proofs.Common.{◌∙◌, ap}
use Rattle.au_grants.specs.Holding.{grants_privilege}
use Rattle.au_grants.proofs.AtPlaces.{system_at}
use Rattle.au_grants.proofs.direct.has_privilege.Goals as goal

pub returns-then-place-system : goal.returns-then-place-system
returns-then-place-system c =
    c.is_system_grant.ensures ∙ ap (grants_privilege c.args.grantee.now c.args.privilege) c.index-system-place.is ∙ system_at c.args.grantee.now c.args.privilege _ _ _ c.requires.order c.system_place-place.ensures c.if-place-system.true

use Rattle.std.proofs.Common.{◌≡◌, take}
use Rattle.std.specs.List.{list_any}
use Rattle.au_grants.specs.Changing.{applied_all}
use Rattle.au_grants.specs.Holding.{grants_role_as}
use Rattle.au_priv.proofs.standing.stands_role.Given as goal

abbrev pub invariant-loop-change : goal.invariant-loop-change
invariant-loop-change l = l.stands ≡ list_any (grants_role_as l.grantee l.role l.admin) (applied_all (take l.change-index l.changes) l.before).role

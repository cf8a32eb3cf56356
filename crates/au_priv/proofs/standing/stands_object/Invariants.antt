use Rattle.std.proofs.Common.{◌≡◌, take}
use Rattle.std.specs.List.{list_any}
use Rattle.au_grants.specs.Changing.{applied_all}
use Rattle.au_grants.specs.Holding.{grants_object}
use Rattle.au_priv.proofs.standing.stands_object.Given as goal

abbrev pub invariant-loop-change : goal.invariant-loop-change
invariant-loop-change l = l.stands ≡ list_any (grants_object l.grantee l.table l.action) (applied_all (take l.change-index l.changes) l.before).object

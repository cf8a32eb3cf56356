use Rattle.au_grants.specs.Rights.{IsRoleGranted}
use Rattle.au_grants.specs.descent.Search.{AreSeen, WentOn, grantee_at}
use Rattle.au_grants.proofs.searching.visit_granted.Given as goal

abbrev pub invariant-loop-at : goal.invariant-loop-at
invariant-loop-at l =
    WentOn l.roles (IsRoleGranted l.roles (grantee_at l.roles l.place)) l.fn.marks l.fn.queue l.fn.count l.marks l.queue l.found × AreSeen l.roles l.marks l.place l.at

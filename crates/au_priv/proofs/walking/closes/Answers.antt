use Rattle.au_priv.proofs.walking.closes.Goals as goal

pub returns-in-RoleGrant-clause-closes : goal.returns-in-RoleGrant-clause-closes
returns-in-RoleGrant-clause-closes c = rw c.in-RoleGrant.is c.closes_circle.ensures.closes

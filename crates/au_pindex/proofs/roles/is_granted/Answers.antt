use Rattle.std.proofs.lemmas.Bool.Decides.{same_from_decides}
use Rattle.std.specs.List.{list_any}
use Rattle.au_grants.specs.Holding.{grants_privilege}
use Rattle.au_pindex.proofs.GrantedTo.{decides}
use Rattle.au_pindex.proofs.roles.is_granted.Goals as goal

pub returns : goal.returns
returns c =
    let system = c.args.grants.now.system in
    same_from_decides c.is_privilege_granted.result (list_any (grants_privilege c.args.role.now c.args.privilege) system) c.is_privilege_granted.ensures
    (decides c.same_is_equal.ensures.privilege c.args.role.now c.args.privilege system)

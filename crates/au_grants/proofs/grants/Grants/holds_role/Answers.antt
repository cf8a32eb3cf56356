use Rattle.std.proofs.Common.{sym, subst}
use Rattle.au_grants.specs.Rights.{Name, HoldsRole}
use Rattle.au_grants.proofs.grants.Grants.holds_role.Goals as goal

pub returns : goal.returns
returns c = (
  λ is. subst (λ (role : Name). HoldsRole c.args.self.now.role c.args.user.now role) c.as_str.ensures (c.holds.ensures.0 is),
  λ holds. c.holds.ensures.1 (subst (λ (role : Name). HoldsRole c.args.self.now.role c.args.user.now role) (sym c.as_str.ensures) holds),
)

use Rattle.std.proofs.Common.{ℕ, List, subst}
use Rattle.au_define.specs.Rules.{Tells}
use Rattle.au_grants.specs.Rights.{HoldsRole}
use Rattle.au_calls.proofs.rights.rights_of.Goals as goal

pub returns : goal.returns
returns c = record {
  system = c.holds_privilege.ensures;
  admin = subst (λ (role : List ℕ). Tells c.holds_role.result (HoldsRole c.args.case.now.case.grants.now.role c.args.case.now.case.user.now role)) c.in_ok-role.ensures c.holds_role.ensures;
}

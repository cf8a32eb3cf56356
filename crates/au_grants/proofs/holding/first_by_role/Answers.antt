use Rattle.std.proofs.Common.{◌≡◌, ◌∙◌, List, false, subst, sym}
use Rattle.std.specs.List.{list_any}
use Rattle.au_grants.specs.Changing.{role_to}
use Rattle.au_grants.specs.Rights.{RoleEntry}
use Rattle.au_grants.specs.descent.Search.{IsGivenByRole, right_at}
use Rattle.au_grants.proofs.Holders.{given_none, no_first}
use Rattle.au_grants.proofs.holding.first_by_role.Goals as goal

pub returns-then-not-is_grantee : goal.returns-then-not-is_grantee
returns-then-not-is_grantee c =
    no_first (λ j. IsGivenByRole c.args.grants.now c.args.user.now (right_at c.args.rights.now j)) c.args.limit
    (λ j less. given_none c.args.grants.now c.args.user.now (right_at c.args.rights.now j)
    (subst (λ (rs : List RoleEntry). list_any (role_to c.args.user.now) rs ≡ false) c.role_grants-roles.ensures.value (sym c.is_grantee.ensures ∙ c.if-not-is_grantee.true)))

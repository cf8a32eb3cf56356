-- GRANT and REVOKE make changes of grants and revocations alone.
use Rattle.std.proofs.Common.{false, inl, inr, List, [], ◌∷◌, map, sym, subst}
use Rattle.std.specs.Prelude.{⊤}
use Rattle.std.specs.List.{AllByRecursion}
use Rattle.au_base.specs.BuiltIn.{resolved_table}
use Rattle.au_base.specs.declared.action.Action.{Action}
use Rattle.au_base.specs.declared.code.Code.{Code}
use Rattle.au_base.specs.declared.grant.GrantStatement.{GrantStatement}
use Rattle.au_base.specs.declared.grant.GrantStatement.TheVariants as S
use Rattle.au_base.specs.declared.grant.ObjectRight.{ObjectRight}
use Rattle.au_base.specs.declared.grant.Right.{Right}
use Rattle.au_base.specs.declared.grant.Right.TheVariants.{Privilege, Role}
use Rattle.au_base.specs.declared.table.TableName.{TableName}
use Rattle.au_grants.specs.declared.change.GrantChange.{GrantChange}
use Rattle.au_grants.specs.declared.change.GrantChange.TheVariants as grant
use Rattle.au_grants.specs.Changing.{applied_all}
use Rattle.au_grants.specs.Rights.{Grants, Name}
use Rattle.au_priv.specs.declared.decided.Decided.{Decided}
use Rattle.au_priv.specs.declared.decided.Known.{Known}
use Rattle.au_priv.specs.declared.pair.Way.{Way}
use Rattle.au_priv.specs.declared.pair.Way.TheVariants.{Grant, Revoke}
use Rattle.au_priv.specs.Deciding.{Decides as DecidesRights, DecidesOnTable, DecidesPairs, DecidesRights as DecidesRightsBy}
use Rattle.au_priv.specs.Pairs.{Pair, actions_of, object_change, object_pair, pairs, right_pair}
use Rattle.au_priv.specs.Walking.{is_effective, made, made_all}
use Rattle.au_ruling.proofs.Lists.{all_filtered, all_joined, all_mapped}

-- the change grants or revokes
abbrev pub IsGrant : GrantChange → Type 0
IsGrant (grant.UserGone user) = ⊥
IsGrant (grant.RoleGone role) = ⊥
IsGrant (grant.TableGone table) = ⊥
IsGrant _ = ⊤

abbrev pub AreGrants : List GrantChange → Type 0
AreGrants changes = AllByRecursion IsGrant changes

made_grants : (grants : Grants) (list : List Pair) → AllByRecursion AreGrants list → AreGrants (made_all grants list)
made_grants grants [] all = tt
made_grants grants (pair ∷ list) all =
    all_joined IsGrant (made grants pair) (made_all (applied_all (made grants pair) grants) list) (all_filtered IsGrant (is_effective grants) pair all.0)
    (made_grants (applied_all (made grants pair) grants) list all.1)

module _ {R : Type 0} (make : R → Name → Pair) (each : (right : R) (grantee : Name) → AreGrants (make right grantee)) where
  pairs_grant : (rights : List R) (grantees : List Name) → AllByRecursion AreGrants (pairs make rights grantees)
  pairs_grant [] grantees = tt
  pairs_grant (right ∷ rights) grantees =
      all_joined AreGrants (map (make right) grantees) (pairs make rights grantees) (all_mapped AreGrants (make right) (each right) grantees) (pairs_grant rights grantees)

  decided_grants : (grants : Grants) (known : Known) (rights : List R) (grantees : List Name) (code : Code) (changes : List GrantChange)
      → DecidesPairs grants known grantees (pairs make rights grantees) code changes → AreGrants changes
  decided_grants grants known rights grantees code changes (inl refused) = subst AreGrants (sym refused.1) tt
  decided_grants grants known rights grantees code changes (inr (inl refused)) = subst AreGrants (sym refused.2) tt
  decided_grants grants known rights grantees code changes (inr (inr done)) = subst AreGrants (sym done.3) (made_grants grants (pairs make rights grantees) (pairs_grant rights grantees))

right_grants : (way : Way) (right : Right) (grantee : Name) → AreGrants (right_pair way right grantee)
right_grants (Grant admin) (Privilege privilege) grantee = (tt, tt)
right_grants (Grant admin) (Role role) grantee = (tt, tt)
right_grants Revoke (Privilege privilege) grantee = (tt, tt)
right_grants Revoke (Role role) grantee = (tt, tt)

object_change_grants : (way : Way) (table : TableName) (grantee : Name) (action : Action) → IsGrant (object_change way table grantee action)
object_change_grants (Grant admin) table grantee action = tt
object_change_grants Revoke table grantee action = tt

object_grants : (way : Way) (table : TableName) (right : ObjectRight) (grantee : Name) → AreGrants (object_pair way table right grantee)
object_grants way table right grantee = all_mapped IsGrant (object_change way table grantee) (object_change_grants way table grantee) (actions_of right)

rights_grant : (grants : Grants) (known : Known) (user : Name) (way : Way) (rights : List Right) (grantees : List Name) (decided : Decided)
    → DecidesRightsBy grants known user way rights grantees decided → AreGrants decided.grants
rights_grant grants known user way rights grantees decided (inl refused) = subst AreGrants (sym refused.2) tt
rights_grant grants known user way rights grantees decided (inr taken) = decided_grants (right_pair way) (right_grants way) grants known rights grantees decided.code decided.grants taken.2

table_grant : (grants : Grants) (known : Known) (user : Name) (way : Way) (table : TableName) (rights : List ObjectRight) (grantees : List Name) (decided : Decided)
    → DecidesOnTable grants known user way table rights grantees decided → AreGrants decided.grants
table_grant grants known user way table rights grantees decided (inl refused) = subst AreGrants (sym refused.2) tt
table_grant grants known user way table rights grantees decided (inr taken) = decided_grants (object_pair way table) (object_grants way table) grants known rights grantees decided.code decided.grants taken.2

pub all_grant : (grants : Grants) (known : Known) (user : Name) (statement : GrantStatement) (decided : Decided) → DecidesRights grants known user statement decided → AreGrants decided.grants
all_grant grants known user (S.Grant rights grantees admin) decided decides = rights_grant grants known user (Grant admin) rights grantees decided decides
all_grant grants known user (S.Revoke rights grantees) decided decides = rights_grant grants known user Revoke rights grantees decided decides
all_grant grants known user (S.GrantObject rights table grantees) decided decides = table_grant grants known user (Grant false) (resolved_table user table) rights grantees decided decides
all_grant grants known user (S.RevokeObject rights table grantees) decided decides = table_grant grants known user Revoke (resolved_table user table) rights grantees decided decides

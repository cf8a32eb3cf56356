use Rattle.std.proofs.Common.{◌≡◌, false, List, Result, sym, subst}
use Rattle.std.specs.Prelude.{IfOk}
use Rattle.au_base.specs.declared.grant.GrantStatement.{GrantStatement}
use Rattle.au_base.specs.declared.grant.ObjectRight.{ObjectRight}
use Rattle.au_base.specs.declared.grant.Right.{Right}
use Rattle.au_base.specs.declared.table.TableName.{TableName}
use Rattle.au_priv.specs.declared.decided.Decided.{Decided}
use Rattle.au_priv.specs.declared.decided.Known.{Known}
use Rattle.au_grants.specs.declared.grants.Grants.{Grants}
use Rattle.au_priv.specs.declared.pair.Way.{Way}
use Rattle.au_priv.specs.declared.pair.Way.TheVariants.{Grant, Revoke}
use Rattle.au_priv.specs.Deciding.{Decides, DecidesRights, DecidesOnTable}
use Rattle.au_grants.specs.Rights.{Name}
use Rattle.au_priv.proofs.deciding.decide_statement.Goals as goal

rights_at : {E : Type 0} (grants : Grants) (known : Known) (user : Name) (way : Way) (rights same : List Right) (grantees alike : List Name) (result : Result Decided E)
    → rights ≡ same → grantees ≡ alike → IfOk result (DecidesRights grants known user way rights grantees) → IfOk result (DecidesRights grants known user way same alike)
rights_at grants known user way rights same grantees alike result one two is =
    subst (λ (names : List Name). IfOk result (DecidesRights grants known user way same names)) two
    (subst (λ (list : List Right). IfOk result (DecidesRights grants known user way list grantees)) one is)

table_at : {E : Type 0} (grants : Grants) (known : Known) (user : Name) (way : Way) (table that : TableName) (rights same : List ObjectRight) (grantees alike : List Name) (result : Result Decided E)
    → table ≡ that → rights ≡ same → grantees ≡ alike → IfOk result (DecidesOnTable grants known user way table rights grantees) → IfOk result (DecidesOnTable grants known user way that same alike)
table_at grants known user way table that rights same grantees alike result zeroth one two is =
    subst (λ (names : List Name). IfOk result (DecidesOnTable grants known user way that same names)) two
    (subst (λ (list : List ObjectRight). IfOk result (DecidesOnTable grants known user way that list grantees)) one
    (subst (λ (t : TableName). IfOk result (DecidesOnTable grants known user way t rights grantees)) zeroth is))

statement_at : {E : Type 0} (grants : Grants) (known : Known) (user : Name) (statement same : GrantStatement) (result : Result Decided E)
    → statement ≡ same → IfOk result (Decides grants known user same) → IfOk result (Decides grants known user statement)
statement_at grants known user statement same result is decides = subst (λ (s : GrantStatement). IfOk result (Decides grants known user s)) (sym is) decides

pub returns-in-Grant : goal.returns-in-Grant
returns-in-Grant c = statement_at c.args.case.grants.now c.args.case.known.now c.args.case.user.now _ _ _ c.in-Grant.is
    (rights_at c.args.case.grants.now c.args.case.known.now c.args.case.user.now (Grant c.in-Grant.with_admin_option) _ _ _ _ _ c.as_slice.ensures c.as_slice-in-Grant.ensures c.decide_rights.ensures)

pub returns-in-Revoke : goal.returns-in-Revoke
returns-in-Revoke c = statement_at c.args.case.grants.now c.args.case.known.now c.args.case.user.now _ _ _ c.in-Revoke.is
    (rights_at c.args.case.grants.now c.args.case.known.now c.args.case.user.now Revoke _ _ _ _ _ c.as_slice-in-Revoke.ensures c.as_slice-in-Revoke-2.ensures c.decide_rights-in-Revoke.ensures)

pub returns-in_ok-table-in-GrantObject : goal.returns-in_ok-table-in-GrantObject
returns-in_ok-table-in-GrantObject c = statement_at c.args.case.grants.now c.args.case.known.now c.args.case.user.now _ _ _ c.in-GrantObject.is
    (table_at c.args.case.grants.now c.args.case.known.now c.args.case.user.now (Grant false) _ _ _ _ _ _ _ c.in_ok-table-in-GrantObject.ensures c.as_slice-in-GrantObject.ensures c.as_slice-in-GrantObject-2.ensures c.decide_on_table.ensures)

pub returns-in_ok-table-in-RevokeObject : goal.returns-in_ok-table-in-RevokeObject
returns-in_ok-table-in-RevokeObject c = statement_at c.args.case.grants.now c.args.case.known.now c.args.case.user.now _ _ _ c.in-RevokeObject.is
    (table_at c.args.case.grants.now c.args.case.known.now c.args.case.user.now Revoke _ _ _ _ _ _ _ c.in_ok-table-in-RevokeObject.ensures c.as_slice-in-RevokeObject.ensures c.as_slice-in-RevokeObject-2.ensures c.decide_on_table-in-RevokeObject.ensures)

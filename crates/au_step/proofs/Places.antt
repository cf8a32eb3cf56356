-- The records of an event can be written: its policies, its facts and its place have spellings.
use Rattle.std.proofs.Common.{ℕ, ◌≤◌, List, [], ◌∷◌, ◌++◌, map, arith}
use Rattle.std.specs.Prelude.{Option, Some, None}
use Rattle.std.specs.List.{AllByRecursion}
use Rattle.au_audit.specs.Statements.{Object, action_of, grant_action}
use Rattle.au_base.specs.Actions as actions
use Rattle.au_base.specs.Naming.{IsName}
use Rattle.au_base.specs.declared.grant.GrantStatement.{GrantStatement}
use Rattle.au_base.specs.declared.grant.GrantStatement.TheVariants as grants
use Rattle.au_entries.specs.declared.change.Change.{Change}
use Rattle.au_entries.specs.declared.kept.Kept.{Kept}
use Rattle.au_entries.specs.declared.policy.AuditPolicy.{AuditPolicy}
use Rattle.au_entries.specs.Imaging.{image_changes, object_change, policy_change, role_change, role_grant_change, row_change, system_change, table_change, user_change}
use Rattle.au_recording.specs.Writing.{ArePoliciesNamed, IsNamed, IsObjectNamed}
use Rattle.au_ruling.specs.Sound.{IsNamedObject, IsOwned}
use Rattle.rec_codec.specs.Changes.{IsChangeSpellable, policy}
use Rattle.rec_parts.specs.Parts.{name}
use Rattle.sql_ast.specs.declared.statement.Statement.{Statement}
use Rattle.sql_ast.specs.declared.statement.Statement.TheVariants.{Select, Count, Insert, Update, Delete, Commit, Rollback, CreateTable, DropTable, CreateUser, AlterUser, DropUser, CreateRole, DropRole, Grant, CreatePolicy, DropPolicy, Audit, Noaudit, Call}
use Rattle.au_step.specs.Lawful.{IsLawful}

-- ---- the policies

all_front : {X : Type 0} (P : X → Type 0) (xs ys : List X) → AllByRecursion P (xs ++ ys) → AllByRecursion P xs
all_front P [] ys all = tt
all_front P (x ∷ xs) ys all = (all.0, all_front P xs ys all.1)

all_behind : {X : Type 0} (P : X → Type 0) (xs ys : List X) → AllByRecursion P (xs ++ ys) → AllByRecursion P ys
all_behind P [] ys all = all
all_behind P (x ∷ xs) ys all = all_behind P xs ys all.1

behind : {X : Type 0} (f : X → Change) (xs : List X) (rest : List Change) → AllByRecursion IsChangeSpellable (map f xs ++ rest) → AllByRecursion IsChangeSpellable rest
behind f xs rest all = all_behind IsChangeSpellable (map f xs) rest all

-- the name of a policy that can be written
policy_name : (p : AuditPolicy) → IsChangeSpellable (policy_change p) → IsName p.name
unfolding policy name
policy_name p h = h.0.1

names_written : (policies : List AuditPolicy) (rest : List Change) → AllByRecursion IsChangeSpellable (map policy_change policies ++ rest) → AllByRecursion (λ (p : AuditPolicy). IsName p.name) policies
names_written [] rest all = tt
names_written (p ∷ policies) rest all = (policy_name p all.0, names_written policies rest all.1)

policies_written : (kept : Kept) → AllByRecursion IsChangeSpellable (image_changes kept) → AllByRecursion (λ (p : AuditPolicy). IsName p.name) kept.policies
policies_written kept all =
    let a = behind user_change kept.users _ all in
    let b = behind role_change kept.roles _ a in
    let c = behind system_change kept.grants.system _ b in
    let d = behind role_grant_change kept.grants.role _ c in
    let e = behind table_change kept.tables _ d in
    let f = behind row_change kept.rows _ e in
    let g = behind object_change kept.grants.object _ f in
    names_written kept.policies _ g

pub policies_named : (kept : Kept) → IsLawful kept → ArePoliciesNamed kept.policies
policies_named kept lawful = record {
  names = policies_written kept lawful.spelled.entries;
  order = lawful.lawful.ordered.policies;
  unreserved = lawful.lawful.ordered.unreserved;
  few = lawful.whole.few.policies;
}

-- ---- the facts

grant_some : (x : GrantStatement) → 1 ≤ actions.code_of (grant_action x)
grant_some (grants.Grant rights grantees admin) = omega arith
grant_some (grants.Revoke rights grantees) = omega arith
grant_some (grants.GrantObject rights table grantees) = omega arith
grant_some (grants.RevokeObject rights table grantees) = omega arith

-- the action of a statement is one that can be done
pub action_some : (x : Statement) → 1 ≤ actions.code_of (action_of x)
action_some (Select select) = omega arith
action_some (Count count) = omega arith
action_some (Insert insert) = omega arith
action_some (Update update) = omega arith
action_some (Delete delete) = omega arith
action_some Commit = omega arith
action_some Rollback = omega arith
action_some (CreateTable create) = omega arith
action_some (DropTable table) = omega arith
action_some (CreateUser user password) = omega arith
action_some (AlterUser user password) = omega arith
action_some (DropUser user) = omega arith
action_some (CreateRole role) = omega arith
action_some (DropRole role) = omega arith
action_some (Grant grant) = grant_some grant
action_some (CreatePolicy create) = omega arith
action_some (DropPolicy policy) = omega arith
action_some (Audit audit) = omega arith
action_some (Noaudit policy users) = omega arith
action_some (Call call) = omega arith

-- ---- the object

owner_named : (owner : Option (List ℕ)) → IsOwned owner → IsNamed owner
owner_named None h = tt
owner_named (Some owner) h = h

pub object_named : (object : Option Object) → IsNamedObject object → IsObjectNamed object
object_named None h = tt
object_named (Some object) h = (owner_named object.0 h.0, h.1)

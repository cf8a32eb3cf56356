-- What changes make of what is kept, part by part. Each list stays in the byte order of its names; an entry that is there is
-- replaced. With a user, a role and a table that is dropped goes what stands on it (SQL Language Reference, "DROP USER",
-- "DROP ROLE" and "DROP TABLE"; that audit policies keep the names of tables and roles that are dropped is this project's
-- profile).
use Rattle.std.specs.Prelude.{ℕ, Bool, ◌&&◌, ◌==◌, if◌then◌else◌, List, [], ◌∷◌, ◌++◌, filter, map, Option, Some, None}
use Rattle.std.specs.declared.cmp.Ordering.{Ordering}
use Rattle.std.specs.Ordering.{nat_cmp, is_gt, is_lt}
use Rattle.std.specs.Str.{bytes_eq}
use Rattle.std.specs.Cmp.Lexicographic.{slice_cmp}
use Rattle.au_base.specs.declared.cell.Cell.{Cell}
use Rattle.au_base.specs.declared.numbers.RowNo.{RowNo}
use Rattle.au_base.specs.declared.numbers.Stamp.{Stamp}
use Rattle.au_base.specs.declared.table.TableName.{TableName}
use Rattle.au_base.specs.Sameness.{same_table}
use Rattle.au_entries.specs.declared.change.Change.{Change}
use Rattle.au_entries.specs.declared.change.Change.TheVariants.{User, UserGone, Role, RoleGone, SysGrant, SysRevoke, RoleGrant, RoleRevoke, ObjGrant, ObjRevoke, Table, TableGone, Put, Gone, Policy, PolicyGone, Enable, Fga, FgaGone, Archive, Start}
use Rattle.au_entries.specs.declared.fine_grained.FgaPolicy.{FgaPolicy}
use Rattle.au_entries.specs.declared.kept.Kept.{Kept}
use Rattle.au_entries.specs.declared.policy.AuditPolicy.{AuditPolicy}
use Rattle.au_entries.specs.declared.policy.Condition.{Condition}
use Rattle.au_entries.specs.declared.policy.Enabled.{Enabled}
use Rattle.au_entries.specs.declared.policy.Enabled.TheVariants.{Off, By, Except}
use Rattle.au_entries.specs.declared.policy.Evaluate.{Evaluate}
use Rattle.au_entries.specs.declared.policy.Outcomes.{Outcomes}
use Rattle.au_entries.specs.declared.table.Table.{Table as AnyTable}
pub use Rattle.au_entries.specs.Enabling.{for_users, is_on}
use Rattle.au_grants.specs.declared.change.GrantChange.{GrantChange}
use Rattle.au_grants.specs.declared.change.GrantChange.TheVariants as grant
use Rattle.au_grants.specs.Changing.{applied_all, without}
use Rattle.au_grants.specs.Rights.{Grants}
use Rattle.sql_ast.specs.declared.expression.Expr.{Expr}

-- names in byte order
abbrev pub by_name : List ℕ → List ℕ → Ordering
by_name a b = slice_cmp nat_cmp a b

-- fields in byte order: the first field in which they differ decides
abbrev pub by_fields : List (List ℕ) → List (List ℕ) → Ordering
by_fields a b = slice_cmp (slice_cmp nat_cmp) a b

-- the fields that order tables: the owner and the name
abbrev pub table_fields : TableName → List (List ℕ)
table_fields table = table.owner ∷ table.name ∷ []

-- those of rows: the table's, and the row's number
abbrev pub row_fields : TableName → RowNo → List (List ℕ)
row_fields table row = table.owner ∷ table.name ∷ (row.0 ∷ []) ∷ []

-- those of fine-grained policies: the table's, and the policy's name
abbrev pub fga_fields : TableName → List ℕ → List (List ℕ)
fga_fields table policy = table.owner ∷ table.name ∷ policy ∷ []

-- the entry among those of a list that is in order: behind the lesser ones, before the greater ones, in place of an equal
-- one. The order says how another entry stands to it.
abbrev pub put_in_order : {X : Type 0} → (X → Ordering) → X → List X → List X
put_in_order order entry entries = filter (λ other. is_lt (order other)) entries ++ entry ∷ filter (λ other. is_gt (order other)) entries

-- users: one is added or gets a new verifier, or is dropped
abbrev pub users_after : Change → List (List ℕ × List ℕ) → List (List ℕ × List ℕ)
users_after (User name verifier) users = put_in_order (λ user. by_name user.0 name) (name, verifier) users
users_after (UserGone name) users = without (λ user. bytes_eq user.0 name) users
users_after _ users = users

-- roles: one is added, or dropped
abbrev pub roles_after : Change → List (List ℕ) → List (List ℕ)
roles_after (Role name) roles = put_in_order (λ other. by_name other name) name roles
roles_after (RoleGone name) roles = without (λ other. bytes_eq other name) roles
roles_after _ roles = roles

-- grants: what is granted and revoked, and what goes with a user, a role or a table
abbrev pub grant_changes : Change → List GrantChange
grant_changes (UserGone name) = grant.UserGone name ∷ []
grant_changes (RoleGone name) = grant.RoleGone name ∷ []
grant_changes (SysGrant grantee privilege admin) = grant.SystemGrant grantee privilege admin ∷ []
grant_changes (SysRevoke grantee privilege) = grant.SystemRevoke grantee privilege ∷ []
grant_changes (RoleGrant grantee role admin) = grant.RoleGrant grantee role admin ∷ []
grant_changes (RoleRevoke grantee role) = grant.RoleRevoke grantee role ∷ []
grant_changes (ObjGrant grantee table action) = grant.ObjectGrant grantee table action ∷ []
grant_changes (ObjRevoke grantee table action) = grant.ObjectRevoke grantee table action ∷ []
grant_changes (TableGone table) = grant.TableGone table ∷ []
grant_changes _ = []

abbrev pub grants_after : Change → Grants → Grants
grants_after change grants = applied_all (grant_changes change) grants

-- tables: one is added, or dropped
abbrev pub tables_after : Change → List AnyTable → List AnyTable
tables_after (Table name columns key) tables =
    put_in_order (λ other. by_fields (table_fields other.name) (table_fields name)) (record { name = name; columns = columns; key = key }) tables
tables_after (TableGone name) tables = without (λ other. same_table other.name name) tables
tables_after _ tables = tables

-- a row, with its table and its number
abbrev pub KeptRow : Type 0
KeptRow = TableName × RowNo × List Cell

-- the row has this table and this number
abbrev pub is_row : TableName → RowNo → KeptRow → Bool
is_row table number row = same_table row.0 table && row.1.0 == number.0

-- rows: one is added or gets new cells, or goes; with a table go all of its rows
abbrev pub rows_after : Change → List KeptRow → List KeptRow
rows_after (Put table number cells) rows =
    put_in_order (λ row. by_fields (row_fields row.0 row.1) (row_fields table number)) (table, number, cells) rows
rows_after (Gone table number) rows = without (is_row table number) rows
rows_after (TableGone table) rows = without (λ row. same_table row.0 table) rows
rows_after _ rows = rows

-- the condition with the tree that its text is read as
abbrev pub with_tree : (List ℕ → Expr) → Option (Evaluate × List ℕ) → Option (Evaluate × Condition)
with_tree tree None = None
with_tree tree (Some when) = Some (when.0, record { text = when.1; tree = tree when.1 })

-- audit policies: one is added or gets new parts, or is dropped. They keep the names of tables and roles that are dropped.
abbrev pub policies_after : (List ℕ → Expr) → Change → List AuditPolicy → List AuditPolicy
policies_after tree (Policy name privileges actions roles when) policies =
    put_in_order (λ policy. by_name policy.name name) (record { name = name; privileges = privileges; actions = actions; roles = roles; when = with_tree tree when }) policies
policies_after tree (PolicyGone name) policies = without (λ policy. bytes_eq policy.name name) policies
policies_after tree _ policies = policies

-- the enablements with this one of the policy. An enablement for nobody isn't listed.
abbrev pub with_enablement : List ℕ → Enabled → List (List ℕ × Enabled) → List (List ℕ × Enabled)
with_enablement policy enabled entries =
    if is_on enabled then put_in_order (λ entry. by_name entry.0 policy) (policy, enabled) entries
    else without (λ entry. bytes_eq entry.0 policy) entries

-- the enablement without the user. One for all users but some stays, where none is left for all of them.
abbrev pub without_user : List ℕ → Enabled → Enabled
without_user user Off = Off
without_user user (By users) = for_users (without (λ listed. bytes_eq listed.0 user) users)
without_user user (Except users outcomes) = Except (without (λ other. bytes_eq other user) users) outcomes

-- enablements: one is set or taken away; with a user go its places in them, and the enablements that then are for nobody
abbrev pub enabled_after : Change → List (List ℕ × Enabled) → List (List ℕ × Enabled)
enabled_after (Enable policy enabled) entries = with_enablement policy enabled entries
enabled_after (UserGone user) entries = filter (λ entry. is_on entry.1) (map (λ entry. (entry.0, without_user user entry.1)) entries)
enabled_after _ entries = entries

-- a fine-grained policy's condition with the tree that its text is read as
abbrev pub read_as : (List ℕ → Expr) → Option (List ℕ) → Option Condition
read_as tree None = None
read_as tree (Some text) = Some (record { text = text; tree = tree text })

-- the fine-grained policy has this table and this name
abbrev pub is_fga : TableName → List ℕ → FgaPolicy → Bool
is_fga table policy other = same_table other.name.table table && bytes_eq other.name.policy policy

-- fine-grained policies: one is added or gets new parts, or is dropped; with a table go all of its policies
abbrev pub fga_after : (List ℕ → Expr) → Change → List FgaPolicy → List FgaPolicy
fga_after tree (Fga table policy condition columns all types enabled) policies =
    put_in_order (λ other. by_fields (fga_fields other.name.table other.name.policy) (fga_fields table policy))
    (record { name = record { table = table; policy = policy }; condition = read_as tree condition; columns = columns; all = all; types = types; enabled = enabled }) policies
fga_after tree (FgaGone table policy) policies = without (is_fga table policy) policies
fga_after tree (TableGone table) policies = without (λ other. same_table other.name.table table) policies
fga_after tree _ policies = policies

-- the archive timestamp
abbrev pub archive_after : Change → Option Stamp → Option Stamp
archive_after (Archive stamp) archive = stamp
archive_after _ archive = archive

-- the number of the instance
abbrev pub instance_after : Change → ℕ → ℕ
instance_after (Start instance) before = instance
instance_after _ before = before

-- What is kept after the change. The argument says as which tree the text of a condition is read.
abbrev pub changed : (List ℕ → Expr) → Change → Kept → Kept
changed tree change kept = record {
  users = users_after change kept.users;
  roles = roles_after change kept.roles;
  grants = grants_after change kept.grants;
  tables = tables_after change kept.tables;
  rows = rows_after change kept.rows;
  policies = policies_after tree change kept.policies;
  enabled = enabled_after change kept.enabled;
  fga = fga_after tree change kept.fga;
  trail = kept.trail;
  archive = archive_after change kept.archive;
  last = kept.last;
  instance = instance_after change kept.instance;
}

-- what is kept after all changes, in their order
abbrev pub changed_all : (List ℕ → Expr) → List Change → Kept → Kept
changed_all tree [] kept = kept
changed_all tree (change ∷ changes) kept = changed_all tree changes (changed tree change kept)

-- What edits make of the catalogue: its lists stay in order, and the edits of changes make what the changes make.
use Rattle.std.proofs.Common.{◌≡◌, ◌∙◌, ℕ, Bool, true, false, not, if◌then◌else◌, List, [], ◌∷◌, ◌++◌, map, refl, sym, ap}
use Rattle.std.specs.Prelude.{IsTrue, Option, Some, None, option_to_list}
use Rattle.std.specs.List.{filter}
use Rattle.std.specs.Str.{bytes_eq}
use Rattle.std.specs.Ordering.{nat_cmp}
use Rattle.au_base.specs.Order.{fields_before, is_in_order, name_before}
use Rattle.au_base.specs.Sameness.{same_table}
use Rattle.au_entries.specs.declared.change.Change.{Change}
use Rattle.au_entries.specs.declared.change.Change.TheVariants as change
use Rattle.au_entries.specs.declared.fine_grained.FgaPolicy.{FgaPolicy}
use Rattle.au_entries.specs.declared.policy.AuditPolicy.{AuditPolicy}
use Rattle.au_entries.specs.declared.policy.Enabled.{Enabled}
use Rattle.au_entries.specs.declared.table.Table.{Table}
use Rattle.au_entries.specs.Changing.{by_fields, by_name, enabled_after, fga_fields, is_fga, is_on, put_in_order, table_fields, with_enablement, without_user}
use Rattle.au_grants.specs.Changing.{without}
use Rattle.au_catalog.specs.declared.catalog.Catalog.{Catalog}
use Rattle.au_catalog.specs.declared.edit.Edit.{Edit}
use Rattle.au_catalog.specs.declared.edit.Edit.TheVariants.{PutUser, DropUser, PutRole, DropRole, PutTable, DropTable, PutPolicy, DropPolicy, Enable, PutFga, DropFga, SetArchive}
use Rattle.au_catalog.specs.Settling.{catalog_after, catalog_after_all}
use Rattle.au_catalog.specs.Staging.{IsOrdered, edit_of, edited, edited_all, edits_of}
use Rattle.au_catalog.specs.descent.Keys.{fields_total, names_total}
use Rattle.au_catalog.proofs.Rising.{Rises, in_order, kept_rises, mapped_rises, put_rises, rises}
use Rattle.sql_ast.specs.declared.expression.Expr.{Expr}

-- ---- order

abbrev User : Type 0
User = List ℕ × List ℕ

abbrev Entry : Type 0
Entry = List ℕ × Enabled

kept_by_name : {X : Type 0} (key : X → List ℕ) (test : X → Bool) (xs : List X) → IsTrue (is_in_order name_before (map key xs)) → IsTrue (is_in_order name_before (map key (filter test xs)))
kept_by_name key test xs ordered = in_order by_name key _ (kept_rises by_name key test xs (rises by_name key xs ordered))

kept_by_fields : {X : Type 0} (key : X → List (List ℕ)) (test : X → Bool) (xs : List X) → IsTrue (is_in_order fields_before (map key xs)) → IsTrue (is_in_order fields_before (map key (filter test xs)))
kept_by_fields key test xs ordered = in_order by_fields key _ (kept_rises by_fields key test xs (rises by_fields key xs ordered))

put_by_name : {X : Type 0} (key : X → List ℕ) (entry : X) (xs : List X) → IsTrue (is_in_order name_before (map key xs)) → IsTrue (is_in_order name_before (map key (put_in_order (λ other. by_name (key other) (key entry)) entry xs)))
put_by_name key entry xs ordered = in_order by_name key _ (put_rises by_name names_total key entry xs (rises by_name key xs ordered))

put_by_fields : {X : Type 0} (key : X → List (List ℕ)) (entry : X) (xs : List X) → IsTrue (is_in_order fields_before (map key xs)) → IsTrue (is_in_order fields_before (map key (put_in_order (λ other. by_fields (key other) (key entry)) entry xs)))
put_by_fields key entry xs ordered = in_order by_fields key _ (put_rises by_fields fields_total key entry xs (rises by_fields key xs ordered))

pub roles_mapped : (roles : List (List ℕ)) → map (λ role. role) roles ≡ roles
roles_mapped [] = refl
roles_mapped (role ∷ roles) = ap (λ (rest : List (List ℕ)). role ∷ rest) (roles_mapped roles)

pub to_keys : (roles : List (List ℕ)) → IsTrue (is_in_order name_before roles) → IsTrue (is_in_order name_before (map (λ role. role) roles))
to_keys roles ordered = ap (is_in_order name_before) (roles_mapped roles) ∙ ordered

from_keys : (roles : List (List ℕ)) → IsTrue (is_in_order name_before (map (λ role. role) roles)) → IsTrue (is_in_order name_before roles)
from_keys roles ordered = ap (is_in_order name_before) (sym (roles_mapped roles)) ∙ ordered

set_ordered : (policy : List ℕ) (enabled : Enabled) (entries : List Entry) (on : Bool) → IsTrue (is_in_order name_before (map (λ (entry : Entry). entry.0) entries))
    → IsTrue (is_in_order name_before (map (λ (entry : Entry). entry.0) (if on then put_in_order (λ entry. by_name entry.0 policy) (policy, enabled) entries else without (λ entry. bytes_eq entry.0 policy) entries)))
set_ordered policy enabled entries true ordered = put_by_name (λ (entry : Entry). entry.0) (policy, enabled) entries ordered
set_ordered policy enabled entries false ordered = kept_by_name (λ (entry : Entry). entry.0) (λ entry. not (bytes_eq entry.0 policy)) entries ordered

taken_ordered : (user : List ℕ) (entries : List Entry) → IsTrue (is_in_order name_before (map (λ (entry : Entry). entry.0) entries))
    → IsTrue (is_in_order name_before (map (λ (entry : Entry). entry.0) (enabled_after (change.UserGone user) entries)))
taken_ordered user entries ordered =
    in_order by_name (λ (entry : Entry). entry.0) _
    (kept_rises by_name (λ (entry : Entry). entry.0) (λ entry. is_on entry.1) _
    (mapped_rises by_name (λ (entry : Entry). entry.0) (λ entry. (entry.0, without_user user entry.1)) (λ entry. refl) entries (rises by_name (λ (entry : Entry). entry.0) entries ordered)))

-- the lists of the catalogue stay in order
pub edited_ordered : (edit : Edit) (catalog : Catalog) → IsOrdered catalog → IsOrdered (edited edit catalog)
edited_ordered (PutUser name verifier) catalog o =
    record { users = put_by_name (λ (user : User). user.0) (name, verifier) catalog.users o.users; roles = o.roles; tables = o.tables; policies = o.policies; enabled = o.enabled; fga = o.fga }
edited_ordered (DropUser name) catalog o = record {
  users = kept_by_name (λ (user : User). user.0) (λ user. not (bytes_eq user.0 name)) catalog.users o.users;
  roles = o.roles;
  tables = o.tables;
  policies = o.policies;
  enabled = taken_ordered name catalog.enabled o.enabled;
  fga = o.fga;
}
edited_ordered (PutRole name) catalog o =
    record { users = o.users; roles = from_keys (put_in_order (λ other. by_name other name) name catalog.roles) (put_by_name (λ (role : List ℕ). role) name catalog.roles (to_keys catalog.roles o.roles)); tables = o.tables; policies = o.policies; enabled = o.enabled; fga = o.fga }
edited_ordered (DropRole name) catalog o =
    record { users = o.users; roles = from_keys (without (λ role. bytes_eq role name) catalog.roles) (kept_by_name (λ (role : List ℕ). role) (λ role. not (bytes_eq role name)) catalog.roles (to_keys catalog.roles o.roles)); tables = o.tables; policies = o.policies; enabled = o.enabled; fga = o.fga }
edited_ordered (PutTable table) catalog o =
    record { users = o.users; roles = o.roles; tables = put_by_fields (λ (other : Table). table_fields other.name) table catalog.tables o.tables; policies = o.policies; enabled = o.enabled; fga = o.fga }
edited_ordered (DropTable name) catalog o = record {
  users = o.users;
  roles = o.roles;
  tables = kept_by_fields (λ (other : Table). table_fields other.name) (λ other. not (same_table other.name name)) catalog.tables o.tables;
  policies = o.policies;
  enabled = o.enabled;
  fga = kept_by_fields (λ (other : FgaPolicy). fga_fields other.name.table other.name.policy) (λ other. not (same_table other.name.table name)) catalog.fga o.fga;
}
edited_ordered (PutPolicy policy) catalog o =
    record { users = o.users; roles = o.roles; tables = o.tables; policies = put_by_name (λ (other : AuditPolicy). other.name) policy catalog.policies o.policies; enabled = o.enabled; fga = o.fga }
edited_ordered (DropPolicy name) catalog o =
    record { users = o.users; roles = o.roles; tables = o.tables; policies = kept_by_name (λ (other : AuditPolicy). other.name) (λ other. not (bytes_eq other.name name)) catalog.policies o.policies; enabled = o.enabled; fga = o.fga }
edited_ordered (Enable policy enabled) catalog o =
    record { users = o.users; roles = o.roles; tables = o.tables; policies = o.policies; enabled = set_ordered policy enabled catalog.enabled (is_on enabled) o.enabled; fga = o.fga }
edited_ordered (PutFga policy) catalog o =
    record { users = o.users; roles = o.roles; tables = o.tables; policies = o.policies; enabled = o.enabled; fga = put_by_fields (λ (other : FgaPolicy). fga_fields other.name.table other.name.policy) policy catalog.fga o.fga }
edited_ordered (DropFga table policy) catalog o =
    record { users = o.users; roles = o.roles; tables = o.tables; policies = o.policies; enabled = o.enabled; fga = kept_by_fields (λ (other : FgaPolicy). fga_fields other.name.table other.name.policy) (λ other. not (is_fga table policy other)) catalog.fga o.fga }
edited_ordered (SetArchive stamp) catalog o = record { users = o.users; roles = o.roles; tables = o.tables; policies = o.policies; enabled = o.enabled; fga = o.fga }

-- ---- changes

-- the edit of a change makes what the change makes
one_makes : (tree : List ℕ → Expr) (c : Change) (catalog : Catalog) → edited_all (option_to_list (edit_of tree c)) catalog ≡ catalog_after tree c catalog
one_makes tree (change.User name verifier) catalog = refl
one_makes tree (change.UserGone name) catalog = refl
one_makes tree (change.Role name) catalog = refl
one_makes tree (change.RoleGone name) catalog = refl
one_makes tree (change.SysGrant grantee privilege admin) catalog = refl
one_makes tree (change.SysRevoke grantee privilege) catalog = refl
one_makes tree (change.RoleGrant grantee role admin) catalog = refl
one_makes tree (change.RoleRevoke grantee role) catalog = refl
one_makes tree (change.ObjGrant grantee table action) catalog = refl
one_makes tree (change.ObjRevoke grantee table action) catalog = refl
one_makes tree (change.Table name columns key) catalog = refl
one_makes tree (change.TableGone name) catalog = refl
one_makes tree (change.Put table number cells) catalog = refl
one_makes tree (change.Gone table number) catalog = refl
one_makes tree (change.Policy name privileges actions roles when) catalog = refl
one_makes tree (change.PolicyGone name) catalog = refl
one_makes tree (change.Enable policy enabled) catalog = refl
one_makes tree (change.Fga table policy condition columns all types enabled) catalog = refl
one_makes tree (change.FgaGone table policy) catalog = refl
one_makes tree (change.Archive stamp) catalog = refl
one_makes tree (change.Start instance) catalog = refl

edited_joined : (one two : List Edit) (catalog : Catalog) → edited_all (one ++ two) catalog ≡ edited_all two (edited_all one catalog)
edited_joined [] two catalog = refl
edited_joined (edit ∷ one) two catalog = edited_joined one two (edited edit catalog)

pub all_make : (tree : List ℕ → Expr) (changes : List Change) (catalog : Catalog) → edited_all (edits_of tree changes) catalog ≡ catalog_after_all tree changes catalog
all_make tree [] catalog = refl
all_make tree (c ∷ changes) catalog =
    edited_joined (option_to_list (edit_of tree c)) (edits_of tree changes) catalog
    ∙ ap (edited_all (edits_of tree changes)) (one_makes tree c catalog)
    ∙ all_make tree changes (catalog_after tree c catalog)

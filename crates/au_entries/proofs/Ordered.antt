-- Lists in order stay in order under each change that goes on, part by part.
use Rattle.std.proofs.Common.{◌≡◌, ◌≢◌, ◌∙◌, ℕ, Bool, true, false, not, if◌then◌else◌, List, [], ◌∷◌, map, refl, sym, ap}
use Rattle.std.specs.Prelude.{IsTrue}
use Rattle.std.specs.List.{AllByRecursion, filter}
use Rattle.std.specs.Ordering.{nat_cmp}
use Rattle.std.specs.Str.{bytes_eq}
use Rattle.std.specs.Cmp.{IsTotalOrder}
use Rattle.std.specs.Cmp.Lexicographic.{slice_cmp}
use Rattle.std.proofs.lemmas.Cmp.{lists_total, nat_cmp_total}
use Rattle.au_base.specs.BuiltIn.{ora_mandatory}
use Rattle.au_base.specs.Order.{fields_before, is_in_order, name_before}
use Rattle.au_base.specs.Sameness.{same_table}
use Rattle.au_entries.specs.declared.change.Change.{Change}
use Rattle.au_entries.specs.declared.change.Change.TheVariants.{User, UserGone, Role, RoleGone, SysGrant, SysRevoke, RoleGrant, RoleRevoke, ObjGrant, ObjRevoke, Table, TableGone, Put, Gone, Policy, PolicyGone, Enable, Fga, FgaGone, Archive, Start}
use Rattle.au_entries.specs.declared.fine_grained.FgaPolicy.{FgaPolicy}
use Rattle.au_entries.specs.declared.kept.Kept.{Kept}
use Rattle.au_entries.specs.declared.policy.AuditPolicy.{AuditPolicy}
use Rattle.au_entries.specs.declared.policy.Enabled.{Enabled}
use Rattle.au_entries.specs.declared.table.Table.{Table as AnyTable}
use Rattle.au_entries.specs.Changing.{KeptRow, by_fields, by_name, changed, changed_all, enabled_after, fga_after, fga_fields, grant_changes, grants_after, is_fga, is_on, is_row, policies_after, put_in_order, roles_after, row_fields, rows_after, table_fields, tables_after, users_after, with_enablement, without_user}
use Rattle.au_entries.specs.Lawful.{IsOrdered}
use Rattle.au_entries.specs.Replaying.{AllGoOn, Conditions, GoesOn}
use Rattle.au_entries.proofs.AllOf.{all_kept, all_put, passes}
use Rattle.au_entries.proofs.Rising.{Rises, in_order, kept_rises, mapped_rises, put_rises, rises}
use Rattle.au_grants.specs.declared.change.GrantChange.{GrantChange}
use Rattle.au_grants.specs.declared.grants.Grants.{Grants}
use Rattle.au_grants.specs.Changing.{applied, applied_all, without}
use Rattle.au_grants.specs.Order.{AreInOrder}
use Rattle.sql_ast.specs.declared.expression.Expr.{Expr}

pub names_total : IsTotalOrder by_name
names_total = lists_total nat_cmp_total

fields_total : IsTotalOrder by_fields
fields_total = lists_total (lists_total nat_cmp_total)

-- a list in order by names stays so where entries go
pub kept_by_name : {X : Type 0} (key : X → List ℕ) (test : X → Bool) (xs : List X) → IsTrue (is_in_order name_before (map key xs)) → IsTrue (is_in_order name_before (map key (filter test xs)))
kept_by_name key test xs ordered = in_order by_name key _ (kept_rises by_name key test xs (rises by_name key xs ordered))

-- and by fields
kept_by_fields : {X : Type 0} (key : X → List (List ℕ)) (test : X → Bool) (xs : List X) → IsTrue (is_in_order fields_before (map key xs)) → IsTrue (is_in_order fields_before (map key (filter test xs)))
kept_by_fields key test xs ordered = in_order by_fields key _ (kept_rises by_fields key test xs (rises by_fields key xs ordered))

pub users_ordered : (change : Change) (users : List (List ℕ × List ℕ)) → IsTrue (is_in_order name_before (map (λ user. user.0) users)) → IsTrue (is_in_order name_before (map (λ user. user.0) (users_after change users)))
users_ordered (User name verifier) users ordered =
    in_order by_name (λ (user : List ℕ × List ℕ). user.0) _ (put_rises by_name names_total (λ user. user.0) (name, verifier) users (rises by_name (λ (user : List ℕ × List ℕ). user.0) users ordered))
users_ordered (UserGone name) users ordered = kept_by_name (λ (user : List ℕ × List ℕ). user.0) (λ user. not (bytes_eq user.0 name)) users ordered
users_ordered _ users ordered = ordered

roles_mapped : (roles : List (List ℕ)) → map (λ role. role) roles ≡ roles
roles_mapped [] = refl
roles_mapped (role ∷ roles) = ap (λ (rest : List (List ℕ)). role ∷ rest) (roles_mapped roles)

pub roles_rise : (roles : List (List ℕ)) → IsTrue (is_in_order name_before roles) → Rises by_name (λ (role : List ℕ). role) roles
roles_rise roles ordered = rises by_name (λ (role : List ℕ). role) roles (ap (is_in_order name_before) (roles_mapped roles) ∙ ordered)

pub roles_back : (roles : List (List ℕ)) → Rises by_name (λ (role : List ℕ). role) roles → IsTrue (is_in_order name_before roles)
roles_back roles up = ap (is_in_order name_before) (sym (roles_mapped roles)) ∙ in_order by_name (λ (role : List ℕ). role) roles up

pub roles_ordered : (change : Change) (roles : List (List ℕ)) → IsTrue (is_in_order name_before roles) → IsTrue (is_in_order name_before (roles_after change roles))
roles_ordered (Role name) roles ordered = roles_back _ (put_rises by_name names_total (λ role. role) name roles (roles_rise roles ordered))
roles_ordered (RoleGone name) roles ordered = roles_back _ (kept_rises by_name (λ role. role) (λ role. not (bytes_eq role name)) roles (roles_rise roles ordered))
roles_ordered _ roles ordered = ordered

pub tables_ordered : (change : Change) (tables : List AnyTable) → IsTrue (is_in_order fields_before (map (λ table. table_fields table.name) tables))
    → IsTrue (is_in_order fields_before (map (λ table. table_fields table.name) (tables_after change tables)))
tables_ordered (Table name columns key) tables ordered =
    in_order by_fields (λ (table : AnyTable). table_fields table.name) _
    (put_rises by_fields fields_total (λ table. table_fields table.name) (record { name = name; columns = columns; key = key }) tables (rises by_fields (λ (table : AnyTable). table_fields table.name) tables ordered))
tables_ordered (TableGone name) tables ordered = kept_by_fields (λ (table : AnyTable). table_fields table.name) (λ table. not (same_table table.name name)) tables ordered
tables_ordered _ tables ordered = ordered

pub rows_ordered : (change : Change) (rows : List KeptRow) → IsTrue (is_in_order fields_before (map (λ row. row_fields row.0 row.1) rows))
    → IsTrue (is_in_order fields_before (map (λ row. row_fields row.0 row.1) (rows_after change rows)))
rows_ordered (Put table number cells) rows ordered =
    in_order by_fields (λ (row : KeptRow). row_fields row.0 row.1) _
    (put_rises by_fields fields_total (λ row. row_fields row.0 row.1) (table, number, cells) rows (rises by_fields (λ (row : KeptRow). row_fields row.0 row.1) rows ordered))
rows_ordered (Gone table number) rows ordered = kept_by_fields (λ (row : KeptRow). row_fields row.0 row.1) (λ row. not (is_row table number row)) rows ordered
rows_ordered (TableGone table) rows ordered = kept_by_fields (λ (row : KeptRow). row_fields row.0 row.1) (λ row. not (same_table row.0 table)) rows ordered
rows_ordered _ rows ordered = ordered

pub policies_ordered : (tree : List ℕ → Expr) (change : Change) (policies : List AuditPolicy) → IsTrue (is_in_order name_before (map (λ policy. policy.name) policies))
    → IsTrue (is_in_order name_before (map (λ policy. policy.name) (policies_after tree change policies)))
policies_ordered tree (Policy name privileges actions roles when) policies ordered =
    in_order by_name (λ (policy : AuditPolicy). policy.name) _
    (put_rises by_name names_total (λ policy. policy.name) _ policies (rises by_name (λ (policy : AuditPolicy). policy.name) policies ordered))
policies_ordered tree (PolicyGone name) policies ordered = kept_by_name (λ (policy : AuditPolicy). policy.name) (λ policy. not (bytes_eq policy.name name)) policies ordered
policies_ordered tree _ policies ordered = ordered

abbrev Entry : Type 0
Entry = List ℕ × Enabled

set_ordered : (policy : List ℕ) (enabled : Enabled) (entries : List Entry) (on : Bool) → IsTrue (is_in_order name_before (map (λ entry. entry.0) entries))
    → IsTrue (is_in_order name_before (map (λ (entry : Entry). entry.0) (if on then put_in_order (λ entry. by_name entry.0 policy) (policy, enabled) entries else without (λ entry. bytes_eq entry.0 policy) entries)))
set_ordered policy enabled entries true ordered =
    in_order by_name (λ (entry : Entry). entry.0) _ (put_rises by_name names_total (λ entry. entry.0) (policy, enabled) entries (rises by_name (λ (entry : Entry). entry.0) entries ordered))
set_ordered policy enabled entries false ordered = kept_by_name (λ (entry : Entry). entry.0) (λ entry. not (bytes_eq entry.0 policy)) entries ordered

pub enabled_ordered : (change : Change) (entries : List Entry) → IsTrue (is_in_order name_before (map (λ entry. entry.0) entries))
    → IsTrue (is_in_order name_before (map (λ entry. entry.0) (enabled_after change entries)))
enabled_ordered (Enable policy enabled) entries ordered = set_ordered policy enabled entries (is_on enabled) ordered
enabled_ordered (UserGone user) entries ordered =
    in_order by_name (λ (entry : Entry). entry.0) _
    (kept_rises by_name (λ (entry : Entry). entry.0) (λ entry. is_on entry.1) _
    (mapped_rises by_name (λ (entry : Entry). entry.0) (λ entry. (entry.0, without_user user entry.1)) (λ entry. refl) entries (rises by_name (λ (entry : Entry). entry.0) entries ordered)))
enabled_ordered _ entries ordered = ordered

set_on : (policy : List ℕ) (enabled : Enabled) (entries : List Entry) (on : Bool) → is_on enabled ≡ on → AllByRecursion (λ (entry : Entry). IsTrue (is_on entry.1)) entries
    → AllByRecursion (λ (entry : Entry). IsTrue (is_on entry.1)) (if on then put_in_order (λ entry. by_name entry.0 policy) (policy, enabled) entries else without (λ entry. bytes_eq entry.0 policy) entries)
set_on policy enabled entries true is all = all_put (λ (entry : Entry). IsTrue (is_on entry.1)) _ (policy, enabled) entries is all
set_on policy enabled entries false is all = all_kept (λ (entry : Entry). IsTrue (is_on entry.1)) _ entries all

pub all_on : (change : Change) (entries : List Entry) → AllByRecursion (λ (entry : Entry). IsTrue (is_on entry.1)) entries → AllByRecursion (λ (entry : Entry). IsTrue (is_on entry.1)) (enabled_after change entries)
all_on (Enable policy enabled) entries all = set_on policy enabled entries (is_on enabled) refl all
all_on (UserGone user) entries all = passes (λ (entry : Entry). is_on entry.1) (map (λ (entry : Entry). (entry.0, without_user user entry.1)) entries)
all_on _ entries all = all

pub fga_ordered : (tree : List ℕ → Expr) (change : Change) (policies : List FgaPolicy) → IsTrue (is_in_order fields_before (map (λ policy. fga_fields policy.name.table policy.name.policy) policies))
    → IsTrue (is_in_order fields_before (map (λ policy. fga_fields policy.name.table policy.name.policy) (fga_after tree change policies)))
fga_ordered tree (Fga table policy condition columns all types enabled) policies ordered =
    in_order by_fields (λ (other : FgaPolicy). fga_fields other.name.table other.name.policy) _
    (put_rises by_fields fields_total (λ other. fga_fields other.name.table other.name.policy) _ policies (rises by_fields (λ (other : FgaPolicy). fga_fields other.name.table other.name.policy) policies ordered))
fga_ordered tree (FgaGone table policy) policies ordered = kept_by_fields (λ (other : FgaPolicy). fga_fields other.name.table other.name.policy) (λ other. not (is_fga table policy other)) policies ordered
fga_ordered tree (TableGone table) policies ordered = kept_by_fields (λ (other : FgaPolicy). fga_fields other.name.table other.name.policy) (λ other. not (same_table other.name.table table)) policies ordered
fga_ordered tree _ policies ordered = ordered

pub all_unreserved : (conditions : Conditions) (image : Bool) (kept : Kept) (change : Change) → GoesOn conditions image kept change
    → AllByRecursion (λ (policy : AuditPolicy). policy.name ≢ ora_mandatory) kept.policies
    → AllByRecursion (λ (policy : AuditPolicy). policy.name ≢ ora_mandatory) (policies_after conditions.tree change kept.policies)
all_unreserved conditions image kept (Policy name privileges actions roles when) goes all = all_put (λ (policy : AuditPolicy). policy.name ≢ ora_mandatory) _ _ kept.policies goes.0 all
all_unreserved conditions image kept (PolicyGone name) goes all = all_kept (λ (policy : AuditPolicy). policy.name ≢ ora_mandatory) _ kept.policies all
all_unreserved conditions image kept _ goes all = all

-- grants in order stay so under any of their changes
pub grants_ordered : ((grants : Grants) (change : GrantChange) → AreInOrder grants → AreInOrder (applied change grants)) → (changes : List GrantChange) (grants : Grants)
    → AreInOrder grants → AreInOrder (applied_all changes grants)
grants_ordered keeps [] grants ordered = ordered
grants_ordered keeps (change ∷ changes) grants ordered = grants_ordered keeps changes (applied change grants) (keeps grants change ordered)

pub one_ordered : ((grants : Grants) (change : GrantChange) → AreInOrder grants → AreInOrder (applied change grants)) → (conditions : Conditions) (image : Bool) (kept : Kept) (change : Change)
    → IsOrdered kept → GoesOn conditions image kept change → IsOrdered (changed conditions.tree change kept)
one_ordered keeps conditions image kept change h goes = record {
  users = users_ordered change kept.users h.users;
  roles = roles_ordered change kept.roles h.roles;
  grants = grants_ordered keeps (grant_changes change) kept.grants h.grants;
  tables = tables_ordered change kept.tables h.tables;
  rows = rows_ordered change kept.rows h.rows;
  policies = policies_ordered conditions.tree change kept.policies h.policies;
  enabled = enabled_ordered change kept.enabled h.enabled;
  fga = fga_ordered conditions.tree change kept.fga h.fga;
  on = all_on change kept.enabled h.on;
  unreserved = all_unreserved conditions image kept change goes h.unreserved;
}

pub all_ordered : ((grants : Grants) (change : GrantChange) → AreInOrder grants → AreInOrder (applied change grants)) → (conditions : Conditions) (image : Bool) (kept : Kept) (changes : List Change)
    → IsOrdered kept → AllGoOn conditions image kept changes → IsOrdered (changed_all conditions.tree changes kept)
all_ordered keeps conditions image kept [] h goes = h
all_ordered keeps conditions image kept (change ∷ changes) h goes =
    all_ordered keeps conditions image (changed conditions.tree change kept) changes (one_ordered keeps conditions image kept change h goes.0) goes.1

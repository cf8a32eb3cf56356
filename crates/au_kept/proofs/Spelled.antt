-- What can be written of all that is kept can be written after each change that has a spelling, part by part.
use Rattle.std.proofs.Common.{◌≡◌, ℕ, Bool, true, false, not, if◌then◌else◌, List, [], ◌∷◌, ◌++◌, map, refl, sym, subst}
use Rattle.std.specs.Prelude.{Option, Some, None}
use Rattle.std.specs.List.{AllByRecursion, list_any}
use Rattle.std.specs.Str.{bytes_eq}
use Rattle.au_base.specs.Order.{placed}
use Rattle.au_base.specs.Sameness.{same_table}
use Rattle.au_base.specs.declared.numbers.Stamp.{Stamp}
use Rattle.au_entries.specs.declared.change.Change.{Change}
use Rattle.au_entries.specs.declared.change.Change.TheVariants.{User, UserGone, Role, RoleGone, SysGrant, SysRevoke, RoleGrant, RoleRevoke, ObjGrant, ObjRevoke, Table, TableGone, Put, Gone, Policy, PolicyGone, Enable, Fga, FgaGone, Archive, Start}
use Rattle.au_entries.specs.declared.fine_grained.FgaPolicy.{FgaPolicy}
use Rattle.au_entries.specs.declared.kept.Kept.{Kept}
use Rattle.au_entries.specs.declared.policy.AuditPolicy.{AuditPolicy}
use Rattle.au_entries.specs.declared.policy.Enabled.{Enabled}
use Rattle.au_entries.specs.declared.policy.Evaluate.{Evaluate}
use Rattle.au_entries.specs.declared.table.Table.{Table as AnyTable}
use Rattle.au_entries.specs.Changing.{KeptRow, archive_after, by_name, changed, changed_all, enabled_after, fga_after, grants_after, instance_after, is_fga, is_on, is_row, policies_after, put_in_order, read_as, roles_after, rows_after, tables_after, users_after, with_tree, without_user}
use Rattle.au_entries.specs.Imaging.{archive_changes, enablement_change, fga_change, image_changes, object_change, policy_change, role_change, role_grant_change, row_change, system_change, table_change, user_change, written_condition, written_text}
use Rattle.au_grants.specs.Changing.{names_role, names_table, object_to, role_to, system_to, without}
use Rattle.au_grants.specs.Holding.{grants_object, grants_privilege, grants_role}
use Rattle.au_grants.specs.Order.{object_before, role_before, system_before}
use Rattle.au_grants.specs.Rights.{Grants, ObjectEntry, RoleEntry, SystemEntry}
use Rattle.sql_ast.specs.declared.expression.Expr.{Expr}
use Rattle.rec_codec.specs.Changes.{IsChangeSpellable}
use Rattle.au_kept.proofs.Entries.{all_granted, any_role, any_system, without_left}
use Rattle.au_kept.proofs.Lists.{all_behind, all_front, all_joined, all_kept, all_made, all_mapped, all_placed, all_put, all_unmapped}

-- each entry of the list can be written
abbrev pub Each : {X : Type 0} → (X → Change) → List X → Type 0
Each change entries = AllByRecursion (λ entry. IsChangeSpellable (change entry)) entries

-- each entry of what is kept can be written, part by part
pub record Parts (kept : Kept) : Type 0 where
  pub users : Each user_change kept.users
  pub roles : Each role_change kept.roles
  pub system : Each system_change kept.grants.system
  pub role : Each role_grant_change kept.grants.role
  pub tables : Each table_change kept.tables
  pub rows : Each row_change kept.rows
  pub object : Each object_change kept.grants.object
  pub policies : Each policy_change kept.policies
  pub enabled : Each enablement_change kept.enabled
  pub fga : Each fga_change kept.fga
  pub archive : AllByRecursion IsChangeSpellable (archive_changes kept.archive)
  pub instance : IsChangeSpellable (Start kept.instance)

joined : {X : Type 0} (f : X → Change) (xs : List X) (rest : List Change) → Each f xs → AllByRecursion IsChangeSpellable rest → AllByRecursion IsChangeSpellable (map f xs ++ rest)
joined f xs rest each more = all_joined IsChangeSpellable (map f xs) rest (all_mapped IsChangeSpellable f xs each) more

front : {X : Type 0} (f : X → Change) (xs : List X) (rest : List Change) → AllByRecursion IsChangeSpellable (map f xs ++ rest) → Each f xs
front f xs rest all = all_unmapped IsChangeSpellable f xs (all_front IsChangeSpellable (map f xs) rest all)

behind : {X : Type 0} (f : X → Change) (xs : List X) (rest : List Change) → AllByRecursion IsChangeSpellable (map f xs ++ rest) → AllByRecursion IsChangeSpellable rest
behind f xs rest all = all_behind IsChangeSpellable (map f xs) rest all

-- all changes of the image can be written where each part's can
pub from_parts : (kept : Kept) → Parts kept → AllByRecursion IsChangeSpellable (image_changes kept)
from_parts kept p =
    joined user_change kept.users _ p.users
    (joined role_change kept.roles _ p.roles
    (joined system_change kept.grants.system _ p.system
    (joined role_grant_change kept.grants.role _ p.role
    (joined table_change kept.tables _ p.tables
    (joined row_change kept.rows _ p.rows
    (joined object_change kept.grants.object _ p.object
    (joined policy_change kept.policies _ p.policies
    (joined enablement_change kept.enabled _ p.enabled
    (joined fga_change kept.fga _ p.fga
    (all_joined IsChangeSpellable (archive_changes kept.archive) (Start kept.instance ∷ []) p.archive (p.instance, tt)))))))))))

-- and the other way round
pub to_parts : (kept : Kept) → AllByRecursion IsChangeSpellable (image_changes kept) → Parts kept
to_parts kept all =
    let a = behind user_change kept.users _ all in
    let b = behind role_change kept.roles _ a in
    let c = behind system_change kept.grants.system _ b in
    let d = behind role_grant_change kept.grants.role _ c in
    let e = behind table_change kept.tables _ d in
    let f = behind row_change kept.rows _ e in
    let g = behind object_change kept.grants.object _ f in
    let h = behind policy_change kept.policies _ g in
    let i = behind enablement_change kept.enabled _ h in
    let j = behind fga_change kept.fga _ i in
    record {
      users = front user_change kept.users _ all;
      roles = front role_change kept.roles _ a;
      system = front system_change kept.grants.system _ b;
      role = front role_grant_change kept.grants.role _ c;
      tables = front table_change kept.tables _ d;
      rows = front row_change kept.rows _ e;
      object = front object_change kept.grants.object _ f;
      policies = front policy_change kept.policies _ g;
      enabled = front enablement_change kept.enabled _ h;
      fga = front fga_change kept.fga _ i;
      archive = all_front IsChangeSpellable (archive_changes kept.archive) _ j;
      instance = (all_behind IsChangeSpellable (archive_changes kept.archive) (Start kept.instance ∷ []) j).0;
    }

-- ---- one change, part by part

kept_each : {X : Type 0} (f : X → Change) (test : X → Bool) (xs : List X) → Each f xs → Each f (without test xs)
kept_each f test xs each = all_kept (λ x. IsChangeSpellable (f x)) (λ x. not (test x)) xs each

users_spelled : (change : Change) (users : List (List ℕ × List ℕ)) → IsChangeSpellable change → Each user_change users → Each user_change (users_after change users)
users_spelled (User name verifier) users new each = all_put (λ user. IsChangeSpellable (user_change user)) _ (name, verifier) users new each
users_spelled (UserGone name) users new each = kept_each user_change (λ user. bytes_eq user.0 name) users each
users_spelled _ users new each = each

roles_spelled : (change : Change) (roles : List (List ℕ)) → IsChangeSpellable change → Each role_change roles → Each role_change (roles_after change roles)
roles_spelled (Role name) roles new each = all_put (λ role. IsChangeSpellable (role_change role)) _ name roles new each
roles_spelled (RoleGone name) roles new each = kept_each role_change (λ other. bytes_eq other name) roles each
roles_spelled _ roles new each = each

tables_spelled : (change : Change) (tables : List AnyTable) → IsChangeSpellable change → Each table_change tables → Each table_change (tables_after change tables)
tables_spelled (Table name columns key) tables new each =
    all_put (λ table. IsChangeSpellable (table_change table)) _ (record { name = name; columns = columns; key = key }) tables new each
tables_spelled (TableGone name) tables new each = kept_each table_change (λ other. same_table other.name name) tables each
tables_spelled _ tables new each = each

rows_spelled : (change : Change) (rows : List KeptRow) → IsChangeSpellable change → Each row_change rows → Each row_change (rows_after change rows)
rows_spelled (Put table number cells) rows new each = all_put (λ row. IsChangeSpellable (row_change row)) _ (table, number, cells) rows new each
rows_spelled (Gone table number) rows new each = kept_each row_change (is_row table number) rows each
rows_spelled (TableGone table) rows new each = kept_each row_change (λ row. same_table row.0 table) rows each
rows_spelled _ rows new each = each

-- a condition's text is written as it was read
text_back : (tree : List ℕ → Expr) (when : Option (Evaluate × List ℕ)) → written_condition (with_tree tree when) ≡ when
text_back tree None = refl
text_back tree (Some when) = refl

condition_back : (tree : List ℕ → Expr) (condition : Option (List ℕ)) → written_text (read_as tree condition) ≡ condition
condition_back tree None = refl
condition_back tree (Some text) = refl

policies_spelled : (tree : List ℕ → Expr) (change : Change) (policies : List AuditPolicy) → IsChangeSpellable change → Each policy_change policies → Each policy_change (policies_after tree change policies)
policies_spelled tree (Policy name privileges actions roles when) policies new each =
    all_put (λ policy. IsChangeSpellable (policy_change policy)) _ (record { name = name; privileges = privileges; actions = actions; roles = roles; when = with_tree tree when }) policies
    (subst (λ (w : Option (Evaluate × List ℕ)). IsChangeSpellable (Policy name privileges actions roles w)) (sym (text_back tree when)) new) each
policies_spelled tree (PolicyGone name) policies new each = kept_each policy_change (λ policy. bytes_eq policy.name name) policies each
policies_spelled tree _ policies new each = each

fga_spelled : (tree : List ℕ → Expr) (change : Change) (policies : List FgaPolicy) → IsChangeSpellable change → Each fga_change policies → Each fga_change (fga_after tree change policies)
fga_spelled tree (Fga table policy condition columns all types enabled) policies new each =
    all_put (λ other. IsChangeSpellable (fga_change other)) _
    (record { name = record { table = table; policy = policy }; condition = read_as tree condition; columns = columns; all = all; types = types; enabled = enabled }) policies
    (subst (λ (c : Option (List ℕ)). IsChangeSpellable (Fga table policy c columns all types enabled)) (sym (condition_back tree condition)) new) each
fga_spelled tree (FgaGone table policy) policies new each = kept_each fga_change (is_fga table policy) policies each
fga_spelled tree (TableGone table) policies new each = kept_each fga_change (λ other. same_table other.name.table table) policies each
fga_spelled tree _ policies new each = each

abbrev Entry : Type 0
Entry = List ℕ × Enabled

set_spelled : (policy : List ℕ) (enabled : Enabled) (entries : List Entry) (on : Bool) → IsChangeSpellable (Enable policy enabled) → Each enablement_change entries
    → Each enablement_change (if on then put_in_order (λ entry. by_name entry.0 policy) (policy, enabled) entries else without (λ entry. bytes_eq entry.0 policy) entries)
set_spelled policy enabled entries true new each = all_put (λ entry. IsChangeSpellable (enablement_change entry)) _ (policy, enabled) entries new each
set_spelled policy enabled entries false new each = kept_each enablement_change (λ entry. bytes_eq entry.0 policy) entries each

enabled_spelled : (change : Change) (entries : List Entry) → IsChangeSpellable change → Each enablement_change entries → Each enablement_change (enabled_after change entries)
enabled_spelled (Enable policy enabled) entries new each = set_spelled policy enabled entries (is_on enabled) new each
enabled_spelled (UserGone user) entries new each =
    all_kept (λ entry. IsChangeSpellable (enablement_change entry)) (λ entry. is_on entry.1) _
    (all_made (λ (entry : Entry). IsChangeSpellable (enablement_change entry)) (λ (entry : Entry). IsChangeSpellable (enablement_change entry)) (λ (entry : Entry). (entry.0, without_user user entry.1)) (without_left user) entries each)
enabled_spelled _ entries new each = each

archive_spelled : (change : Change) (archive : Option Stamp) → IsChangeSpellable change → AllByRecursion IsChangeSpellable (archive_changes archive) → AllByRecursion IsChangeSpellable (archive_changes (archive_after change archive))
archive_spelled (Archive None) archive new all = tt
archive_spelled (Archive (Some stamp)) archive new all = (new, tt)
archive_spelled _ archive new all = all

instance_spelled : (change : Change) (before : ℕ) → IsChangeSpellable change → IsChangeSpellable (Start before) → IsChangeSpellable (Start (instance_after change before))
instance_spelled (Start instance) before new old = new
instance_spelled _ before new old = old

system_spelled : (change : Change) (grants : Grants) → IsChangeSpellable change → Each system_change grants.system → Each system_change (grants_after change grants).system
system_spelled (UserGone name) grants new each = kept_each system_change (system_to name) grants.system each
system_spelled (RoleGone name) grants new each = kept_each system_change (system_to name) grants.system each
system_spelled (SysGrant grantee privilege admin) grants new each =
    all_granted (λ (grant : SystemEntry). IsChangeSpellable (system_change grant)) any_system system_before (grants_privilege grantee privilege) (grantee, privilege, admin) grants.system new each
system_spelled (SysRevoke grantee privilege) grants new each = kept_each system_change (grants_privilege grantee privilege) grants.system each
system_spelled _ grants new each = each

role_spelled : (change : Change) (grants : Grants) → IsChangeSpellable change → Each role_grant_change grants.role → Each role_grant_change (grants_after change grants).role
role_spelled (UserGone name) grants new each = kept_each role_grant_change (role_to name) grants.role each
role_spelled (RoleGone name) grants new each = kept_each role_grant_change (names_role name) grants.role each
role_spelled (RoleGrant grantee role admin) grants new each =
    all_granted (λ (grant : RoleEntry). IsChangeSpellable (role_grant_change grant)) any_role role_before (grants_role grantee role) (grantee, role, admin) grants.role new each
role_spelled (RoleRevoke grantee role) grants new each = kept_each role_grant_change (grants_role grantee role) grants.role each
role_spelled _ grants new each = each

object_at : (grant : ObjectEntry) (entries : List ObjectEntry) (b : Bool) → IsChangeSpellable (object_change grant) → Each object_change entries → Each object_change (if b then entries else placed object_before grant entries)
object_at grant entries true new each = each
object_at grant entries false new each = all_placed (λ (other : ObjectEntry). IsChangeSpellable (object_change other)) object_before grant entries new each

object_spelled : (change : Change) (grants : Grants) → IsChangeSpellable change → Each object_change grants.object → Each object_change (grants_after change grants).object
object_spelled (UserGone name) grants new each = kept_each object_change (object_to name) grants.object each
object_spelled (RoleGone name) grants new each = kept_each object_change (object_to name) grants.object each
object_spelled (ObjGrant grantee table action) grants new each = object_at (grantee, table, action) grants.object (list_any (grants_object grantee table action) grants.object) new each
object_spelled (ObjRevoke grantee table action) grants new each = kept_each object_change (grants_object grantee table action) grants.object each
object_spelled (TableGone table) grants new each = kept_each object_change (names_table table) grants.object each
object_spelled _ grants new each = each

-- ---- all of it

one_spelled : (tree : List ℕ → Expr) (change : Change) (kept : Kept) → IsChangeSpellable change → Parts kept → Parts (changed tree change kept)
one_spelled tree change kept new p = record {
  users = users_spelled change kept.users new p.users;
  roles = roles_spelled change kept.roles new p.roles;
  system = system_spelled change kept.grants new p.system;
  role = role_spelled change kept.grants new p.role;
  tables = tables_spelled change kept.tables new p.tables;
  rows = rows_spelled change kept.rows new p.rows;
  object = object_spelled change kept.grants new p.object;
  policies = policies_spelled tree change kept.policies new p.policies;
  enabled = enabled_spelled change kept.enabled new p.enabled;
  fga = fga_spelled tree change kept.fga new p.fga;
  archive = archive_spelled change kept.archive new p.archive;
  instance = instance_spelled change kept.instance new p.instance;
}

pub all_spelled : (tree : List ℕ → Expr) (changes : List Change) (kept : Kept) → AllByRecursion IsChangeSpellable changes → Parts kept → Parts (changed_all tree changes kept)
all_spelled tree [] kept each p = p
all_spelled tree (change ∷ changes) kept each p = all_spelled tree changes (changed tree change kept) each.1 (one_spelled tree change kept each.0 p)

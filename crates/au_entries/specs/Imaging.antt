-- The image of what is kept: all of it as changes of nothing (the order of the groups is this project's profile). Each group
-- stands in the order of its list, which is the byte order of its names.
use Rattle.std.specs.Prelude.{ℕ, Bool, List, [], ◌∷◌, ◌++◌, map, Option, Some, None}
use Rattle.au_base.specs.declared.action.Action.{Action}
use Rattle.au_base.specs.declared.numbers.Stamp.{Stamp}
use Rattle.au_base.specs.declared.privilege.Privilege.{Privilege}
use Rattle.au_base.specs.declared.table.TableName.{TableName}
use Rattle.au_entries.specs.declared.change.Change.{Change}
use Rattle.au_entries.specs.declared.change.Change.TheVariants.{User, Role, SysGrant, RoleGrant, Table, Put, ObjGrant, Policy, Enable, Fga, Archive, Start}
use Rattle.au_entries.specs.declared.fine_grained.FgaPolicy.{FgaPolicy}
use Rattle.au_entries.specs.declared.kept.Kept.{Kept}
use Rattle.au_entries.specs.declared.policy.AuditPolicy.{AuditPolicy}
use Rattle.au_entries.specs.declared.policy.Condition.{Condition}
use Rattle.au_entries.specs.declared.policy.Enabled.{Enabled}
use Rattle.au_entries.specs.declared.policy.Evaluate.{Evaluate}
use Rattle.au_entries.specs.declared.table.Table.{Table as AnyTable}
use Rattle.au_entries.specs.Changing.{KeptRow}
use Rattle.au_grants.specs.Rights.{ObjectEntry, RoleEntry, SystemEntry}

-- nothing is kept, and no instance has begun
abbrev pub nothing : Kept
nothing = record {
  users = [];
  roles = [];
  grants = record { system = []; role = []; object = [] };
  tables = [];
  rows = [];
  policies = [];
  enabled = [];
  fga = [];
  trail = [];
  archive = None;
  last = record { 0 = 0 };
  instance = 0;
}

-- ---- what is there, as the change that makes it so

abbrev pub user_change : List ℕ × List ℕ → Change
user_change user = User user.0 user.1

abbrev pub role_change : List ℕ → Change
role_change role = Role role

abbrev pub system_change : SystemEntry → Change
system_change grant = SysGrant grant.0 grant.1 grant.2

abbrev pub role_grant_change : RoleEntry → Change
role_grant_change grant = RoleGrant grant.0 grant.1 grant.2

abbrev pub table_change : AnyTable → Change
table_change table = Table table.name table.columns table.key

abbrev pub row_change : KeptRow → Change
row_change row = Put row.0 row.1 row.2

abbrev pub object_change : ObjectEntry → Change
object_change grant = ObjGrant grant.0 grant.1 grant.2

-- a condition is written as its text
abbrev pub written_condition : Option (Evaluate × Condition) → Option (Evaluate × List ℕ)
written_condition None = None
written_condition (Some when) = Some (when.0, when.1.text)

abbrev pub policy_change : AuditPolicy → Change
policy_change policy = Policy policy.name policy.privileges policy.actions policy.roles (written_condition policy.when)

abbrev pub enablement_change : List ℕ × Enabled → Change
enablement_change entry = Enable entry.0 entry.1

abbrev pub written_text : Option Condition → Option (List ℕ)
written_text None = None
written_text (Some condition) = Some condition.text

abbrev pub fga_change : FgaPolicy → Change
fga_change policy = Fga policy.name.table policy.name.policy (written_text policy.condition) policy.columns policy.all policy.types policy.enabled

-- the archive timestamp, where one is set
abbrev pub archive_changes : Option Stamp → List Change
archive_changes None = []
archive_changes (Some stamp) = Archive (Some stamp) ∷ []

-- All that is kept, as changes: the users, the roles, the grants of system privileges and of roles, the tables, the rows, the
-- object privileges, the audit policies, the enablements, the fine-grained policies, the archive timestamp, and the instance.
abbrev pub image_changes : Kept → List Change
image_changes kept =
    map user_change kept.users
    ++ (map role_change kept.roles
    ++ (map system_change kept.grants.system
    ++ (map role_grant_change kept.grants.role
    ++ (map table_change kept.tables
    ++ (map row_change kept.rows
    ++ (map object_change kept.grants.object
    ++ (map policy_change kept.policies
    ++ (map enablement_change kept.enabled
    ++ (map fga_change kept.fga
    ++ (archive_changes kept.archive
    ++ Start kept.instance ∷ []))))))))))

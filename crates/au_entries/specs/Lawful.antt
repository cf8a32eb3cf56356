-- What is so of all that is kept: after each change that goes on (`IsLawful`), and after each frame (`IsWhole`).
use Rattle.std.specs.Prelude.{◌≡◌, ◌≢◌, ◌≤◌, ◌<◌, ◌^◌, ℕ, false, ⊤, IsTrue, nat_abs, List, [], ◌∷◌, map, filter, length, get_or, Option, Some, None}
use Rattle.std.specs.List.{AllByRecursion, Contains, list_all}
use Rattle.au_base.specs.BuiltIn.{dual, ora_mandatory, trail}
use Rattle.au_base.specs.Limits.{CATALOG_OBJECTS, GRANTS, INSTANCES, LAST_MOMENT, TABLE_COLUMNS, TABLE_ROW_NUMBERS}
use Rattle.au_base.specs.Order.{fields_before, is_in_order, name_before}
use Rattle.au_base.specs.Sameness.{same_table}
use Rattle.au_base.specs.declared.cell.Cell.{Cell}
use Rattle.au_base.specs.declared.cell.Cell.TheVariants.{Null, Num, Text, Moment}
use Rattle.au_base.specs.declared.table.Column.{Column}
use Rattle.au_base.specs.declared.table.ColumnKind.TheVariants as kinds
use Rattle.au_base.specs.declared.table.TableName.{TableName}
use Rattle.au_entries.specs.declared.fine_grained.FgaPolicy.{FgaPolicy}
use Rattle.au_entries.specs.declared.kept.Kept.{Kept}
use Rattle.au_entries.specs.declared.policy.AuditPolicy.{AuditPolicy}
use Rattle.au_entries.specs.declared.policy.Condition.{Condition}
use Rattle.au_entries.specs.declared.policy.Evaluate.{Evaluate}
use Rattle.au_entries.specs.declared.table.Table.{Table}
use Rattle.au_entries.specs.Changing.{KeptRow, fga_fields, is_on, row_fields, table_fields}
use Rattle.au_entries.specs.Replaying.{Conditions, IsArchive, IsKeptTable, IsTable, has_grantee, has_policy, has_role, has_table, has_user, named_users}
use Rattle.au_grants.specs.Order.{AreInOrder}
use Rattle.au_grants.specs.Rights.{HasNoCircle, grant_count}

-- ---- order

-- Each list stands in the byte order of its names, so that nothing stands twice. No enablement is for nobody, and no policy
-- has the name of what is mandatory.
pub record IsOrdered (kept : Kept) : Type 0 where
  pub users : IsTrue (is_in_order name_before (map (λ user. user.0) kept.users))
  pub roles : IsTrue (is_in_order name_before kept.roles)
  pub grants : AreInOrder kept.grants
  pub tables : IsTrue (is_in_order fields_before (map (λ table. table_fields table.name) kept.tables))
  pub rows : IsTrue (is_in_order fields_before (map (λ row. row_fields row.0 row.1) kept.rows))
  pub policies : IsTrue (is_in_order name_before (map (λ policy. policy.name) kept.policies))
  pub enabled : IsTrue (is_in_order name_before (map (λ entry. entry.0) kept.enabled))
  pub fga : IsTrue (is_in_order fields_before (map (λ policy. fga_fields policy.name.table policy.name.policy) kept.fga))
  pub on : AllByRecursion (λ entry. IsTrue (is_on entry.1)) kept.enabled
  pub unreserved : AllByRecursion (λ policy. policy.name ≢ ora_mandatory) kept.policies

-- ---- what stands on something finds it

-- a table is no built-in one, its owner is a user, and its columns and its key are those of a table
abbrev pub IsTableFounded : Kept → Table → Type 0
IsTableFounded kept table = (table.name ≢ dual) × (table.name ≢ trail) × IsTrue (has_user kept table.name.owner) × IsTable table.columns table.key

-- a row's number is at least 1, and its table is there, with as many columns as the row has cells
abbrev pub IsRowFounded : Kept → KeptRow → Type 0
IsRowFounded kept row = (1 ≤ row.1.0) × ((table : Table) × IsKeptTable kept row.0 table × (length row.2 ≡ length table.columns))

-- Grantees are users or roles; roles and tables of grants are there, and no roles make a circle. Tables and rows are as
-- above. Enabled policies and the users that enablements name are there, and so is the table of each fine-grained policy.
-- Audit policies may name tables and roles that aren't there.
pub record IsFounded (kept : Kept) : Type 0 where
  pub system : AllByRecursion (λ grant. IsTrue (has_grantee kept grant.0)) kept.grants.system
  pub role : AllByRecursion (λ grant. IsTrue (has_grantee kept grant.0) × IsTrue (has_role kept grant.1)) kept.grants.role
  pub no_circle : HasNoCircle kept.grants.role
  pub object : AllByRecursion (λ grant. IsTrue (has_grantee kept grant.0) × IsTrue (has_table kept grant.1)) kept.grants.object
  pub tables : AllByRecursion (IsTableFounded kept) kept.tables
  pub rows : AllByRecursion (IsRowFounded kept) kept.rows
  pub enabled : AllByRecursion (λ entry. IsTrue (has_policy kept entry.0) × IsTrue (list_all (has_user kept) (named_users entry.1))) kept.enabled
  pub fga : AllByRecursion (λ policy. IsTrue (has_table kept policy.name.table)) kept.fga

-- ---- conditions

-- a condition can be read, and its tree is the one that its text is read as
abbrev pub IsCondition : Conditions → Condition → Type 0
IsCondition conditions condition = IsTrue (conditions.is_read condition.text) × (condition.tree ≡ conditions.tree condition.text)

-- the condition of an audit policy, where it has one, is a truth over no table
abbrev pub IsAuditTruth : Conditions → Option (Evaluate × Condition) → Type 0
IsAuditTruth conditions None = ⊤
IsAuditTruth conditions (Some when) = IsCondition conditions when.1 × IsTrue (conditions.is_truth None when.1.tree)

-- that of a fine-grained policy, where it has one, is a truth over each table of this name
abbrev pub IsFgaTruth : Conditions → Kept → TableName → Option Condition → Type 0
IsFgaTruth conditions kept name None = ⊤
IsFgaTruth conditions kept name (Some condition) =
    IsCondition conditions condition × ((table : Table) → IsKeptTable kept name table → IsTrue (conditions.is_truth (Some table) condition.tree))

-- all conditions of policies are so
pub record AreTruths (conditions : Conditions) (kept : Kept) : Type 0 where
  pub audit : AllByRecursion (λ policy. IsAuditTruth conditions policy.when) kept.policies
  pub fga : AllByRecursion (λ policy. IsFgaTruth conditions kept policy.name.table policy.condition) kept.fga

-- so of all that is kept after each change
pub record IsLawful (conditions : Conditions) (kept : Kept) : Type 0 where
  pub ordered : IsOrdered kept
  pub founded : IsFounded kept
  pub truths : AreTruths conditions kept
  pub last : kept.last.0 ≤ LAST_MOMENT
  pub archive : IsArchive kept.archive
  pub instance : kept.instance ≤ INSTANCES

-- ---- rows

-- NULL stands in no column that is NOT NULL; a number has no more digits than the column; a text has no more bytes, and is
-- never empty, since the empty text is NULL; a moment isn't over the last one. A cell is of its column's kind. (No frame
-- spells an empty text or a later moment in a cell.)
abbrev pub FitsColumn : Column → Cell → Type 0
FitsColumn column Null = column.not_null ≡ false
FitsColumn column (Num number) = (column.kind ≡ kinds.Number) × (nat_abs number < 10 ^ column.size)
FitsColumn column (Text text) = (column.kind ≡ kinds.Text) × (text ≢ []) × (length text ≤ column.size)
FitsColumn column (Moment moment) = (column.kind ≡ kinds.Moment) × (moment ≤ LAST_MOMENT)

-- each cell fits the column at its place
abbrev pub FitColumns : List Column → List Cell → Type 0
FitColumns [] [] = ⊤
FitColumns (column ∷ columns) (cell ∷ cells) = FitsColumn column cell × FitColumns columns cells
FitColumns _ _ = ⊥

-- the cells of the key's columns
abbrev pub key_of : List ℕ → List Cell → List Cell
key_of key cells = map (λ place. get_or cells place Null) key

-- each row fits the columns of its table
abbrev pub RowsFit : Kept → Type 0
RowsFit kept = (row : KeptRow) (table : Table) → Contains kept.rows row → IsKeptTable kept row.0 table → FitColumns table.columns row.2

-- two rows of a table that has a key have the same key only where they are one row
abbrev pub KeysDiffer : Kept → Type 0
KeysDiffer kept =
    (a b : KeptRow) (table : Table) → Contains kept.rows a → Contains kept.rows b → IsKeptTable kept a.0 table → b.0 ≡ a.0
    → table.key ≢ [] → key_of table.key a.2 ≡ key_of table.key b.2 → a.1 ≡ b.1

-- ---- limits

-- There are 10,000 users at most, and as many roles, tables, audit policies and fine-grained policies; 100,000 grants;
-- 64 columns and 1,000,000 rows of a table.
pub record IsWithinLimits (kept : Kept) : Type 0 where
  pub users : length kept.users ≤ CATALOG_OBJECTS
  pub roles : length kept.roles ≤ CATALOG_OBJECTS
  pub tables : length kept.tables ≤ CATALOG_OBJECTS
  pub policies : length kept.policies ≤ CATALOG_OBJECTS
  pub fga : length kept.fga ≤ CATALOG_OBJECTS
  pub grants : grant_count kept.grants ≤ GRANTS
  pub columns : AllByRecursion (λ table. length table.columns ≤ TABLE_COLUMNS) kept.tables
  pub rows : AllByRecursion (λ table. length (filter (λ row. same_table row.0 table.name) kept.rows) ≤ TABLE_ROW_NUMBERS) kept.tables

-- so of all that is kept after each frame
pub record IsWhole (kept : Kept) : Type 0 where
  pub fits : RowsFit kept
  pub keys : KeysDiffer kept
  pub few : IsWithinLimits kept

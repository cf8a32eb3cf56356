-- What is sound of a world.
use Rattle.std.specs.Prelude.{◌≡◌, ◌≤◌, ◌<◌, ⊤, IsTrue, List, [], ◌∷◌, length, map, Option, None, Some}
use Rattle.std.specs.List.{AllByRecursion, Contains}
use Rattle.au_base.specs.declared.cell.Cell.{Cell}
use Rattle.au_base.specs.declared.numbers.ClientNo.{ClientNo}
use Rattle.au_base.specs.declared.table.TableName.{TableName}
use Rattle.au_base.specs.Cells.{IsSoundCell}
use Rattle.au_base.specs.Limits.{LAST_MOMENT}
use Rattle.au_base.specs.Order.{fields_before, is_in_order}
use Rattle.au_catalog.specs.declared.catalog.Catalog.{Catalog}
use Rattle.au_entries.specs.declared.fine_grained.FgaPolicy.{FgaPolicy}
use Rattle.au_entries.specs.declared.policy.AuditPolicy.{AuditPolicy}
use Rattle.au_entries.specs.declared.policy.Condition.{Condition}
use Rattle.au_entries.specs.declared.policy.Evaluate.{Evaluate}
use Rattle.au_entries.specs.declared.table.Table.{Table}
use Rattle.au_entries.specs.declared.trail_record.Record.{Record}
use Rattle.au_entries.specs.Changing.{table_fields}
use Rattle.au_expr.specs.Resolving.{IsCondition}
use Rattle.au_expr.specs.Rows.{FitsColumns}
use Rattle.au_txn.specs.declared.change.RowChange.{RowChange}
use Rattle.au_query.specs.Combos.{IsSoundLine}
use Rattle.au_txn.specs.Desks.{Contents, contents_of, is_open, key_of, open_of}
use Rattle.au_txn.specs.Keys.{KeysDiffer}
use Rattle.au_txn.specs.Rows.{Row}
use Rattle.au_txn.specs.Transactions.{laid_over, view}
use Rattle.au_world.specs.declared.world.World.{World}

-- the condition of an audit policy, where it has one, is a truth over no table
abbrev pub IsAuditCondition : Option (Evaluate × Condition) → Type 0
IsAuditCondition None = ⊤
IsAuditCondition (Some when) = IsCondition [] when.1.tree

-- that of a fine-grained policy, where it has one, is a truth over the columns of the table, with its name or without
abbrev pub IsFgaCondition : Table → Option Condition → Type 0
IsFgaCondition table None = ⊤
IsFgaCondition table (Some condition) = IsCondition ((table.name.name, table.columns) ∷ []) condition.tree

-- the policy's table is there, and over each table of its name its condition is a truth
abbrev pub IsFgaLawful : List Table → FgaPolicy → Type 0
IsFgaLawful tables policy =
    ((table : Table) × Contains tables table × (table.name ≡ policy.name.table))
    × ((table : Table) → Contains tables table → table.name ≡ policy.name.table → IsFgaCondition table policy.condition)

-- each condition of the catalogue is a truth, in which no name means no column or several, and nothing is of a wrong kind
pub record IsLawful (catalog : Catalog) : Type 0 where
  pub audit : AllByRecursion (λ (policy : AuditPolicy). IsAuditCondition policy.when) catalog.policies
  pub fga : AllByRecursion (IsFgaLawful catalog.tables) catalog.fga

-- the tables stand in the byte order of their owners and names, so that no name stands twice
abbrev pub AreTablesInOrder : List Table → Type 0
AreTablesInOrder tables = IsTrue (is_in_order fields_before (map (λ (table : Table). table_fields table.name) tables))

-- the table is open in the desk with its key, whose places are among its columns
pub record IsOpenTable (desk : Contents) (table : Table) : Type 0 where
  pub there : IsTrue (is_open table.name desk.tables)
  pub key : key_of table.name desk.tables ≡ table.key
  pub within : AllByRecursion (λ place. place < length table.columns) table.key

-- a content has one cell for each column of its table, NULL or of the column's kind, and each is one that a row may have
abbrev pub FitsTable : List Table → TableName → List Cell → Type 0
FitsTable tables name cells =
    (table : Table) → Contains tables table → table.name ≡ name → FitsColumns table.columns cells × AllByRecursion IsSoundCell cells

abbrev pub FitsIfThere : List Table → TableName → Option (List Cell) → Type 0
FitsIfThere tables name None = ⊤
FitsIfThere tables name (Some cells) = FitsTable tables name cells

-- a record's session number has at most 18 digits, and its stamp isn't over the last moment
pub record IsSoundRecord (entry : Record) : Type 0 where
  pub session : entry.session.0 ≤ 999_999_999_999_999_999
  pub stamp : entry.stamp.0 ≤ LAST_MOMENT

-- The catalogue is lawful, and its tables stand in order. Each table of it is open in the desk with its key. Each content of a row, of a committed one and
-- of one that a client's change makes, fits its table. In what each client sees, keys differ. The records are sound.
pub record IsSoundWorld (world : World) : Type 0 where
  pub catalog : IsLawful world.catalog.now
  pub order : AreTablesInOrder world.catalog.now.tables
  pub tables : AllByRecursion (IsOpenTable world.desk.now) world.catalog.now.tables
  pub committed : (row : Row) → Contains world.desk.now.rows row → FitsTable world.catalog.now.tables row.table row.cells
  pub changed : (client : ClientNo) (change : RowChange) → Contains (open_of world.desk.now client) change
      → FitsIfThere world.catalog.now.tables change.table change.new
  pub keys : (client : ClientNo) (table : TableName)
      → KeysDiffer (key_of table world.desk.now.tables) table (laid_over world.desk.now.rows (open_of world.desk.now client))
  pub records : AllByRecursion IsSoundRecord world.records.now

-- Each row that the client sees of the table has cells that a row may have, and keys differ among them.
pub record IsSeenSoundly (desk : Contents) (client : ClientNo) (name : TableName) : Type 0 where
  pub cells : AllByRecursion IsSoundLine (map contents_of (view desk.rows (open_of desk client) name))
  pub keys : KeysDiffer (key_of name desk.tables) name (laid_over desk.rows (open_of desk client))

-- What a query of the client asks of a world: the tables of the catalogue stand in order, each is open in the desk with its
-- key, and the client sees each soundly. The records are sound.
pub record IsSoundFor (world : World) (client : ClientNo) : Type 0 where
  pub order : AreTablesInOrder world.catalog.now.tables
  pub tables : AllByRecursion (IsOpenTable world.desk.now) world.catalog.now.tables
  pub seen : AllByRecursion (λ (table : Table). IsSeenSoundly world.desk.now client table.name) world.catalog.now.tables
  pub records : AllByRecursion IsSoundRecord world.records.now

-- What the code holds midway. No promise of the crate rests on these.
use Rattle.std.specs.Prelude.{◌≡◌, ◌≢◌, ◌≤◌, ◌⊎◌, ℕ, IsTrue, List, [], ◌∷◌, ◌++◌, true, false, length, map, Some}
use Rattle.std.specs.Borrow.{Bor}
use Rattle.std.specs.List.{AllByRecursion, slice_get}
use Rattle.std.specs.List.Sorted.{IsPartitionPoint}
use Rattle.std.specs.Option.{option_to_list}
use Rattle.au_audit.specs.TrailRows.{moment_column, number_column, text_column}
use Rattle.au_base.specs.declared.table.Column.{Column}
use Rattle.au_base.specs.declared.table.ColumnKind.{ColumnKind}
use Rattle.au_base.specs.declared.table.ColumnKind.TheVariants as kinds
use Rattle.au_base.specs.declared.cell.Cell.{Cell}
use Rattle.au_base.specs.declared.numbers.ClientNo.{ClientNo}
use Rattle.au_base.specs.declared.numbers.RowNo.{RowNo}
use Rattle.au_base.specs.declared.table.TableName.{TableName}
use Rattle.au_base.specs.Naming.{IsNameLong}
use Rattle.au_base.specs.Cells.{IsSoundCell}
use Rattle.au_base.specs.Limits.{COMBINATIONS}
use Rattle.au_base.specs.Order.{fields_before}
use Rattle.au_entries.specs.declared.table.Table.{Table}
use Rattle.au_entries.specs.declared.trail_record.Record.{Record}
use Rattle.au_entries.specs.Changing.{table_fields}
use Rattle.au_world.specs.declared.from_table.FromTable.{FromTable}
use Rattle.au_world.specs.declared.world.World.{World}
use Rattle.au_world.specs.BuiltInTables.{kind_of, made_rows}
use Rattle.au_query.specs.declared.source.Source.{Source}
use Rattle.au_expr.specs.declared.placed.Placed.{Placed}
use Rattle.au_expr.specs.Resolving.{placed}
use Rattle.au_expr.specs.Sessions.{Session}
use Rattle.au_query.specs.Combos.{Line, rows_of}
use Rattle.au_query.specs.Counts.{condition_of}
use Rattle.au_query.specs.Fixed.{AreFixed, NeverOverflows}
use Rattle.au_query.specs.Queries.{conditions_of, items_of}
use Rattle.au_rows.specs.Held.{HasKey}
use Rattle.au_rows.specs.declared.table.Table.{Table as OpenTable}
use Rattle.au_txn.specs.Desks.{Contents, key_of, open_of}
use Rattle.au_txn.specs.Transactions.{IsUnder, IsUnderOther, laid_over}
use Rattle.au_world.specs.declared.built_in.TableKind.TheVariants.{Created}
use Rattle.au_world.specs.declared.looking.Asked.{Asked}
use Rattle.au_world.specs.declared.looking.AskedCount.{AskedCount}
use Rattle.au_world.specs.declared.looking.AskedWhere.{AskedWhere}
use Rattle.au_world.specs.Selecting.{Seen, seen_of}
use Rattle.au_world.specs.Sights.{Sight, is_there, rows_seen, sight_of}

-- the rows that stand for the table are made, and their cells are sound
pub record IsMade (records : List Record) (table : FromTable) : Type 0 where
  pub rows : table.made ≡ made_rows records (kind_of table.name)
  pub sound : AllByRecursion (AllByRecursion IsSoundCell) table.made

-- the table is there too
pub record IsFoundTable (world : World) (table : FromTable) : Type 0 where
  pub there : IsTrue (is_there world.catalog.now.tables table.name)
  pub made : IsMade world.records.now table

-- the table and the rows of a source
abbrev pub told_by : Source → Seen
told_by source = (source.table, rows_of source)

-- the sources have these tables, in their order, and what is seen of each
abbrev pub AreSourcesOf : Sight → List TableName → List Source → Type 0
AreSourcesOf sight tables sources = map told_by sources ≡ map (seen_of sight) tables

-- a column of the trail by its kind and its name
abbrev pub column_of : ColumnKind → List ℕ → Column
column_of kinds.Text name = text_column name
column_of kinds.Number name = number_column name
column_of kinds.Moment name = moment_column name

abbrev pub listed_of : Bor (List ℕ) × ColumnKind → Column
listed_of column = column_of column.1 column.0.now

abbrev pub IsLong : Bor (List ℕ) × ColumnKind → Type 0
IsLong column = IsNameLong column.0.now

-- the place behind the tables that come before this one
abbrev pub IsTablePlace : TableName → List Table → ℕ → Type 0
IsTablePlace name tables place =
    IsPartitionPoint (λ (table : Table). fields_before (table_fields table.name) (table_fields name) ≡ true) (λ (table : Table). fields_before (table_fields table.name) (table_fields name) ≡ false) tables place

-- ---- tables whose key is fixed

-- the tables of FROM as they are seen
abbrev pub whole_of : Sight → FromTable → Seen
whole_of sight table = seen_of sight table.name

abbrev pub wholes : Sight → List FromTable → List Seen
wholes sight tables = map (whole_of sight) tables

abbrev pub names_in : List FromTable → List TableName
names_in tables = map (λ (table : FromTable). table.name) tables

-- the conditions of the query that is asked, and all of its expressions
abbrev pub conditions_asked : Asked → List Placed
conditions_asked asked = conditions_of asked.ranges.now asked.select.now

abbrev pub expressions_asked : Asked → List Placed
expressions_asked asked = conditions_asked asked ++ items_of asked.ranges.now asked.select.now.items

-- the conditions fix these columns of the table at the place, at which alone it stands
pub record IsFixedAlone (session : Session) (conditions : List Placed) (names : List TableName) (place : ℕ) (name : TableName) (columns : List ℕ) (key : List Cell) : Type 0 where
  pub some_column : columns ≢ []
  pub fixed : AreFixed session conditions place columns key
  pub alone : (other : ℕ) → slice_get names other ≡ Some name → other ≡ place

-- the table is a created one, and these columns are its key
pub record IsKeyFixed (session : Session) (conditions : List Placed) (names : List TableName) (place : ℕ) (tables : List OpenTable) (name : TableName) (key : List Cell) : Type 0 where
  pub created : kind_of name ≡ Created
  pub alone : IsFixedAlone session conditions names place name (key_of name tables) key

-- the row that the client sees of the table under the key, or no row where there is none
abbrev pub AreUnder : Contents → ClientNo → TableName → List Cell → List Line → Type 0
AreUnder desk client name key rows =
    ((line : Line) × (rows ≡ line ∷ []) × IsUnder (key_of name desk.tables) key name (laid_over desk.rows (open_of desk client)) line)
    ⊎ ((rows ≡ []) × ((line : Line) → ¬ IsUnder (key_of name desk.tables) key name (laid_over desk.rows (open_of desk client)) line))

-- WHERE of the COUNT that is asked
abbrev pub condition_asked : AskedCount → List Placed
condition_asked asked = condition_of asked.range.now asked.count.now

-- the table of a COUNT may be looked up by the key
pub record IsCountKey (world : World) (asked : AskedCount) (key : List Cell) : Type 0 where
  pub few : length (rows_seen (sight_of world asked.client) asked.table.now.name) ≤ COMBINATIONS
  pub never : NeverOverflows asked.session.now (condition_asked asked)
  pub fixed : IsKeyFixed asked.session.now (condition_asked asked) (asked.table.now.name ∷ []) 0 world.desk.now.tables asked.table.now.name key

-- WHERE that is asked of one table
abbrev pub where_asked : AskedWhere → List Placed
where_asked asked = map (placed (asked.range.now ∷ [])) (option_to_list asked.condition.now)

-- the table of a WHERE may be looked up by the key
pub record IsWhereKey (world : World) (asked : AskedWhere) (key : List Cell) : Type 0 where
  pub never : NeverOverflows asked.session.now (where_asked asked)
  pub fixed : IsKeyFixed asked.session.now (where_asked asked) (asked.table.now ∷ []) 0 world.desk.now.tables asked.table.now key

-- no other row that the client sees of the table has the key of this one
abbrev pub IsAloneUnder : Contents → ClientNo → TableName → Line → Type 0
IsAloneUnder desk client name line =
    (key : List Cell) (other : RowNo) → HasKey (key_of name desk.tables) key (Some line.1)
    → ¬ IsUnderOther (key_of name desk.tables) key name (laid_over desk.rows (open_of desk client)) line.0 other

-- What a statement of a client sees of the world (Database Concepts, "Data Concurrency and Consistency"; the tables of
-- SYS and AUDSYS that no catalogue has are this project's profile).
use Rattle.std.specs.Prelude.{Bool, true, List, [], map, Option, None, Some}
use Rattle.std.specs.List.{find, list_any}
use Rattle.au_audit.specs.TrailRows.{trail_columns}
use Rattle.au_base.specs.declared.numbers.ClientNo.{ClientNo}
use Rattle.au_base.specs.declared.table.Column.{Column}
use Rattle.au_base.specs.declared.table.TableName.{TableName}
use Rattle.au_base.specs.Sameness.{same_table}
use Rattle.au_catalog.specs.declared.catalog.Catalog.{Catalog}
use Rattle.au_entries.specs.declared.table.Table.{Table}
use Rattle.au_entries.specs.declared.trail_record.Record.{Record}
use Rattle.au_grants.specs.declared.grants.Grants.{Grants}
use Rattle.au_query.specs.Combos.{Line}
use Rattle.au_txn.specs.declared.change.RowChange.{RowChange}
use Rattle.au_txn.specs.Desks.{contents_of, open_of}
use Rattle.au_txn.specs.Rows.{Row}
use Rattle.au_txn.specs.Transactions.{view}
use Rattle.au_world.specs.declared.built_in.TableKind.{TableKind}
use Rattle.au_world.specs.declared.built_in.TableKind.TheVariants.{Dual, Trail, Created}
use Rattle.au_world.specs.declared.world.World.{World}
use Rattle.au_world.specs.BuiltInTables.{dual_columns, kind_of, made_rows, numbered}

-- the catalogue and the grants; the committed rows, the changes of the statement's own client and those of each client;
-- and the records of the trail, oldest first
pub record Sight : Type 0 where
  pub catalog : Catalog
  pub grants : Grants
  pub rows : List Row
  pub own : List RowChange
  pub transactions : ClientNo → List RowChange
  pub trail : List Record

-- what a statement of the client sees of the world
abbrev pub sight_of : World → ClientNo → Sight
sight_of world client = record {
  catalog = world.catalog.now;
  grants = world.grants.now;
  rows = world.desk.now.rows;
  own = open_of world.desk.now client;
  transactions = open_of world.desk.now;
  trail = world.records.now;
}

-- the first table of the catalogue with this name, where there is one
abbrev pub table_named : List Table → TableName → Option Table
table_named tables name = find (λ (table : Table). same_table table.name name) tables

-- the catalogue has a table with this name
abbrev pub has_table : List Table → TableName → Bool
has_table tables name = list_any (λ (table : Table). same_table table.name name) tables

abbrev pub is_there_by : List Table → TableName → TableKind → Bool
is_there_by tables name Dual = true
is_there_by tables name Trail = true
is_there_by tables name Created = has_table tables name

-- the table is a built-in one, or the catalogue has it
abbrev pub is_there : List Table → TableName → Bool
is_there tables name = is_there_by tables name (kind_of name)

abbrev pub columns_in : Option Table → List Column
columns_in None = []
columns_in (Some table) = table.columns

abbrev pub columns_by : List Table → TableName → TableKind → List Column
columns_by tables name Dual = dual_columns
columns_by tables name Trail = trail_columns
columns_by tables name Created = columns_in (table_named tables name)

-- the columns of the table
abbrev pub columns_of : List Table → TableName → List Column
columns_of tables name = columns_by tables name (kind_of name)

abbrev pub rows_by : Sight → TableName → TableKind → List Line
rows_by sight name Dual = numbered (made_rows sight.trail Dual)
rows_by sight name Trail = numbered (made_rows sight.trail Trail)
rows_by sight name Created = map contents_of (view sight.rows sight.own name)

-- the rows of the table that the statement sees, by their numbers: of a created one the committed rows with the client's
-- own changes laid over them
abbrev pub rows_seen : Sight → TableName → List Line
rows_seen sight name = rows_by sight name (kind_of name)

-- How tables are opened and closed for rows, one edit after another.
use Rattle.std.specs.Prelude.{◌≡◌, ◌==◌, ⊤, false, IsTrue, List, [], ◌∷◌, Option, None, Some, not, if◌then◌else◌}
use Rattle.std.specs.List.{filter}
use Rattle.au_base.specs.declared.numbers.ClientNo.{ClientNo}
use Rattle.au_base.specs.Order.{placed}
use Rattle.au_kept.specs.declared.staged.TableEdit.{TableEdit}
use Rattle.au_kept.specs.declared.staged.TableEdit.TheVariants.{Open, Close}
use Rattle.au_rows.specs.declared.table.Table.{Table}
use Rattle.au_txn.specs.declared.change.RowChange.{RowChange}
use Rattle.au_txn.specs.Desks.{Contents, has_name, is_open, open_of, table_before}
use Rattle.au_txn.specs.Rows.{Row, is_in}
use Rattle.au_txn.specs.Transactions.{laid_over, names_table}

-- the open tables after the edit
abbrev pub tables_edited : TableEdit → List Table → List Table
tables_edited (Open name key) tables = placed table_before (record { name = name; key = key }) tables
tables_edited (Close name) tables = filter (λ other. not (has_name name other)) tables

-- the rows after the edit
abbrev pub rows_edited : TableEdit → List Row → List Row
rows_edited (Open name key) rows = rows
rows_edited (Close name) rows = filter (λ row. not (is_in name row)) rows

-- the edit may be made: a table that is opened is new, and one that is closed is open and no client has a change in it
abbrev pub MayEdit : (ClientNo → List RowChange) → TableEdit → List Table → Type 0
MayEdit transactions (Open name key) tables = is_open name tables ≡ false
MayEdit transactions (Close name) tables = IsTrue (is_open name tables) × ((client : ClientNo) → names_table name (transactions client) ≡ false)

-- after all edits, in their order
abbrev pub tables_edited_all : List TableEdit → List Table → List Table
tables_edited_all [] tables = tables
tables_edited_all (edit ∷ edits) tables = tables_edited_all edits (tables_edited edit tables)

abbrev pub rows_edited_all : List TableEdit → List Row → List Row
rows_edited_all [] rows = rows
rows_edited_all (edit ∷ edits) rows = rows_edited_all edits (rows_edited edit rows)

-- the edits may be made one after another
abbrev pub CanEdit : (ClientNo → List RowChange) → List TableEdit → List Table → Type 0
CanEdit transactions [] tables = ⊤
CanEdit transactions (edit ∷ edits) tables = MayEdit transactions edit tables × CanEdit transactions edits (tables_edited edit tables)

-- the committed rows once the client's changes are committed, where one commits
abbrev pub rows_for : Option ClientNo → Contents → List Row
rows_for None desk = desk.rows
rows_for (Some client) desk = laid_over desk.rows (open_of desk client)

-- each client's changes that are open then
abbrev pub left_open : Option ClientNo → Contents → ClientNo → List RowChange
left_open None desk client = open_of desk client
left_open (Some committed) desk client = if client.0 == committed.0 then [] else open_of desk client

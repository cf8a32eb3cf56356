-- What a query answers, which rows take part in it, and which columns it names (SQL Language Reference, "SELECT";
-- PL/SQL Packages and Types Reference, "DBMS_FGA", of the rows and columns that are asked for).
use Rattle.std.specs.Prelude.{◌≡◌, ℕ, ◌==◌, Bool, false, not, List, [], ◌++◌, map, take, length, filter, Option, None, Some}
use Rattle.std.specs.List.{enumerate_from, list_any, slice_get}
use Rattle.au_base.specs.declared.code.Code.{Code}
use Rattle.au_base.specs.declared.numbers.RowNo.{RowNo}
use Rattle.au_base.specs.declared.reply.Reply.{Reply}
use Rattle.au_base.specs.declared.table.Column.{Column}
use Rattle.au_base.specs.declared.table.TableName.{TableName}
use Rattle.au_base.specs.Codes.{DONE}
use Rattle.au_base.specs.Sameness.{same_table}
use Rattle.sql_ast.specs.declared.query.Select.{Select}
use Rattle.au_expr.specs.declared.placed.Place.{Place}
use Rattle.au_expr.specs.declared.placed.Placed.{Placed}
use Rattle.au_expr.specs.declared.placed.Placed.TheVariants as tree
use Rattle.au_expr.specs.Ranges.{names_column}
use Rattle.au_expr.specs.Rows.{Range}
use Rattle.au_expr.specs.Sessions.{Session}
use Rattle.au_query.specs.declared.selected.Selected.{Selected}
use Rattle.au_query.specs.declared.source.Source.{Source}
use Rattle.au_query.specs.Combos.{Line, cells_at, combos, rows_of, views}
use Rattle.au_query.specs.Ordering.{IsOrdered}
use Rattle.au_query.specs.Queries.{Query, column_names, query_of}
use Rattle.au_query.specs.Refusals.{select_refusal}

-- the place and the table at it, where the table stands at no earlier place of FROM
abbrev pub is_first : List Source → ℕ × Source → Bool
is_first sources p = not (list_any (λ (earlier : Source). same_table earlier.table p.1.table) (take p.0 sources))

-- each table of FROM once, at its first place there
abbrev pub tables_of : List Source → List (ℕ × Source)
tables_of sources = filter (is_first sources) (enumerate_from 0 sources)

-- all places of FROM at which the table stands, under whatever alias
abbrev pub places_of : TableName → List Source → List ℕ
places_of table sources = map (λ (p : ℕ × Source). p.0) (filter (λ (p : ℕ × Source). same_table p.1.table table) (enumerate_from 0 sources))

abbrev pub has_number : RowNo → Option Line → Bool
has_number number None = false
has_number number (Some line) = line.0.0 == number.0

-- the row of this number stands in the combination, at one of the places
abbrev pub stands_in : List ℕ → RowNo → List Line → Bool
stands_in places number combo = list_any (λ place. has_number number (slice_get combo place)) places

-- it stands in one of the combinations
abbrev pub takes_part : List (List Line) → List ℕ → Line → Bool
takes_part combos places line = list_any (stands_in places line.0) combos

-- the table, and the numbers of its rows that stand in some combination
abbrev pub touched_in : List (List Line) → List Source → ℕ × Source → TableName × List RowNo
touched_in combos sources p = (p.1.table, map (λ (line : Line). line.0) (filter (takes_part combos (places_of p.1.table sources)) (rows_of p.1)))

-- of each table of FROM, the rows that take part in a combination that passes
abbrev pub touched_by : List (List Line) → List Source → List (TableName × List RowNo)
touched_by combos sources = map (touched_in combos sources) (tables_of sources)

abbrev pub column_tree : Place → Placed
column_tree place = tree.Column place

-- all that a query names: conditions, items and the keys of its order
abbrev pub trees_of : Query → List Placed
trees_of query = query.conditions ++ (query.items ++ map (λ (key : Place × Bool). column_tree key.0) query.order)

-- one of the expressions names the column, at one of the places
abbrev pub is_named : List Placed → List ℕ → ℕ × Column → Bool
is_named trees places p = list_any (λ place. list_any (names_column place p.0) trees) places

abbrev pub columns_at : Option Range → List Column
columns_at None = []
columns_at (Some range) = range.1

-- the table, and those of its columns that are named, in their order
abbrev pub named_in : List Placed → List Range → List Source → ℕ × Source → TableName × List (List ℕ)
named_in trees ranges sources p =
    (p.1.table, map (λ (column : ℕ × Column). column.1.name) (filter (is_named trees (places_of p.1.table sources)) (enumerate_from 0 (columns_at (slice_get ranges p.0)))))

-- of each table of FROM, the columns that the query names in any place
abbrev pub named_by : List Placed → List Range → List Source → List (TableName × List (List ℕ))
named_by trees ranges sources = map (named_in trees ranges sources) (tables_of sources)

-- the reply of a query that is done, over which these combinations pass: its columns, and the items of each, in order
pub record IsReply (session : Session) (ranges : List Range) (passing : List (List Line)) (select : Select) (reply : Reply) : Type 0 where
  pub code : reply.code ≡ DONE
  pub columns : reply.columns ≡ column_names ranges select.items
  pub count : reply.count ≡ length passing
  pub rows : (ordered : List (List Line))
      × IsOrdered (query_of ranges select).order passing ordered
      × (reply.rows ≡ map (cells_at session (query_of ranges select).items) ordered)

-- the combinations of the rows of FROM over which each condition is Yes, in order
abbrev pub passing : Session → List Range → List Source → Select → List (List Line)
passing session ranges sources select = combos session (query_of ranges select).conditions (views sources)

-- what comes of a query that is done
pub record IsDone (session : Session) (ranges : List Range) (sources : List Source) (select : Select) (selected : Selected) : Type 0 where
  pub code : selected.code ≡ DONE
  pub reply : IsReply session ranges (passing session ranges sources select) select selected.reply
  pub touched : selected.touched ≡ touched_by (passing session ranges sources select) sources
  pub named : selected.named ≡ named_by (trees_of (query_of ranges select)) ranges sources

-- what comes of a query that is refused: the code, and nothing else
abbrev pub refused : Code → Selected
refused code = record {
  code = code;
  reply = record { code = code; columns = []; count = 0; rows = [] };
  touched = [];
  named = [];
}

-- what comes of a query, by its refusal if there is one
abbrev pub Comes : Option Code → (Selected → Type 0) → Selected → Type 0
Comes None Done selected = Done selected
Comes (Some code) Done selected = selected ≡ refused code

-- what a SELECT gives over the tables of FROM
abbrev pub IsSelected : Session → List Range → List Source → Select → Selected → Type 0
IsSelected session ranges sources select selected =
    Comes (select_refusal session ranges (views sources) select) (IsDone session ranges sources select) selected

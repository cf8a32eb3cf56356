-- What a query answers over what its client sees (SQL Language Reference, "SELECT").
use Rattle.std.specs.Prelude.{◌≡◌, ⊤, ℕ, Bool, not, IsTrue, List, [], ◌∷◌, map, take, length, filter}
use Rattle.std.specs.List.{AllByRecursion, enumerate_from, list_any, slice_get}
use Rattle.au_audit.specs.Statements.{tables_of}
use Rattle.au_base.specs.declared.numbers.RowNo.{RowNo}
use Rattle.au_base.specs.declared.table.Column.{Column}
use Rattle.au_base.specs.declared.table.TableName.{TableName}
use Rattle.au_base.specs.BuiltIn.{resolved_table}
use Rattle.au_base.specs.Codes.{DONE}
use Rattle.au_base.specs.Sameness.{same_table}
use Rattle.au_expr.specs.declared.placed.Placed.{Placed}
use Rattle.au_expr.specs.Rows.{Range}
use Rattle.au_expr.specs.Sessions.{Session}
use Rattle.au_query.specs.declared.selected.Selected.{Selected}
use Rattle.au_query.specs.Answers.{Comes, IsReply, columns_at, is_named, takes_part, trees_of}
use Rattle.au_query.specs.Combos.{Line, combos}
use Rattle.au_query.specs.Counts.{condition_of, count_refusal, numbers_of, passing_rows, tally_reply}
use Rattle.au_query.specs.Queries.{name_or, query_of}
use Rattle.au_query.specs.Refusals.{select_refusal}
use Rattle.sql_ast.specs.declared.query.AliasedTable.{AliasedTable}
use Rattle.sql_ast.specs.declared.query.FromClause.{FromClause}
use Rattle.sql_ast.specs.declared.query.Join.{Join}
use Rattle.sql_ast.specs.declared.query.Count.{Count as CountOf}
use Rattle.sql_ast.specs.declared.query.Select.{Select as SelectOf}
use Rattle.sql_ast.specs.declared.statement.Statement.{Statement}
use Rattle.sql_ast.specs.declared.statement.Statement.TheVariants.{Count, Select}
use Rattle.au_entries.specs.declared.table.Table.{Table}
use Rattle.au_world.specs.Sights.{Sight, columns_of, is_there, rows_seen}

-- the tables of FROM with their aliases, the first first
abbrev pub joined_tables : List Join → List AliasedTable
joined_tables joins = map (λ (join : Join). join.table) joins

abbrev pub tables_in : FromClause → List AliasedTable
tables_in from = from.first ∷ joined_tables from.joins

-- the table that the user means
abbrev pub meant : List ℕ → AliasedTable → TableName
meant user table = resolved_table user table.table

-- under which name the table's columns are looked up, its alias where it has one, and its columns
abbrev pub range_of : List Table → List ℕ → AliasedTable → Range
range_of tables user table = (name_or table.table.name table.alias, columns_of tables (meant user table))

abbrev pub ranges_of : Sight → List ℕ → List AliasedTable → List Range
ranges_of sight user tables = map (range_of sight.catalog.tables user) tables

-- a table of FROM, and the rows of it that are seen
abbrev pub Seen : Type 0
Seen = TableName × List Line

abbrev pub seen_of : Sight → TableName → Seen
seen_of sight table = (table, rows_seen sight table)

-- what is seen of the tables of FROM, in their order
abbrev pub seen_in : Sight → List ℕ → List AliasedTable → List Seen
seen_in sight user tables = map (λ (table : AliasedTable). seen_of sight (meant user table)) tables

abbrev pub rows_of_seen : List Seen → List (List Line)
rows_of_seen seen = map (λ (table : Seen). table.1) seen

-- the place of FROM and what is seen there, where the table stands at no earlier place
abbrev pub is_first : List Seen → ℕ × Seen → Bool
is_first seen p = not (list_any (λ (earlier : Seen). same_table earlier.0 p.1.0) (take p.0 seen))

-- each table of FROM once, at its first place there
abbrev pub each_table : List Seen → List (ℕ × Seen)
each_table seen = filter (is_first seen) (enumerate_from 0 seen)

-- all places of FROM at which the table stands, under whatever alias
abbrev pub places_of : TableName → List Seen → List ℕ
places_of table seen = map (λ (p : ℕ × Seen). p.0) (filter (λ (p : ℕ × Seen). same_table p.1.0 table) (enumerate_from 0 seen))

-- the table, and the numbers of its rows that stand in one of the combinations
abbrev pub touched_at : List (List Line) → List Seen → ℕ × Seen → TableName × List RowNo
touched_at combos seen p = (p.1.0, map (λ (line : Line). line.0) (filter (takes_part combos (places_of p.1.0 seen)) p.1.1))

-- of each table of FROM, the rows that take part in one of the combinations
abbrev pub touched_over : List (List Line) → List Seen → List (TableName × List RowNo)
touched_over combos seen = map (touched_at combos seen) (each_table seen)

-- the table, and those of its columns that one of the expressions names, in their order
abbrev pub named_at : List Placed → List Range → List Seen → ℕ × Seen → TableName × List (List ℕ)
named_at trees ranges seen p =
    (p.1.0, map (λ (column : ℕ × Column). column.1.name) (filter (is_named trees (places_of p.1.0 seen)) (enumerate_from 0 (columns_at (slice_get ranges p.0)))))

-- of each table of FROM, the columns that the expressions name
abbrev pub named_over : List Placed → List Range → List Seen → List (TableName × List (List ℕ))
named_over trees ranges seen = map (named_at trees ranges seen) (each_table seen)

-- the combinations of the rows that are seen over which each condition is Yes, in order
abbrev pub passing : Session → List Range → List Seen → SelectOf → List (List Line)
passing session ranges seen select = combos session (query_of ranges select).conditions (rows_of_seen seen)

-- What comes of a SELECT that is done: its reply; the rows that take part in a combination that passes; and the columns
-- that it names in any place.
pub record IsDone (session : Session) (ranges : List Range) (seen : List Seen) (select : SelectOf) (selected : Selected) : Type 0 where
  pub code : selected.code ≡ DONE
  pub reply : IsReply session ranges (passing session ranges seen select) select selected.reply
  pub touched : selected.touched ≡ touched_over (passing session ranges seen select) seen
  pub named : selected.named ≡ named_over (trees_of (query_of ranges select)) ranges seen

-- what a SELECT gives over what is seen, by its refusal if there is one
unfoldable pub IsSelectedFrom : Session → List Range → List Seen → SelectOf → Selected → Type 0
IsSelectedFrom session ranges seen select selected =
    Comes (select_refusal session ranges (rows_of_seen seen) select) (IsDone session ranges seen select) selected

-- what it gives over what is seen of the tables of its FROM
abbrev pub IsSelectedOver : Sight → Session → SelectOf → Selected → Type 0
IsSelectedOver sight session select selected =
    IsSelectedFrom session (ranges_of sight session.user (tables_in select.from)) (seen_in sight session.user (tables_in select.from)) select selected

-- What comes of a COUNT that is done: the number of the rows over which WHERE is Yes; these rows, which take part; and the
-- columns that WHERE names.
pub record IsTally (session : Session) (range : Range) (seen : Seen) (conditions : List Placed) (selected : Selected) : Type 0 where
  pub code : selected.code ≡ DONE
  pub reply : selected.reply ≡ tally_reply (length (passing_rows session conditions seen.1))
  pub touched : selected.touched ≡ (seen.0, numbers_of (passing_rows session conditions seen.1)) ∷ []
  pub named : selected.named ≡ named_over conditions (range ∷ []) (seen ∷ [])

-- what a COUNT gives over what is seen, by its refusal if there is one
unfoldable pub IsCountedFrom : Session → Range → Seen → CountOf → Selected → Type 0
IsCountedFrom session range seen count selected =
    Comes (count_refusal session range seen.1 count) (IsTally session range seen (condition_of range count)) selected

-- what it gives over what is seen of its table
abbrev pub IsCountedOver : Sight → Session → CountOf → Selected → Type 0
IsCountedOver sight session count selected =
    IsCountedFrom session (range_of sight.catalog.tables session.user count.table) (seen_of sight (meant session.user count.table)) count selected

-- the statement is a query
abbrev pub IsQuery : Statement → Type 0
IsQuery (Select select) = ⊤
IsQuery (Count count) = ⊤
IsQuery _ = ⊥

-- what a query gives over what is seen
abbrev pub IsAnswer : Sight → Session → Statement → Selected → Type 0
IsAnswer sight session (Select select) selected = IsSelectedOver sight session select selected
IsAnswer sight session (Count count) selected = IsCountedOver sight session count selected
IsAnswer sight session _ selected = ⊥

-- each table that the user's statement names is there
abbrev pub AreThere : List Table → List ℕ → Statement → Type 0
AreThere tables user statement = AllByRecursion (λ table. IsTrue (is_there tables table)) (tables_of user statement)

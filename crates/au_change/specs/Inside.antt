-- How the code tells what it tells. Who reads the contracts needs none of it.
use Rattle.std.specs.Prelude.{◌≡◌, ◌≢◌, ◌==◌, ◌||◌, ◌++◌, ℕ, Bool, false, List, [], ◌∷◌, map, position, Option, None, Some}
use Rattle.std.specs.BTreeSet.{contains}
use Rattle.std.specs.List.{AllZip, Contains, list_any, slice_get, zip}
use Rattle.std.specs.Option.{option_and_then}
use Rattle.std.specs.Ordering.{nat_cmp}
use Rattle.std.specs.Str.{bytes_eq}
use Rattle.au_base.specs.declared.cell.Cell.{Cell}
use Rattle.au_base.specs.declared.cell.Cell.TheVariants as cell
use Rattle.au_base.specs.declared.code.Code.{Code}
use Rattle.au_base.specs.declared.numbers.RowNo.{RowNo}
use Rattle.au_base.specs.declared.table.Column.{Column}
use Rattle.au_base.specs.declared.table.TableName.{TableName}
use Rattle.au_base.specs.Codes.{NULL_SET, OVERFLOW}
use Rattle.au_change.specs.declared.clashes.Keyed.{Keyed}
use Rattle.au_change.specs.declared.keys.Part.{Part}
use Rattle.au_change.specs.declared.keys.Part.TheVariants as part
use Rattle.au_change.specs.declared.settings.Setting.{Setting}
use Rattle.au_change.specs.Updating.{targets, values}
use Rattle.au_choose.specs.Choosing.{where_kind, where_name}
use Rattle.au_expr.specs.declared.kind.ExprKind.TheVariants.{Truth}
use Rattle.au_expr.specs.declared.placed.Placed.{Placed}
use Rattle.au_expr.specs.Kinds.{kind_at}
use Rattle.au_expr.specs.Names.{first, or_code}
use Rattle.au_expr.specs.Placing.{value_at}
use Rattle.au_expr.specs.Resolving.{placed}
use Rattle.au_expr.specs.Rows.{Range}
use Rattle.au_expr.specs.Sessions.{Session}
use Rattle.au_expr.specs.Values.{Value, cell_in, is_overflow}
use Rattle.au_modify.specs.Columns.{column_called}
use Rattle.au_modify.specs.Fitting.{fit_code}
use Rattle.au_modify.specs.Targets.{kind_code_of, names_refusal, target_refusal}
use Rattle.au_query.specs.Combos.{Line}
use Rattle.au_query.specs.Refusals.{where_broken}
use Rattle.au_txn.specs.declared.change.RowChange.{RowChange}
use Rattle.au_txn.specs.Desks.{key_of, open_of}
use Rattle.au_txn.specs.Keys.{KeysDiffer}
use Rattle.au_txn.specs.Rows.{Row}
use Rattle.au_txn.specs.Transactions.{IsUnderOther, laid_over}
use Rattle.sql_ast.specs.declared.rows.Assignment.{Assignment}
use Rattle.sql_ast.specs.declared.rows.Update.{Update}

-- two of the values are the same
abbrev pub repeats : {X : Type 0} → (X → X → Bool) → List X → Bool
repeats same [] = false
repeats same (x ∷ xs) = list_any (same x) xs || repeats same xs

-- ---- keys

abbrev pub key_with : Option Cell → Option (List Cell) → Option (List Cell)
key_with None rest = None
key_with (Some content) None = None
key_with (Some content) (Some rest) = Some (content ∷ rest)

-- the cells at the places, where all of these have one
abbrev pub key_at : List ℕ → List Cell → Option (List Cell)
key_at [] cells = Some []
key_at (place ∷ places) cells = key_with (slice_get cells place) (key_at places cells)

-- the key that the change makes
abbrev pub new_key : List ℕ → RowChange → Option (List Cell)
new_key places change = option_and_then (key_at places) change.new

-- a cell as keys are put in an order
abbrev pub part_of : Cell → Part
part_of cell.Null = part.Null
part_of (cell.Num number) = part.Number number
part_of (cell.Text text) = part.Text text
part_of (cell.Moment moment) = part.Moment moment

-- the key as a list of one, none where there is none
abbrev pub key_parts : Option (List Cell) → List (List Part)
key_parts None = []
key_parts (Some key) = map part_of key ∷ []

-- the keys that the changes make
abbrev pub all_parts : List ℕ → List RowChange → List (List Part)
all_parts places [] = []
all_parts places (change ∷ changes) = key_parts (new_key places change) ++ all_parts places changes

-- ---- changed rows

-- one of the changes is of the row with this number
abbrev pub has_number : RowNo → List RowChange → Bool
has_number row changes = list_any (λ (change : RowChange). change.row.0 == row.0) changes

-- what the client sees
abbrev pub seen_in : Keyed → List Row
seen_in keyed = laid_over keyed.desk.now.rows (open_of keyed.desk.now keyed.client)

-- the places are those of the table's key, which has some, and keys differ in what the client sees
pub record IsKeyedTable (keyed : Keyed) : Type 0 where
  pub key : key_of keyed.table.now keyed.desk.now.tables ≡ keyed.places.now
  pub keyed_is : keyed.places.now ≢ []
  pub seen : KeysDiffer keyed.places.now keyed.table.now (seen_in keyed)

-- another row than this one has the key, which isn't among those of the numbers
abbrev pub IsStanding : Keyed → RowNo → List Cell → Type 0
IsStanding keyed row key =
    (other : RowNo) × IsUnderOther keyed.places.now key keyed.table.now (seen_in keyed) row other × (contains nat_cmp keyed.numbers.now other.0 ≡ false)

-- the change makes the key of such a row
abbrev pub IsStood : Keyed → RowChange → Type 0
IsStood keyed change = (key : List Cell) × (new_key keyed.places.now change ≡ Some key) × IsStanding keyed change.row key

abbrev pub IsSomeStood : Keyed → List RowChange → Type 0
IsSomeStood keyed changes = (change : RowChange) × Contains changes change × IsStood keyed change

-- ---- what is set

-- the column that the assignment sets, and what it sets it to, which is no truth
pub record IsSetting (range : Range) (assignment : Assignment) (setting : Setting) : Type 0 where
  pub column : column_called range.1 assignment.column ≡ Some setting.column.now
  pub value : setting.value ≡ placed (range ∷ []) assignment.value
  pub valued : kind_at setting.value ≢ Truth

abbrev pub AreSettings : Range → List Assignment → List Setting → Type 0
AreSettings range assignments settings = AllZip (IsSetting range) assignments settings

-- what is set is no truth
abbrev pub IsValued : Setting → Type 0
IsValued setting = kind_at setting.value ≢ Truth

-- what it sets over a row
abbrev pub set_value : Session → List (List Cell) → Setting → Value
set_value session rows setting = value_at rows session setting.value

-- the first rule that this breaks
abbrev pub setting_code : Session → List (List Cell) → Setting → Option Code
setting_code session rows setting =
    or_code (where_broken (is_overflow (set_value session rows setting)) OVERFLOW) (fit_code NULL_SET setting.column.now (cell_in (set_value session rows setting)))

abbrev pub settings_code : Session → List Setting → List (List Cell) → Option Code
settings_code session settings rows = first (map (setting_code session rows) settings)

-- the cells that the settings give over the row
abbrev pub settings_cells : Session → List Setting → List (List Cell) → List Cell
settings_cells session settings rows = map (λ (setting : Setting). cell_in (set_value session rows setting)) settings

-- what is set, as trees
abbrev pub set_trees : List Setting → List Placed
set_trees settings = map (λ (setting : Setting). setting.value) settings

-- a column has the assignment's name
abbrev pub IsKnown : List Column → Assignment → Type 0
IsKnown columns assignment = (column : Column) × (column_called columns assignment.column ≡ Some column)

-- 932 of what an assignment sets
abbrev pub assignment_kind : Range → Assignment → Option Code
assignment_kind range assignment = kind_code_of (range ∷ []) range.1 (assignment.column, assignment.value)

-- which of the assignments sets the column, by its place
abbrev pub source_of : List Assignment → Column → Option ℕ
source_of assignments column = position (λ (assignment : Assignment). bytes_eq assignment.column column.name) assignments

abbrev pub or_cell : Cell → Option Cell → Cell
or_cell otherwise None = otherwise
or_cell otherwise (Some content) = content

-- the cell that is given at a place, and else this one
abbrev pub cell_from : List Cell → Cell → Option ℕ → Cell
cell_from given otherwise None = otherwise
cell_from given otherwise (Some at) = or_cell otherwise (slice_get given at)

abbrev pub row_from : List Cell → List (Option ℕ) → List Cell → List Cell
row_from given sources cells = map (λ (p : Option ℕ × Cell). cell_from given p.1 p.0) (zip sources cells)

-- the change that sets the row so
abbrev pub change_of : TableName → Session → List (Option ℕ) → List Setting → Line → RowChange
change_of table session sources settings line =
    record { table = table; row = line.0; old = Some line.1; new = Some (row_from (settings_cells session settings (line.1 ∷ [])) sources line.1) }

-- the first rule that a row breaks
abbrev pub line_code : Session → List Setting → Line → Option Code
line_code session settings line = settings_code session settings (line.1 ∷ [])

-- the rules of the text that come before 932
abbrev pub front_refusal : Range → Update → Option Code
front_refusal range update =
    or_code (target_refusal range.1 (targets update)) (or_code (names_refusal (range ∷ []) (values update)) (where_name range update.condition))

-- 932 of what is set, that of WHERE the last
abbrev pub back_refusal : Range → Update → Option Code
back_refusal range update = or_code (first (map (assignment_kind range) update.assignments)) (where_kind range update.condition)

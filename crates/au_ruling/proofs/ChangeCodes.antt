-- The code of what INSERT, UPDATE and DELETE come to is small.
use Rattle.std.proofs.Common.{◌≡◌, ◌&&◌, ℕ, not, nat_lt, List, [], ◌∷◌, take, length, inl, inr, Option, Some, None, sym, subst, arith}
use Rattle.std.specs.Prelude.{nat_le}
use Rattle.std.specs.List.{enumerate_from, list_any, zip}
use Rattle.std.specs.Str.{bytes_eq}
use Rattle.au_base.specs.declared.cell.Cell.{Cell}
use Rattle.au_base.specs.declared.code.Code.{Code}
use Rattle.au_base.specs.declared.numbers.ClientNo.{ClientNo}
use Rattle.au_base.specs.declared.table.Column.{Column}
use Rattle.au_base.specs.declared.table.TableName.{TableName}
use Rattle.au_base.specs.Codes.{COLUMN_TWICE, KEY_PRESENT, LOCKED, NULL_INSERTED, NULL_SET, NUMBER_TOO_WIDE, OVERFLOW, TEXT_TOO_LONG, TOO_FEW_VALUES, TOO_MANY_CHANGES, TOO_MANY_ROW_NUMBERS, TOO_MANY_VALUES, UNKNOWN_COLUMN}
use Rattle.au_change.specs.Deleting.{IsDeletion, delete_refusal, deleted}
use Rattle.au_change.specs.Updating as updating
use Rattle.au_base.specs.Limits.{TRANSACTION_CHANGES}
use Rattle.au_change.specs.Updating.{IsUpdate, assignment_code, row_code, rows_refusal, set_code, text_refusal, updated, updates, value_over}
use Rattle.au_choose.specs.Choosing.{IsSomeLocked, are_too_many, choice_refusal, chosen_in, overflows_in, range_in, where_kind, where_name}
use Rattle.au_expr.specs.Names.{name_code, or_code}
use Rattle.au_expr.specs.Resolving.{condition_code}
use Rattle.au_expr.specs.Rows.{Range}
use Rattle.au_expr.specs.Sessions.{Session}
use Rattle.au_expr.specs.Values.{cell_in, is_overflow}
use Rattle.au_insert.specs.Inserting as inserting
use Rattle.au_insert.specs.Inserting.{IsInsertion, IsPlacing, inserted, is_full, listed_refusal, new_row, room_refusal, row_refusal, value_overflows, value_refusal}
use Rattle.au_modify.specs.declared.modification.Modification.{Modification}
use Rattle.au_modify.specs.Columns.{column_called, columns_called, has_column}
use Rattle.au_modify.specs.Fitting.{fit_code, is_null, is_too_long, is_too_wide}
use Rattle.au_modify.specs.Keys.{AreTwoUnderOne, IsLockedKey, IsPresentKey, IsSomeKeyLocked}
use Rattle.au_modify.specs.Modifying.{Comes, Unless}
use Rattle.au_modify.specs.Targets.{kind_code, kinds_refusal, names_refusal, target_code, target_refusal}
use Rattle.au_query.specs.Combos.{Line}
use Rattle.au_query.specs.Refusals.{where_broken}
use Rattle.au_ruling.proofs.Codes.{ConditionsFit, Fits, IsSmall, NamesFit, broken_fits, condition_fits, first_fits, first_mapped, names_fit, or_fits, there_fits, value_fits}
use Rattle.au_txn.specs.declared.change.RowChange.{RowChange}
use Rattle.au_world.specs.Sights.{Sight, columns_of}
use Rattle.sql_ast.specs.declared.expression.Expr.{Expr}
use Rattle.sql_ast.specs.declared.rows.Assignment.{Assignment}
use Rattle.sql_ast.specs.declared.rows.Delete.{Delete}
use Rattle.sql_ast.specs.declared.rows.Insert.{Insert}
use Rattle.sql_ast.specs.declared.rows.Update.{Update}

-- ---- rules that come one behind the other

abbrev HasSmall : Modification → Type 0
HasSmall modification = IsSmall modification.code

comes_small : (code : Option Code) (Behind : Modification → Type 0) → Fits code → ((some : Modification) → Behind some → HasSmall some) → (modification : Modification) → Comes code Behind modification → HasSmall modification
comes_small None Behind fits behind modification comes = behind modification comes
comes_small (Some code) Behind fits behind modification comes = subst HasSmall (sym comes) fits

unless_small : (Broken : Type 0) (code : Code) (Behind : Modification → Type 0) → IsSmall code → ((some : Modification) → Behind some → HasSmall some) → (modification : Modification) → Unless Broken code Behind modification → HasSmall modification
unless_small Broken code Behind small behind modification (inl broken) = subst HasSmall (sym broken.1) small
unless_small Broken code Behind small behind modification (inr rest) = behind modification rest.1

done_small : (whole : Modification) → HasSmall whole → (modification : Modification) → modification ≡ whole → HasSmall modification
done_small whole small modification is = subst HasSmall (sym is) small

-- ---- the rules

target_code_fits : (columns : List Column) (names : List (List ℕ)) (p : ℕ × List ℕ) → Fits (target_code columns names p)
target_code_fits columns names p =
    or_fits (where_broken (not (has_column columns p.1)) UNKNOWN_COLUMN) (where_broken (list_any (bytes_eq p.1) (take p.0 names)) COLUMN_TWICE)
    (broken_fits (not (has_column columns p.1)) UNKNOWN_COLUMN (omega arith)) (broken_fits (list_any (bytes_eq p.1) (take p.0 names)) COLUMN_TWICE (omega arith))

target_fits : (columns : List Column) (names : List (List ℕ)) → Fits (target_refusal columns names)
target_fits columns names =
    first_mapped (target_code columns names) (target_code_fits columns names) (enumerate_from 0 names)

fit_fits : (null : Code) → IsSmall null → (column : Column) (content : Cell) → Fits (fit_code null column content)
fit_fits null small column content =
    first_fits (
    where_broken (column.not_null && is_null content) null
    ∷ where_broken (is_too_long column content) TEXT_TOO_LONG
    ∷ where_broken (is_too_wide column content) NUMBER_TOO_WIDE
    ∷ []
    ) (
      broken_fits (column.not_null && is_null content) null small,
      (broken_fits (is_too_long column content) TEXT_TOO_LONG (omega arith), (broken_fits (is_too_wide column content) NUMBER_TOO_WIDE (omega arith), tt)),
    )

module _ (names : NamesFit) where
  names_refusal_fits : (ranges : List Range) (values : List Expr) → Fits (names_refusal ranges values)
  names_refusal_fits ranges values = first_mapped (name_code ranges) (names_fit names ranges) values

  kinds_refusal_fits : (ranges : List Range) (columns : List Column) (targets : List (List ℕ)) (values : List Expr) → Fits (kinds_refusal ranges columns targets values)
  kinds_refusal_fits ranges columns targets values =
      first_mapped (kind_code ranges) (λ (p : Column × Expr). value_fits names (Some p.0.kind) ranges p.1) (zip (columns_called columns targets) values)

-- ---- INSERT

listed_fits : (columns : List Column) (insert : Insert) → Fits (listed_refusal columns insert)
listed_fits columns insert =
    let names = inserting.targets columns insert in
    first_fits (
    target_refusal columns names
    ∷ where_broken (nat_lt (length names) (length insert.values)) TOO_MANY_VALUES
    ∷ where_broken (nat_lt (length insert.values) (length names)) TOO_FEW_VALUES
    ∷ []
    ) (
      target_fits columns names,
      (broken_fits (nat_lt (length names) (length insert.values)) TOO_MANY_VALUES (omega arith), (broken_fits (nat_lt (length insert.values) (length names)) TOO_FEW_VALUES (omega arith), tt)),
    )

row_fits : (session : Session) (columns : List Column) (insert : Insert) → Fits (row_refusal session columns insert)
row_fits session columns insert =
    first_mapped (λ (p : Column × Cell). fit_code NULL_INSERTED p.0 p.1) (λ p. fit_fits NULL_INSERTED (omega arith) p.0 p.1) (zip columns (new_row session columns insert))

inserted_fits : NamesFit → (session : Session) (columns : List Column) (insert : Insert) → Fits (value_refusal session columns insert)
inserted_fits names session columns insert =
    first_fits (
    names_refusal [] insert.values
    ∷ kinds_refusal [] columns (inserting.targets columns insert) insert.values
    ∷ where_broken (list_any (value_overflows session) insert.values) OVERFLOW
    ∷ row_refusal session columns insert
    ∷ []
    ) (
      names_refusal_fits names [] insert.values,
      (
        kinds_refusal_fits names [] columns (inserting.targets columns insert) insert.values,
        (broken_fits (list_any (value_overflows session) insert.values) OVERFLOW (omega arith), (row_fits session columns insert, tt)),
      ),
    )

room_fits : (own : List RowChange) (count last : ℕ) → Fits (room_refusal own count last)
room_fits own count last =
    or_fits (where_broken (is_full count last) TOO_MANY_ROW_NUMBERS) (where_broken (nat_le TRANSACTION_CHANGES (length own)) TOO_MANY_CHANGES)
    (broken_fits (is_full count last) TOO_MANY_ROW_NUMBERS (omega arith)) (broken_fits (nat_le TRANSACTION_CHANGES (length own)) TOO_MANY_CHANGES (omega arith))

abbrev IsInserted : Session → List Column → TableName → ℕ → Insert → Modification → Type 0
IsInserted session columns table last insert done = done ≡ inserted session columns table last insert

abbrev IsKeyed : Sight → Session → TableName → List Column → ℕ → Insert → Modification → Type 0
IsKeyed sight session table columns last insert = Unless (IsPresentKey sight table (new_row session columns insert)) KEY_PRESENT (IsInserted session columns table last insert)

abbrev IsUnlocked : Sight → ClientNo → Session → TableName → List Column → ℕ → Insert → Modification → Type 0
IsUnlocked sight client session table columns last insert =
    Unless (IsLockedKey sight client table (new_row session columns insert)) LOCKED (IsKeyed sight session table columns last insert)

placing_small : (sight : Sight) (client : ClientNo) (session : Session) (table : TableName) (insert : Insert) (modification : Modification) → IsPlacing sight client session table insert modification → HasSmall modification
placing_small sight client session table insert modification placing =
    let columns = columns_of sight.catalog.tables table in
    comes_small (room_refusal sight.own placing.count placing.last) (IsUnlocked sight client session table columns placing.last insert) (room_fits sight.own placing.count placing.last)
    (unless_small (IsLockedKey sight client table (new_row session columns insert)) LOCKED (IsKeyed sight session table columns placing.last insert) (omega arith)
    (unless_small (IsPresentKey sight table (new_row session columns insert)) KEY_PRESENT (IsInserted session columns table placing.last insert) (omega arith)
    (done_small (inserted session columns table placing.last insert) (omega arith))))
    modification placing.comes

pub insertion_small : NamesFit → (sight : Sight) (client : ClientNo) (session : Session) (table : TableName) (insert : Insert) (modification : Modification)
    → IsInsertion sight client session table insert modification → IsSmall modification.code
insertion_small names sight client session table insert modification is_so =
    let columns = columns_of sight.catalog.tables table in
    comes_small (or_code (listed_refusal columns insert) (value_refusal session columns insert)) (IsPlacing sight client session table insert)
    (or_fits (listed_refusal columns insert) (value_refusal session columns insert) (listed_fits columns insert) (inserted_fits names session columns insert))
    (placing_small sight client session table insert) modification is_so

-- ---- the choice of rows

choice_fits : (sight : Sight) (session : Session) (table : TableName) (condition : Option Expr) → Fits (choice_refusal sight session table condition)
choice_fits sight session table condition =
    let overflows = overflows_in sight session table condition in
    let many = are_too_many sight.own (chosen_in sight session table condition) in
    or_fits (where_broken overflows OVERFLOW) (where_broken many TOO_MANY_CHANGES) (broken_fits overflows OVERFLOW (omega arith)) (broken_fits many TOO_MANY_CHANGES (omega arith))

where_name_fits : NamesFit → (range : Range) (condition : Option Expr) → Fits (where_name range condition)
where_name_fits names range condition = there_fits (name_code (range ∷ [])) (names_fit names (range ∷ [])) condition

where_kind_fits : ConditionsFit → (range : Range) (condition : Option Expr) → Fits (where_kind range condition)
where_kind_fits conditions range condition = there_fits (condition_code (range ∷ [])) (condition_fits conditions (range ∷ [])) condition

-- ---- DELETE

delete_fits : NamesFit → ConditionsFit → (sight : Sight) (session : Session) (table : TableName) (delete : Delete) → Fits (delete_refusal sight session table delete)
delete_fits names conditions sight session table delete =
    let range = range_in sight table in
    or_fits (where_name range delete.condition) (or_code (where_kind range delete.condition) (choice_refusal sight session table delete.condition))
    (where_name_fits names range delete.condition)
    (or_fits (where_kind range delete.condition) (choice_refusal sight session table delete.condition)
    (where_kind_fits conditions range delete.condition) (choice_fits sight session table delete.condition))

abbrev IsDeleted : Sight → Session → TableName → Delete → Modification → Type 0
IsDeleted sight session table delete done = done ≡ deleted sight session table delete

abbrev IsChosen : Sight → ClientNo → Session → TableName → Delete → Modification → Type 0
IsChosen sight client session table delete =
    Unless (IsSomeLocked sight client table (chosen_in sight session table delete.condition)) LOCKED (IsDeleted sight session table delete)

pub deletion_small : NamesFit → ConditionsFit → (sight : Sight) (client : ClientNo) (session : Session) (table : TableName) (delete : Delete) (modification : Modification)
    → IsDeletion sight client session table delete modification → IsSmall modification.code
deletion_small names conditions sight client session table delete modification is_so =
    comes_small (delete_refusal sight session table delete) (IsChosen sight client session table delete) (delete_fits names conditions sight session table delete)
    (unless_small (IsSomeLocked sight client table (chosen_in sight session table delete.condition)) LOCKED (IsDeleted sight session table delete) (omega arith)
    (done_small (deleted sight session table delete) (omega arith)))
    modification is_so

-- ---- UPDATE

text_fits : NamesFit → ConditionsFit → (range : Range) (update : Update) → Fits (text_refusal range update)
text_fits names conditions range update =
    first_fits (
    target_refusal range.1 (updating.targets update)
    ∷ names_refusal (range ∷ []) (updating.values update)
    ∷ where_name range update.condition
    ∷ kinds_refusal (range ∷ []) range.1 (updating.targets update) (updating.values update)
    ∷ where_kind range update.condition
    ∷ []
    ) (
      target_fits range.1 (updating.targets update),
      (
        names_refusal_fits names (range ∷ []) (updating.values update),
        (
          where_name_fits names range update.condition,
          (
            kinds_refusal_fits names (range ∷ []) range.1 (updating.targets update) (updating.values update),
            (where_kind_fits conditions range update.condition, tt),
          ),
        ),
      ),
    )

set_fits : (column : Option Column) (content : Cell) → Fits (set_code column content)
set_fits None content = tt
set_fits (Some column) content = fit_fits NULL_SET (omega arith) column content

assignment_fits : (session : Session) (range : Range) (row : Line) (assignment : Assignment) → Fits (assignment_code session range row assignment)
assignment_fits session range row assignment =
    let value = value_over session range row assignment in
    let column = column_called range.1 assignment.column in
    or_fits (where_broken (is_overflow value) OVERFLOW) (set_code column (cell_in value)) (broken_fits (is_overflow value) OVERFLOW (omega arith)) (set_fits column (cell_in value))

row_code_fits : (session : Session) (range : Range) (assignments : List Assignment) (row : Line) → Fits (row_code session range assignments row)
row_code_fits session range assignments row = first_mapped (assignment_code session range row) (assignment_fits session range row) assignments

rows_fit : (sight : Sight) (session : Session) (table : TableName) (update : Update) → Fits (rows_refusal sight session table update)
rows_fit sight session table update =
    first_mapped (row_code session (range_in sight table) update.assignments) (row_code_fits session (range_in sight table) update.assignments) (chosen_in sight session table update.condition)

abbrev IsUpdated : Sight → Session → TableName → Update → Modification → Type 0
IsUpdated sight session table update done = done ≡ updated sight session table update

abbrev IsApart : Sight → Session → TableName → Update → Modification → Type 0
IsApart sight session table update = Unless (AreTwoUnderOne sight table (updates sight session table update)) KEY_PRESENT (IsUpdated sight session table update)

abbrev IsFreeOfKeys : Sight → ClientNo → Session → TableName → Update → Modification → Type 0
IsFreeOfKeys sight client session table update = Unless (IsSomeKeyLocked sight client table (updates sight session table update)) LOCKED (IsApart sight session table update)

abbrev IsFitting : Sight → ClientNo → Session → TableName → Update → Modification → Type 0
IsFitting sight client session table update = Comes (rows_refusal sight session table update) (IsFreeOfKeys sight client session table update)

abbrev IsTaken : Sight → ClientNo → Session → TableName → Update → Modification → Type 0
IsTaken sight client session table update =
    Unless (IsSomeLocked sight client table (chosen_in sight session table update.condition)) LOCKED (IsFitting sight client session table update)

pub update_small : NamesFit → ConditionsFit → (sight : Sight) (client : ClientNo) (session : Session) (table : TableName) (update : Update) (modification : Modification)
    → IsUpdate sight client session table update modification → IsSmall modification.code
update_small names conditions sight client session table update modification is_so =
    let text = text_refusal (range_in sight table) update in
    let choice = choice_refusal sight session table update.condition in
    comes_small (or_code text choice) (IsTaken sight client session table update)
    (or_fits text choice (text_fits names conditions (range_in sight table) update) (choice_fits sight session table update.condition))
    (unless_small (IsSomeLocked sight client table (chosen_in sight session table update.condition)) LOCKED (IsFitting sight client session table update) (omega arith)
    (comes_small (rows_refusal sight session table update) (IsFreeOfKeys sight client session table update) (rows_fit sight session table update)
    (unless_small (IsSomeKeyLocked sight client table (updates sight session table update)) LOCKED (IsApart sight session table update) (omega arith)
    (unless_small (AreTwoUnderOne sight table (updates sight session table update)) KEY_PRESENT (IsUpdated sight session table update) (omega arith)
    (done_small (updated sight session table update) (omega arith))))))
    modification is_so

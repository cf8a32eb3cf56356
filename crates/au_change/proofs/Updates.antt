-- What an UPDATE sets, by its settings and by its assignments.
use Rattle.std.proofs.Common.{Vec, Global, ◌≡◌, ◌∙◌, ◌+◌, ℕ, zero, suc, Bool, true, false, not, cond, ◌||◌, nat_lt, List, [], ◌∷◌, ◌++◌, length, map, refl, sym, ap, ap₂, arith}
use Rattle.std.specs.Prelude.{IfOk, MatchResult, Option, None, Some, Result, Ok, Err}
use Rattle.std.specs.List.{AllByRecursion, find, list_any, position_or_len, zip}
use Rattle.std.specs.Option.{option_map}
use Rattle.std.specs.Str.{bytes_eq}
use Rattle.std.proofs.lemmas.Bool.Decides.{nat_tests}
use Rattle.au_base.specs.declared.cell.Cell.{Cell}
use Rattle.au_base.specs.declared.code.Code.{Code}
use Rattle.au_base.specs.declared.memory.Memory.{Memory}
use Rattle.au_base.specs.declared.table.Column.{Column}
use Rattle.au_base.specs.declared.table.TableName.{TableName}
use Rattle.au_base.specs.Codes.{OVERFLOW}
use Rattle.au_change.specs.declared.settings.Setting.{Setting}
use Rattle.au_change.specs.Inside.{AreSettings, IsKnown, IsSetting, IsValued, back_refusal, cell_from, change_of, front_refusal, row_from, set_trees, setting_code, settings_cells, settings_code, source_of}
use Rattle.au_change.specs.Updating.{assignment_code, expressions, is_referenced, row_code, row_update, set_code, targets, text_refusal, value_over, values}
use Rattle.au_choose.specs.Choosing.{conditions_over, where_kind, where_name}
use Rattle.au_expr.specs.declared.placed.Placed.{Placed}
use Rattle.au_expr.specs.Names.{first, or_code}
use Rattle.au_expr.specs.Placing.{value_at}
use Rattle.au_expr.specs.Ranges.{names_column}
use Rattle.au_expr.specs.Resolving.{placed}
use Rattle.au_expr.specs.Rows.{Range}
use Rattle.au_expr.specs.Sessions.{Session}
use Rattle.au_expr.specs.Values.{cell_in, is_overflow}
use Rattle.au_modify.specs.Columns.{column_called, is_called}
use Rattle.au_modify.specs.Targets.{cell_or, given_or, is_given_for, kind_code_of, kinds_refusal, names_refusal, target_refusal}
use Rattle.au_query.specs.Combos.{Line}
use Rattle.au_query.specs.Refusals.{where_broken}
use Rattle.au_txn.specs.declared.change.RowChange.{RowChange}
use Rattle.sql_ast.specs.declared.expression.Expr.{Expr}
use Rattle.sql_ast.specs.declared.rows.Assignment.{Assignment}
use Rattle.sql_ast.specs.declared.rows.Update.{Update}
use Rattle.au_change.proofs.SetLemmas.{first_none, later_none}

-- ---- one assignment

code_is : (session : Session) (range : Range) (row : Line) (a : Assignment) (s : Setting) → IsSetting range a s → setting_code session (row.1 ∷ []) s ≡ assignment_code session range row a
code_is session range row a s is =
    ap (λ (tree : Placed). or_code (where_broken (is_overflow (value_at (row.1 ∷ []) session tree)) OVERFLOW) (set_code (Some s.column.now) (cell_in (value_at (row.1 ∷ []) session tree)))) is.value
    ∙ sym (ap (λ (c : Option Column). or_code (where_broken (is_overflow (value_over session range row a)) OVERFLOW) (set_code c (cell_in (value_over session range row a)))) is.column)

cell_is : (session : Session) (range : Range) (row : Line) (a : Assignment) (s : Setting) → IsSetting range a s
    → cell_in (value_at (row.1 ∷ []) session s.value) ≡ cell_in (value_over session range row a)
cell_is session range row a s is = ap (λ (tree : Placed). cell_in (value_at (row.1 ∷ []) session tree)) is.value

-- ---- all of them

module _ (session : Session) (range : Range) (row : Line) where
  pub codes_are : (assignments : List Assignment) (settings : List Setting) → AreSettings range assignments settings → settings_code session settings (row.1 ∷ []) ≡ row_code session range assignments row
  codes_are [] [] all = refl
  codes_are [] (s ∷ settings) all = absurd all
  codes_are (a ∷ assignments) [] all = absurd all
  codes_are (a ∷ assignments) (s ∷ settings) all = ap₂ or_code (code_is session range row a s all.0) (codes_are assignments settings all.1)

  pub cells_are : (assignments : List Assignment) (settings : List Setting) → AreSettings range assignments settings
      → settings_cells session settings (row.1 ∷ []) ≡ map (λ (a : Assignment). cell_in (value_over session range row a)) assignments
  cells_are [] [] all = refl
  cells_are [] (s ∷ settings) all = absurd all
  cells_are (a ∷ assignments) [] all = absurd all
  cells_are (a ∷ assignments) (s ∷ settings) all = ap₂ (λ (c : Cell) (cs : List Cell). c ∷ cs) (cell_is session range row a s all.0) (cells_are assignments settings all.1)

pub trees_are : (range : Range) (assignments : List Assignment) (settings : List Setting) → AreSettings range assignments settings
    → set_trees settings ≡ map (placed (range ∷ [])) (map (λ (a : Assignment). a.value) assignments)
trees_are range [] [] all = refl
trees_are range [] (s ∷ settings) all = absurd all
trees_are range (a ∷ assignments) [] all = absurd all
trees_are range (a ∷ assignments) (s ∷ settings) all = ap₂ (λ (t : Placed) (ts : List Placed). t ∷ ts) all.0.value (trees_are range assignments settings all.1)

pub valued_are : (range : Range) (assignments : List Assignment) (settings : List Setting) → AreSettings range assignments settings → AllByRecursion IsValued settings
valued_are range [] [] all = tt
valued_are range [] (s ∷ settings) all = absurd all
valued_are range (a ∷ assignments) [] all = absurd all
valued_are range (a ∷ assignments) (s ∷ settings) all = (all.0.valued, valued_are range assignments settings all.1)

-- ---- which assignment sets a column

lt_next : (m n : ℕ) → nat_lt (suc m) (suc n) ≡ nat_lt m n
lt_next m n = grind (arith, nat_tests)

place_next : (b c : Bool) (k : ℕ) → b ≡ c → cond b (Some (suc k)) None ≡ option_map suc (cond c (Some k) None)
place_next b true k is = ap (λ (x : Bool). cond x (Some (suc k)) None) is
place_next b false k is = ap (λ (x : Bool). cond x (Some (suc k)) None) is

later_cell : (content otherwise : Cell) (cells : List Cell) (place : Option ℕ) → cell_from (content ∷ cells) otherwise (option_map suc place) ≡ cell_from cells otherwise place
later_cell content otherwise cells None = refl
later_cell content otherwise cells (Some at) = refl

given_at : (f : Assignment → Cell) (column : Column) (otherwise : Cell) (a : Assignment) (assignments : List Assignment) (b : Bool) → bytes_eq a.column column.name ≡ b
    → cell_from (map f assignments) otherwise (source_of assignments column) ≡ given_or otherwise (map (λ (x : Assignment). (x.column, f x)) assignments) column
    → cell_from (f a ∷ map f assignments) otherwise (cond (nat_lt (cond (not b) (1 + position_or_len (λ (x : Assignment). bytes_eq x.column column.name) assignments) zero) (suc (length assignments)))
    (Some (cond (not b) (1 + position_or_len (λ (x : Assignment). bytes_eq x.column column.name) assignments) zero)) None)
    ≡ cell_or otherwise (cond b (Some (a.column, f a)) (find (is_given_for column) (map (λ (x : Assignment). (x.column, f x)) assignments)))
given_at f column otherwise a assignments true is more =
    ap (λ (t : Bool). cell_from (f a ∷ map f assignments) otherwise (cond t (Some zero) None)) (let e : nat_lt zero (suc (length assignments)) ≡ true = grind (arith, nat_tests) in e)
given_at f column otherwise a assignments false is more =
    let k = position_or_len (λ (x : Assignment). bytes_eq x.column column.name) assignments in
    let next : 1 + k ≡ suc k = omega arith in
    ap (λ (n : ℕ). cell_from (f a ∷ map f assignments) otherwise (cond (nat_lt n (suc (length assignments))) (Some n) None)) next
    ∙ ap (cell_from (f a ∷ map f assignments) otherwise)
    (place_next (nat_lt (suc (position_or_len (λ (x : Assignment). bytes_eq x.column column.name) assignments)) (suc (length assignments)))
    (nat_lt (position_or_len (λ (x : Assignment). bytes_eq x.column column.name) assignments) (length assignments))
    (position_or_len (λ (x : Assignment). bytes_eq x.column column.name) assignments)
    (lt_next (position_or_len (λ (x : Assignment). bytes_eq x.column column.name) assignments) (length assignments)))
    ∙ later_cell (f a) otherwise (map f assignments) (source_of assignments column) ∙ more

pub cell_of : (f : Assignment → Cell) (column : Column) (otherwise : Cell) (assignments : List Assignment)
    → cell_from (map f assignments) otherwise (source_of assignments column) ≡ given_or otherwise (map (λ (x : Assignment). (x.column, f x)) assignments) column
cell_of f column otherwise [] = refl
cell_of f column otherwise (a ∷ assignments) = given_at f column otherwise a assignments (bytes_eq a.column column.name) refl (cell_of f column otherwise assignments)

row_of : (f : Assignment → Cell) (assignments : List Assignment) (columns : List Column) (cells : List Cell)
    → row_from (map f assignments) (map (source_of assignments) columns) cells
    ≡ map (λ (p : Column × Cell). given_or p.1 (map (λ (x : Assignment). (x.column, f x)) assignments) p.0) (zip columns cells)
row_of f assignments [] cells = refl
row_of f assignments (column ∷ columns) [] = refl
row_of f assignments (column ∷ columns) (content ∷ cells) =
    ap₂ (λ (c : Cell) (cs : List Cell). c ∷ cs) (cell_of f column content assignments) (row_of f assignments columns cells)

pub change_is : (table : TableName) (session : Session) (range : Range) (assignments : List Assignment) (settings : List Setting) (sources : List (Option ℕ)) (row : Line)
    → AreSettings range assignments settings → sources ≡ map (source_of assignments) range.1
    → change_of table session sources settings row ≡ row_update table session range assignments row
change_is table session range assignments settings sources row all is =
    ap (λ (cells : List Cell). let c : RowChange = record { table = table; row = row.0; old = Some row.1; new = Some cells } in c)
    (ap₂ (λ (given_cells : List Cell) (places : List (Option ℕ)). row_from given_cells places row.1) (cells_are session range row assignments settings all) is
    ∙ row_of (λ (a : Assignment). cell_in (value_over session range row a)) assignments range.1 row.1)

pub map_same : {X Y : Type 0} (f g : X → Y) → ((x : X) → f x ≡ g x) → (xs : List X) → map f xs ≡ map g xs
map_same f g same [] = refl
map_same f g same (x ∷ xs) = ap₂ (λ y ys. y ∷ ys) (same x) (map_same f g same xs)

-- ---- the text

end_code : (code : Option Code) → or_code code None ≡ code
end_code None = refl
end_code (Some code) = refl

in_two : (t n w k wk : Option Code) → or_code t (or_code n w) ≡ None → first (t ∷ n ∷ w ∷ k ∷ wk ∷ []) ≡ or_code k wk
in_two None None None k wk is = ap (or_code k) (end_code wk)
in_two None None (Some c) k wk is = absurd (let e : Some c ≡ None = is in cc)
in_two None (Some c) w k wk is = absurd (let e : Some c ≡ None = is in cc)
in_two (Some c) n w k wk is = absurd (let e : Some c ≡ None = is in cc)

in_one : (t n w k wk : Option Code) (code : Code) → or_code t (or_code n w) ≡ Some code → first (t ∷ n ∷ w ∷ k ∷ wk ∷ []) ≡ Some code
in_one None None None k wk code is = absurd (let e : None ≡ Some code = is in cc)
in_one None None (Some c) k wk code is = is
in_one None (Some c) w k wk code is = is
in_one (Some c) n w k wk code is = is

zip_is : (f : List ℕ × Expr → Option Code) (assignments : List Assignment)
    → map f (zip (map (λ (a : Assignment). a.column) assignments) (map (λ (a : Assignment). a.value) assignments)) ≡ map (λ (a : Assignment). f (a.column, a.value)) assignments
zip_is f [] = refl
zip_is f (a ∷ assignments) = ap (λ (cs : List (Option Code)). f (a.column, a.value) ∷ cs) (zip_is f assignments)

abbrev pub TellsKinds : Type 0
TellsKinds = (ranges : List Range) (columns : List Column) (names : List (List ℕ)) (given_values : List Expr) → target_refusal columns names ≡ None
    → kinds_refusal ranges columns names given_values ≡ first (map (kind_code_of ranges columns) (zip names given_values))

pub text_is : TellsKinds → (range : Range) (update : Update) → front_refusal range update ≡ None → text_refusal range update ≡ back_refusal range update
text_is tells range update front =
    in_two (target_refusal range.1 (targets update)) (names_refusal (range ∷ []) (values update)) (where_name range update.condition) (kinds_refusal (range ∷ []) range.1 (targets update) (values update)) (where_kind range update.condition) front
    ∙ ap (λ (code : Option Code). or_code code (where_kind range update.condition))
    (tells (range ∷ []) range.1 (targets update) (values update) (first_none (target_refusal range.1 (targets update)) (or_code (names_refusal (range ∷ []) (values update)) (where_name range update.condition)) front)
    ∙ ap first (zip_is (kind_code_of (range ∷ []) range.1) update.assignments))

pub text_first : (range : Range) (update : Update) (code : Code) → front_refusal range update ≡ Some code → text_refusal range update ≡ Some code
text_first range update code front =
    in_one (target_refusal range.1 (targets update)) (names_refusal (range ∷ []) (values update)) (where_name range update.condition) (kinds_refusal (range ∷ []) range.1 (targets update) (values update)) (where_kind range update.condition) code front

pub read_told : TellsKinds → (range : Range) (update : Update) (result : Result (Result (Vec Setting Global) Code) Memory) → front_refusal range update ≡ None
    → IfOk result (λ found. MatchResult found (λ settings. (back_refusal range update ≡ None) × AreSettings range update.assignments settings.items) (λ code. back_refusal range update ≡ Some code))
    → IfOk result (λ found. MatchResult found (λ settings. (text_refusal range update ≡ None) × AreSettings range update.assignments settings.items) (λ code. text_refusal range update ≡ Some code))
read_told tells range update (Ok (Ok settings)) front is = (text_is tells range update front ∙ is.0, is.1)
read_told tells range update (Ok (Err code)) front is = text_is tells range update front ∙ is
read_told tells range update (Err e) front is = is

pub kind_none : (range : Range) (update : Update) → text_refusal range update ≡ None → where_kind range update.condition ≡ None
kind_none range update none =
    first_none (where_kind range update.condition) None
    (later_none (kinds_refusal (range ∷ []) range.1 (targets update) (values update)) (or_code (where_kind range update.condition) None)
    (later_none (where_name range update.condition) (or_code (kinds_refusal (range ∷ []) range.1 (targets update) (values update)) (or_code (where_kind range update.condition) None))
    (later_none (names_refusal (range ∷ []) (values update)) (first (where_name range update.condition ∷ kinds_refusal (range ∷ []) range.1 (targets update) (values update) ∷ where_kind range update.condition ∷ []))
    (later_none (target_refusal range.1 (targets update)) (first (names_refusal (range ∷ []) (values update) ∷ where_name range update.condition ∷ kinds_refusal (range ∷ []) range.1 (targets update) (values update) ∷ where_kind range update.condition ∷ []))
    none))))

all_known : (columns : List Column) (assignments : List Assignment) → AllByRecursion (λ (name : List ℕ). (column : Column) × (column_called columns name ≡ Some column)) (map (λ (a : Assignment). a.column) assignments)
    → AllByRecursion (IsKnown columns) assignments
all_known columns [] all = tt
all_known columns (a ∷ assignments) all = (all.0, all_known columns assignments all.1)

pub known_from : ((columns : List Column) (names : List (List ℕ)) → target_refusal columns names ≡ None → AllByRecursion (λ (name : List ℕ). (column : Column) × (column_called columns name ≡ Some column)) names)
    → (range : Range) (assignments : List Assignment) (columns : List Column) (names : List (List ℕ)) → columns ≡ range.1 → names ≡ map (λ (a : Assignment). a.column) assignments
    → None ≡ target_refusal columns names → AllByRecursion (IsKnown range.1) assignments
known_from law range assignments columns names cols nams none =
    all_known range.1 assignments (law range.1 (map (λ (a : Assignment). a.column) assignments) (sym (none ∙ ap₂ target_refusal cols nams)))

-- ---- what is referenced

or_parts : (a b c : Bool) → ((a || b) || c) ≡ (a || (b || c))
or_parts true b c = refl
or_parts false b c = refl

or_nothing : (b : Bool) → b ≡ (b || false)
or_nothing true = refl
or_nothing false = refl

any_append : {X : Type 0} (p : X → Bool) (xs ys : List X) → list_any p (xs ++ ys) ≡ (list_any p xs || list_any p ys)
any_append p [] ys = refl
any_append p (x ∷ xs) ys = ap (λ (b : Bool). p x || b) (any_append p xs ys) ∙ sym (or_parts (p x) (list_any p xs) (list_any p ys))

pub named_is : (range : Range) (update : Update) (settings : List Setting) (conditions : List Placed) (number : ℕ) (column : Column) → AreSettings range update.assignments settings
    → conditions ≡ conditions_over range update.condition
    → (list_any (λ name. is_called name column) (targets update) || (list_any (names_column 0 number) (set_trees settings) || list_any (names_column 0 number) conditions)) ≡ is_referenced range update (number, column)
named_is range update settings conditions number column all is =
    ap (λ (b : Bool). list_any (λ name. is_called name column) (targets update) || b)
    (ap₂ (λ (front back : List Placed). list_any (names_column 0 number) front || list_any (names_column 0 number) back) (trees_are range update.assignments settings all) is
    ∙ sym (any_append (names_column 0 number) (map (placed (range ∷ [])) (values update)) (conditions_over range update.condition))
    ∙ or_nothing (list_any (names_column 0 number) (expressions range update)))

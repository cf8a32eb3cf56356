-- Where no name is refused, each has its column.
use Rattle.std.proofs.Common.{◌≡◌, ◌+◌, ◌∙◌, ℕ, Bool, true, false, not, cond, ◌||◌, List, [], ◌∷◌, map, take, refl, ap}
use Rattle.std.specs.Prelude.{Option, Some, None}
use Rattle.std.specs.List.{AllByRecursion, cons_option, enumerate_from, find, list_any, zip}
use Rattle.std.specs.Str.{bytes_eq}
use Rattle.au_base.specs.declared.code.Code.{Code}
use Rattle.au_base.specs.declared.table.Column.{Column}
use Rattle.au_base.specs.Codes.{COLUMN_TWICE, UNKNOWN_COLUMN}
use Rattle.au_expr.specs.Names.{first, or_code}
use Rattle.au_expr.specs.Rows.{Range}
use Rattle.au_modify.specs.Columns.{column_called, columns_called, has_column, is_called}
use Rattle.au_modify.specs.Targets.{kind_code, kind_code_for, kind_code_of, kinds_refusal, target_code, target_refusal}
use Rattle.au_query.specs.Refusals.{where_broken}
use Rattle.sql_ast.specs.declared.expression.Expr.{Expr}

-- where there is neither code, there is not the one and not the other
pub neither : (a b : Option Code) → or_code a b ≡ None → (a ≡ None) × (b ≡ None)
neither None b is = (refl, is)
neither (Some code) b is = absurd (cc)

pub holds : (b : Bool) (code : Code) → where_broken (not b) code ≡ None → b ≡ true
holds true code is = refl
holds false code is = absurd (cc)

-- what some element passes is found
found_at : {X : Type 0} (x : X) (later : Option X) (any : Bool) → (any ≡ true → (y : X) × (later ≡ Some y)) → (b : Bool) → (b || any) ≡ true
    → (y : X) × (cond b (Some x) later ≡ Some y)
found_at x later any rest true is = (x, refl)
found_at x later any rest false is = rest is

pub found : {X : Type 0} (test : X → Bool) (xs : List X) → list_any test xs ≡ true → (x : X) × (find test xs ≡ Some x)
found test [] is = absurd (let e : false ≡ true = is in cc)
found test (x ∷ xs) is = found_at x (find test xs) (list_any test xs) (found test xs) (test x) is

-- ---- names that aren't refused

abbrev pub AreKnown : List Column → List (List ℕ) → Type 0
AreKnown columns names = AllByRecursion (λ name. has_column columns name ≡ true) names

known_from : (columns : List Column) (all : List (List ℕ)) (n : ℕ) (names : List (List ℕ)) → first (map (target_code columns all) (enumerate_from n names)) ≡ None → AreKnown columns names
known_from columns all n [] is = tt
known_from columns all n (name ∷ names) is =
    let parts = neither (target_code columns all (n, name)) (first (map (target_code columns all) (enumerate_from (n + 1) names))) is in
    let code = neither (where_broken (not (has_column columns name)) UNKNOWN_COLUMN) (where_broken (list_any (bytes_eq name) (take n all)) COLUMN_TWICE) parts.0 in
    (holds (has_column columns name) UNKNOWN_COLUMN code.0, known_from columns all (n + 1) names parts.1)

pub known : (columns : List Column) (names : List (List ℕ)) → target_refusal columns names ≡ None → AreKnown columns names
known columns names is = known_from columns names 0 names is

-- ---- kinds, one by one

at_column : (ranges : List Range) (columns : List Column) (name : List ℕ) (names : List (List ℕ)) (value : Expr) (values : List Expr) (found : Option Column) (column : Column) → found ≡ Some column
    → first (map (kind_code ranges) (zip (cons_option found (columns_called columns names)) (value ∷ values)))
    ≡ or_code (kind_code_for ranges value found) (kinds_refusal ranges columns names values)
at_column ranges columns name names value values None column is = absurd (cc)
at_column ranges columns name names value values (Some other) column is = refl

no_values : (ranges : List Range) (columns : List Column) → first (map (kind_code ranges) (zip columns [])) ≡ None
no_values ranges [] = refl
no_values ranges (column ∷ columns) = refl

pub one_by_one : (ranges : List Range) (columns : List Column) (names : List (List ℕ)) (values : List Expr) → AreKnown columns names
    → kinds_refusal ranges columns names values ≡ first (map (kind_code_of ranges columns) (zip names values))
one_by_one ranges columns [] values are = refl
one_by_one ranges columns (name ∷ names) [] are = no_values ranges (columns_called columns (name ∷ names))
one_by_one ranges columns (name ∷ names) (value ∷ values) are =
    let column = found (is_called name) columns are.0 in
    at_column ranges columns name names value values (column_called columns name) column.0 column.1
    ∙ ap (or_code (kind_code_of ranges columns (name, value))) (one_by_one ranges columns names values are.1)

-- ---- each name has a column

abbrev pub HasColumn : List Column → List ℕ → Type 0
HasColumn columns name = (column : Column) × (column_called columns name ≡ Some column)

columns_for : (columns : List Column) (names : List (List ℕ)) → AreKnown columns names → AllByRecursion (HasColumn columns) names
columns_for columns [] are = tt
columns_for columns (name ∷ names) are = (found (is_called name) columns are.0, columns_for columns names are.1)

pub have_columns : (columns : List Column) (names : List (List ℕ)) → target_refusal columns names ≡ None → AllByRecursion (HasColumn columns) names
have_columns columns names is = columns_for columns names (known columns names is)

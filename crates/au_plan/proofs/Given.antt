-- The cells that a statement gives for columns are of their kinds.
use Rattle.std.proofs.Common.{◌≡◌, ◌≢◌, ◌∙◌, ℕ, suc, zero, ◌<◌, ◌+◌, ◌⊎◌, ◌||◌, Bool, true, false, cond, not, List, [], ◌∷◌, map, length, get_or, refl, sym, ap, subst, arith, inl, inr}
use Rattle.std.specs.Prelude.{Option, None, Some}
use Rattle.std.specs.List.{AllByRecursion, AllZip, Contains, cons_option, enumerate_from, filter_map, find, list_any, zip}
use Rattle.std.specs.Str.{bytes_eq}
use Rattle.std.proofs.lemmas.List.{get_or_default}
use Rattle.std.proofs.lemmas.Slice.Eq.{bytes_eq-Decides}
use Rattle.au_base.specs.declared.cell.Cell.{Cell}
use Rattle.au_base.specs.declared.code.Code.{Code}
use Rattle.au_base.specs.declared.table.Column.{Column}
use Rattle.au_base.specs.Codes.{COLUMN_TWICE, UNKNOWN_COLUMN}
use Rattle.au_entries.specs.Replaying.{NamesDiffer}
use Rattle.au_expr.specs.Names.{first, or_code}
use Rattle.au_expr.specs.Resolving.{value_code}
use Rattle.au_expr.specs.Rows.{FitsColumns, IsOfKind, Range}
use Rattle.au_modify.specs.Columns.{column_called, columns_called, has_column, is_called}
use Rattle.au_modify.specs.Targets.{cell_or, given_or, is_given_for, kind_code, kinds_refusal, target_code, target_refusal}
use Rattle.au_query.specs.Refusals.{where_broken}
use Rattle.sql_ast.specs.declared.expression.Expr.{Expr}
use Rattle.au_plan.proofs.Members.{here, mapped_to, none, split, there}

-- ---- columns by their names

-- the first name stands once
apart : (name : List ℕ) (names : List (List ℕ)) → NamesDiffer (name ∷ names) → Contains names name → ⊥
apart name names differ (k, within, is) =
    differ 0 (suc k) (omega arith) (omega arith) (sym (get_or_default names k [] name within ∙ is))

later_differ : (name : List ℕ) (names : List (List ℕ)) → NamesDiffer (name ∷ names) → NamesDiffer names
later_differ name names differ i j before within = differ (suc i) (suc j) (omega arith) (omega arith)

called_at : (c : Column) (columns : List Column) (column : Column) (name : List ℕ) (b : Bool) → is_called name c ≡ b → NamesDiffer (map (λ (c : Column). c.name) (c ∷ columns)) → (c ≡ column) ⊎ Contains columns column
    → bytes_eq name column.name ≡ true → (Contains columns column → find (is_called name) columns ≡ Some column) → cond b (Some c) (find (is_called name) columns) ≡ Some column
called_at c columns column name true is differ (inl same) named later = ap Some same
called_at c columns column name true is differ (inr has) named later =
    let one : c.name ≡ column.name = (bytes_eq-Decides c.name name).0 is ∙ (bytes_eq-Decides name column.name).0 named in
    absurd (apart c.name (map (λ (c : Column). c.name) columns) differ (subst (λ n. Contains (map (λ (c : Column). c.name) columns) n) (sym one) (mapped_to (λ (c : Column). c.name) columns column has)))
called_at c columns column name false is differ (inl same) named later =
    let one : c.name ≡ name = ap (λ (c : Column). c.name) same ∙ sym ((bytes_eq-Decides name column.name).0 named) in
    absurd (let e : true ≡ false = sym ((bytes_eq-Decides c.name name).1 one) ∙ is in cc)
called_at c columns column name false is differ (inr has) named later = later has

-- a column is the one that its name means
called : (columns : List Column) → NamesDiffer (map (λ (c : Column). c.name) columns) → (column : Column) → Contains columns column → (name : List ℕ) → bytes_eq name column.name ≡ true
    → column_called columns name ≡ Some column
called [] differ column has name named = absurd (none column has)
called (c ∷ columns) differ column has name named =
    called_at c columns column name (is_called name c) refl differ (split c columns column has) named
    (λ later. called columns (later_differ c.name (map (λ (c : Column). c.name) columns) differ) column later name named)

-- ---- what is given

module _ (columns : List Column) (cell_of : Expr → Cell) where
  -- the cell that the expression gives is of the kind of the column that is named with it
  abbrev pub IsGivenInKind : List ℕ × Expr → Type 0
  IsGivenInKind p = (column : Column) → column_called columns p.0 ≡ Some column → IsOfKind column.kind (cell_of p.1)

  abbrev cell_given : List ℕ × Expr → List ℕ × Cell
  cell_given p = (p.0, cell_of p.1)

  given_at : (column : Column) (otherwise : Cell) (p : List ℕ × Expr) (rest : List (List ℕ × Cell)) (b : Bool) → bytes_eq p.0 column.name ≡ b → (b ≡ true → IsOfKind column.kind (cell_of p.1))
      → IsOfKind column.kind (cell_or otherwise (find (is_given_for column) rest)) → IsOfKind column.kind (cell_or otherwise (cond b (Some (cell_given p)) (find (is_given_for column) rest)))
  given_at column otherwise p rest true is here later = here refl
  given_at column otherwise p rest false is here later = later

  -- of each column, what is given for it is of its kind, or else what it has otherwise
  pub given_of_kind : NamesDiffer (map (λ (c : Column). c.name) columns) → (column : Column) → Contains columns column → (otherwise : Cell) → IsOfKind column.kind otherwise
      → (pairs : List (List ℕ × Expr)) → AllByRecursion IsGivenInKind pairs → IsOfKind column.kind (given_or otherwise (map cell_given pairs) column)
  given_of_kind differ column has otherwise is [] all = is
  given_of_kind differ column has otherwise is (p ∷ pairs) all =
      given_at column otherwise p (map cell_given pairs) (bytes_eq p.0 column.name) refl
      (λ named. all.0 column (called columns differ column has p.0 named))
      (given_of_kind differ column has otherwise is pairs all.1)

  -- ---- what no rule refuses

  module _ (ranges : List Range) (of_kind : (column : Column) (x : Expr) → value_code (Some column.kind) ranges x ≡ None → IsOfKind column.kind (cell_of x)) where
    first_none : (found later : Option Code) → or_code found later ≡ None → (found ≡ None) × (later ≡ None)
    first_none None later is = (refl, is)
    first_none (Some code) later is = absurd (let e : Some code ≡ None = is in cc)

    found_at : (c : Column) (cs : List Column) (name : List ℕ) (b : Bool) → is_called name c ≡ b → (find (is_called name) cs ≡ None → list_any (is_called name) cs ≡ false)
        → cond b (Some c) (find (is_called name) cs) ≡ None → (b || list_any (is_called name) cs) ≡ false
    found_at c cs name true same more is = absurd (let e : Some c ≡ None = is in cc)
    found_at c cs name false same more is = more is

    found_there : (cs : List Column) (name : List ℕ) → find (is_called name) cs ≡ None → list_any (is_called name) cs ≡ false
    found_there [] name is = refl
    found_there (c ∷ cs) name is = found_at c cs name (is_called name c) refl (found_there cs name) is

    pairs_at : (name : List ℕ) (names : List (List ℕ)) (value : Expr) (values : List Expr) (found : Option Column) → column_called columns name ≡ found → has_column columns name ≡ true
        → first (map (kind_code ranges) (zip (cons_option found (filter_map (column_called columns) names)) (value ∷ values))) ≡ None
        → (first (map (kind_code ranges) (zip (filter_map (column_called columns) names) values)) ≡ None → AllByRecursion IsGivenInKind (zip names values))
        → AllByRecursion IsGivenInKind (zip (name ∷ names) (value ∷ values))
    pairs_at name names value values None is known unrefused more =
        absurd (let e : true ≡ false = sym known ∙ found_there columns name is in cc)
    pairs_at name names value values (Some column) is known unrefused more =
        let parts = first_none (kind_code ranges (column, value)) (first (map (kind_code ranges) (zip (filter_map (column_called columns) names) values))) unrefused in
        (λ other called. let e : column ≡ other = (let both : Some column ≡ Some other = sym is ∙ called in cc) in subst (λ (c : Column). IsOfKind c.kind (cell_of value)) e (of_kind column value parts.0), more parts.1)

    pairs_of_kind : (names : List (List ℕ)) (values : List Expr) → AllByRecursion (λ name. has_column columns name ≡ true) names
        → kinds_refusal ranges columns names values ≡ None → AllByRecursion IsGivenInKind (zip names values)
    pairs_of_kind [] values known unrefused = tt
    pairs_of_kind (name ∷ names) [] known unrefused = tt
    pairs_of_kind (name ∷ names) (value ∷ values) known unrefused =
        pairs_at name names value values (column_called columns name) refl known.0 unrefused (pairs_of_kind names values known.1)

    known_at : (b : Bool) (later : Option Code) → or_code (where_broken (not b) UNKNOWN_COLUMN) later ≡ None → b ≡ true
    known_at true later is = refl
    known_at false later is = absurd (let e : Some UNKNOWN_COLUMN ≡ None = is in cc)

    all_known : (names rest : List (List ℕ)) (from : ℕ) → first (map (target_code columns names) (enumerate_from from rest)) ≡ None → AllByRecursion (λ name. has_column columns name ≡ true) rest
    all_known names [] from is = tt
    all_known names (name ∷ rest) from is =
        let parts = first_none (target_code columns names (from, name)) (first (map (target_code columns names) (enumerate_from (from + 1) rest))) is in
        (known_at (has_column columns name) _ parts.0, all_known names rest (from + 1) parts.1)

    -- where neither a target nor a kind is refused, what is given is of the kinds of its columns
    pub given_in_kind : (names : List (List ℕ)) (values : List Expr) → target_refusal columns names ≡ None → kinds_refusal ranges columns names values ≡ None → AllByRecursion IsGivenInKind (zip names values)
    given_in_kind names values known unrefused = pairs_of_kind names values (all_known names names 0 known) unrefused

-- ---- rows of such cells

-- a row with a cell of its kind for each column fits the columns
pub made_fits : (f : Column → Cell) (columns : List Column) → ((column : Column) → Contains columns column → IsOfKind column.kind (f column)) → FitsColumns columns (map f columns)
made_fits f [] each = tt
made_fits f (c ∷ columns) each = (each c (here c columns), made_fits f columns (λ column has. each column (there c columns column has)))

-- and so does one that is made of one that fits, column by column
pub remade_fits : (f : Column × Cell → Cell) (columns : List Column) (cells : List Cell) → FitsColumns columns cells
    → ((column : Column) (c : Cell) → Contains columns column → IsOfKind column.kind c → IsOfKind column.kind (f (column, c))) → FitsColumns columns (map f (zip columns cells))
remade_fits f [] [] fits each = tt
remade_fits f [] (c ∷ cells) fits each = absurd fits
remade_fits f (column ∷ columns) [] fits each = absurd fits
remade_fits f (column ∷ columns) (c ∷ cells) fits each =
    (each column c (here column columns) fits.0, remade_fits f columns cells fits.1 (λ other d has is. each other d (there column columns other has) is))

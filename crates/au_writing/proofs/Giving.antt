-- The cells that a statement gives columns.
use Rattle.std.proofs.Common.{◌≡◌, ◌≢◌, ◌∙◌, inl, inr, ℕ, zero, suc, ◌+◌, ◌<◌, Bool, true, false, not, List, [], ◌∷◌, length, map, get_or, refl, sym, ap, subst, arith}
use Rattle.std.specs.Prelude.{⊤, Option, Some, None}
use Rattle.std.specs.List.{AllByRecursion, Contains, cons_option, enumerate_from, find, slice_index_or, zip}
use Rattle.std.specs.Str.{bytes_eq}
use Rattle.std.proofs.lemmas.Slice.Eq.{bytes_eq-Decides}
use Rattle.au_base.specs.Codes.{UNKNOWN_COLUMN}
use Rattle.au_base.specs.declared.cell.Cell.{Cell}
use Rattle.au_base.specs.declared.code.Code.{Code}
use Rattle.au_base.specs.declared.table.Column.{Column}
use Rattle.au_entries.specs.Replaying.{NamesDiffer}
use Rattle.au_expr.specs.Names.{first}
use Rattle.au_expr.specs.Resolving.{value_code}
use Rattle.au_expr.specs.Rows.{Range}
use Rattle.au_modify.specs.Columns.{column_called, columns_called, has_column, is_called}
use Rattle.au_modify.specs.Targets.{cell_or, given_or, is_given_for, kind_code, kinds_refusal, target_code, target_refusal}
use Rattle.au_query.specs.Refusals.{where_broken}
use Rattle.au_writing.proofs.Fitting.{unbroken, unrefused}
use Rattle.au_writing.proofs.Lists.{all_at, all_from, first_of, found_from, none, split}
use Rattle.sql_ast.specs.declared.expression.Expr.{Expr}

-- where nothing has a code, each has none
pub each_none : {X : Type 0} (code : X → Option Code) (xs : List X) → first (map code xs) ≡ None → AllByRecursion (λ (x : X). code x ≡ None) xs
each_none code [] is = tt
each_none code (x ∷ xs) is = let parts = unrefused (code x) (first (map code xs)) is in (parts.0, each_none code xs parts.1)

same_bytes : (a b : List ℕ) → bytes_eq a b ≡ true → a ≡ b
same_bytes a b is = (bytes_eq-Decides a b).0 is

-- ---- columns by their names

-- no two of the columns have one name
abbrev AreNamedApart : List Column → Type 0
AreNamedApart [] = ⊤
AreNamedApart (column ∷ columns) = AllByRecursion (λ (other : Column). column.name ≢ other.name) columns × AreNamedApart columns

name_at : (columns : List Column) (k : ℕ) (column : Column) → k < length columns → slice_index_or columns k column ≡ column → get_or (map (λ (c : Column). c.name) columns) k [] ≡ column.name
name_at [] k column within is = absurd (omega (arith, within))
name_at (c ∷ columns) zero column within is = ap (λ (x : Column). x.name) is
name_at (c ∷ columns) (suc k) column within is = name_at columns k column (omega (arith, within)) is

map_length : (columns : List Column) → length (map (λ (c : Column). c.name) columns) ≡ length columns
map_length [] = refl
map_length (c ∷ columns) = ap suc (map_length columns)

named_apart : (columns : List Column) → NamesDiffer (map (λ (c : Column). c.name) columns) → AreNamedApart columns
named_apart [] differ = tt
named_apart (column ∷ columns) differ = (
  all_from (λ (other : Column). column.name ≢ other.name) columns (λ other (k, within, is) same.
      let count = map_length columns in differ 0 (suc k) (omega arith) (omega (arith, within, count)) (same ∙ sym (name_at columns k other within is))),
  named_apart columns (λ i j before within. differ (suc i) (suc j) (omega (arith, before)) (omega (arith, within))),
)

-- one column has one name
one_column : (columns : List Column) → AreNamedApart columns → (a b : Column) → Contains columns a → Contains columns b → a.name ≡ b.name → a ≡ b
one_column [] apart a b one two same = absurd (none a one)
one_column (column ∷ columns) apart a b one two same = elim (split column columns a one) [
  | inl first ↦ elim (split column columns b two) [
    | inl other ↦ sym first ∙ other
    | inr later ↦ absurd (all_at (λ (other : Column). column.name ≢ other.name) columns apart.0 b later (ap (λ (c : Column). c.name) first ∙ same))
  ]
  | inr front ↦ elim (split column columns b two) [
    | inl other ↦ absurd (all_at (λ (other : Column). column.name ≢ other.name) columns apart.0 a front (ap (λ (c : Column). c.name) other ∙ sym same))
    | inr later ↦ one_column columns apart.1 a b front later same
  ]
]

-- ---- the columns that get values

-- the name is that of this column
pub record IsCalled (columns : List Column) (name : List ℕ) (column : Column) : Type 0 where
  pub has : Contains columns column
  pub called : column.name ≡ name
  pub found : column_called columns name ≡ Some column

abbrev pub HasColumn : List Column → List ℕ → Type 0
HasColumn columns name = (column : Column) × IsCalled columns name column

called : (columns : List Column) (name : List ℕ) → has_column columns name ≡ true → HasColumn columns name
called columns name has =
    let (column, is) = first_of (is_called name) columns has in
    (column, record { has = is.has; called = same_bytes column.name name is.passes; found = is.found })

not_false : (b : Bool) → not b ≡ false → b ≡ true
not_false true is = refl
not_false false is = absurd (let e : true ≡ false = is in cc)

targets_from : (columns : List Column) (all : List (List ℕ)) (at : ℕ) (names : List (List ℕ)) → first (map (target_code columns all) (enumerate_from at names)) ≡ None → AllByRecursion (HasColumn columns) names
targets_from columns all at [] is = tt
targets_from columns all at (name ∷ names) is =
    let parts = unrefused (target_code columns all (at, name)) (first (map (target_code columns all) (enumerate_from (at + 1) names))) is in
    let known = unrefused (where_broken (not (has_column columns name)) UNKNOWN_COLUMN) _ parts.0 in
    (called columns name (not_false (has_column columns name) (unbroken (not (has_column columns name)) UNKNOWN_COLUMN known.0)), targets_from columns all (at + 1) names parts.1)

pub targets_there : (columns : List Column) (names : List (List ℕ)) → target_refusal columns names ≡ None → AllByRecursion (HasColumn columns) names
targets_there columns names is = targets_from columns names 0 names is

-- the value is of the kind of the column with the name
pub record IsPaired (ranges : List Range) (columns : List Column) (pair : List ℕ × Expr) (column : Column) : Type 0 where
  pub called : IsCalled columns pair.0 column
  pub kind : value_code (Some column.kind) ranges pair.1 ≡ None

abbrev pub HasPair : List Range → List Column → List ℕ × Expr → Type 0
HasPair ranges columns pair = (column : Column) × IsPaired ranges columns pair column

first_called : (columns : List Column) (name : List ℕ) (names : List (List ℕ)) (column : Column) → column_called columns name ≡ Some column → columns_called columns (name ∷ names) ≡ column ∷ columns_called columns names
first_called columns name names column found = ap (λ (o : Option Column). cons_option o (columns_called columns names)) found

pub pairs_kind : (ranges : List Range) (columns : List Column) (names : List (List ℕ)) (values : List Expr) → AllByRecursion (HasColumn columns) names → kinds_refusal ranges columns names values ≡ None
    → AllByRecursion (HasPair ranges columns) (zip names values)
pairs_kind ranges columns [] values all is = tt
pairs_kind ranges columns (name ∷ names) [] all is = tt
pairs_kind ranges columns (name ∷ names) (value ∷ values) all is =
    let (column, of) = all.0 in
    let parts = unrefused (kind_code ranges (column, value)) (first (map (kind_code ranges) (zip (columns_called columns names) values)))
    (subst (λ (cs : List Column). first (map (kind_code ranges) (zip cs (value ∷ values))) ≡ None) (first_called columns name names column of.found) is) in
    ((column, record { called = of; kind = parts.0 }), pairs_kind ranges columns names values all.1 parts.1)

-- ---- the cell that comes to stand in a column

-- a cell that is given for a column
pub given_case : (P : Cell → Type 0) (otherwise : Cell) (given : List (List ℕ × Cell)) (column : Column) → P otherwise → ((p : List ℕ × Cell) → Contains given p → p.0 ≡ column.name → P p.1) → P (given_or otherwise given column)
given_case P otherwise given column none some = by_case (find (is_given_for column) given) refl
  where
    by_case : (o : Option (List ℕ × Cell)) → find (is_given_for column) given ≡ o → P (cell_or otherwise o)
    by_case None is = none
    by_case (Some p) is = let (has, passes) = found_from (is_given_for column) given p is in some p has (same_bytes p.0 column.name passes)

-- the column that a name is of, where names differ
pub same_column : (columns : List Column) → NamesDiffer (map (λ (c : Column). c.name) columns) → (name : List ℕ) (a b : Column) → IsCalled columns name a → Contains columns b → name ≡ b.name → a ≡ b
same_column columns differ name a b is has same = one_column columns (named_apart columns differ) a b is.has has (is.called ∙ same)

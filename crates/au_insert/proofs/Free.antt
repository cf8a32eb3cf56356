-- Values that nothing refuses resolve, and are no truths.
use Rattle.std.proofs.Common.{◌≡◌, ◌≢◌, ◌∙◌, ◌≤◌, ℕ, Bool, true, false, cond, List, [], ◌∷◌, length, map, refl, sym, ap, arith}
use Rattle.std.specs.Prelude.{Option, Some, None, nat_lt}
use Rattle.std.specs.List.{AllByRecursion, zip}
use Rattle.std.proofs.lemmas.Bool.Decides.{nat_tests}
use Rattle.au_base.specs.declared.code.Code.{Code}
use Rattle.au_base.specs.declared.table.Column.{Column}
use Rattle.au_base.specs.declared.table.ColumnKind.{ColumnKind}
use Rattle.au_base.specs.Codes.{TOO_FEW_VALUES, TOO_MANY_VALUES, WRONG_KIND}
use Rattle.au_expr.specs.declared.kind.ExprKind.{ExprKind}
use Rattle.au_expr.specs.declared.kind.ExprKind.TheVariants.{Any, Truth, Of}
use Rattle.au_expr.specs.declared.placed.Placed.{Placed}
use Rattle.au_expr.specs.Kinds.{goes_with, kind, kind_at}
use Rattle.au_expr.specs.Names.{first, name_code, or_code}
use Rattle.au_expr.specs.Resolving.{IsResolved, kind_code, refusal}
use Rattle.au_insert.specs.Inside.{IsFree, listed_code, written_code}
use Rattle.au_modify.specs.Columns.{column_called}
use Rattle.au_modify.specs.Targets.{kind_code_for, kind_code_of, kinds_refusal, names_refusal, target_refusal}
use Rattle.au_query.specs.Refusals.{where_broken}
use Rattle.sql_ast.specs.declared.expression.Expr.{Expr}

pub neither : (a b : Option Code) → or_code a b ≡ None → (a ≡ None) × (b ≡ None)
neither None b is = (refl, is)
neither (Some code) b is = absurd (cc)

unbroken : (b : Bool) (code : Code) → where_broken b code ≡ None → b ≡ false
unbroken true code is = absurd (cc)
unbroken false code is = refl

right : (b : Bool) → cond b None (Some WRONG_KIND) ≡ None → b ≡ true
right true is = refl
right false is = absurd (cc)

-- the kind of a value that nothing refuses goes with that of its column
goes : (value : Expr) (free : IsFree value) → (name_code [] value ≡ None) × (goes_with free.0 (kind [] value) ≡ true)
goes value free =
    let parts = neither (name_code [] value) (cond (goes_with free.0 (kind [] value)) None (Some WRONG_KIND)) free.1 in
    (parts.0, right (goes_with free.0 (kind [] value)) parts.1)

no_truth : (wanted : ColumnKind) (k : ExprKind) → goes_with wanted (Some k) ≡ true → k ≢ Truth
no_truth wanted Any goes is = cc
no_truth wanted Truth goes is = let e : false ≡ true = goes in cc
no_truth wanted (Of k) goes is = cc

pub resolves_as_cell : (value : Expr) → IsFree value → (tree : Placed) → IsResolved [] value tree → kind_at tree ≢ Truth
resolves_as_cell value free tree is = no_truth free.0 (kind_at tree) (sym (ap (goes_with free.0) is.kind) ∙ (goes value free).1)

some_kind : (wanted : ColumnKind) (k : Option ExprKind) → goes_with wanted k ≡ true → kind_code k ≡ None
some_kind wanted None goes = absurd (let e : false ≡ true = goes in cc)
some_kind wanted (Some k) goes = refl

none_none : (a b : Option Code) → a ≡ None → b ≡ None → or_code a b ≡ None
none_none None b first second = second
none_none (Some code) b first second = absurd (cc)

no_code : (found : Option Code) (code : Code) → found ≡ None → found ≡ Some code → ⊥
no_code found code none some = cc

pub isnt_refused : (value : Expr) (code : Code) → IsFree value → refusal [] value ≡ Some code → ⊥
isnt_refused value code free is =
    let parts = goes value free in
    no_code (refusal [] value) code (none_none (name_code [] value) (kind_code (kind [] value)) parts.0 (some_kind free.0 (kind [] value) parts.1)) is

-- ---- values of known columns

free_at : (columns : List Column) (value : Expr) (found : Option Column) (column : Column) → found ≡ Some column → kind_code_for [] value found ≡ None → IsFree value
free_at columns value None column is code = absurd (cc)
free_at columns value (Some other) column is code = (other.kind, code)

free_by_columns : (columns : List Column) (names : List (List ℕ)) (values : List Expr) → AllByRecursion (λ (name : List ℕ). (column : Column) × (column_called columns name ≡ Some column)) names
    → length values ≤ length names → first (map (kind_code_of [] columns) (zip names values)) ≡ None → AllByRecursion IsFree values
free_by_columns columns names [] known few codes = tt
free_by_columns columns [] (value ∷ values) known few codes = absurd (omega arith)
free_by_columns columns (name ∷ names) (value ∷ values) known few codes =
    let parts = neither (kind_code_of [] columns (name, value)) (first (map (kind_code_of [] columns) (zip names values))) codes in (
      free_at columns value (column_called columns name) known.0.0 known.0.1 parts.0,
      free_by_columns columns names values known.1 (omega arith) parts.1,
    )

not_less : (a b : ℕ) → nat_lt a b ≡ false → b ≤ a
not_less a b is = grind (arith, nat_tests)

-- what `kinds_are_told_one_by_one` and `targets_are_columns` say
module _ (one_by_one : (columns : List Column) (names : List (List ℕ)) (values : List Expr) → target_refusal columns names ≡ None
    → kinds_refusal [] columns names values ≡ first (map (kind_code_of [] columns) (zip names values)))
    (have_columns : (columns : List Column) (names : List (List ℕ)) → target_refusal columns names ≡ None
    → AllByRecursion (λ (name : List ℕ). (column : Column) × (column_called columns name ≡ Some column)) names) where
  pub free_values : (columns : List Column) (names : List (List ℕ)) (values : List Expr) → written_code columns names values ≡ None → AllByRecursion IsFree values
  free_values columns names values is =
      let parts = neither (listed_code columns names (length values)) (or_code (names_refusal [] values) (or_code (kinds_refusal [] columns names values) None)) is in
      let kinds = (neither (kinds_refusal [] columns names values) None (neither (names_refusal [] values) (or_code (kinds_refusal [] columns names values) None) parts.1).1).0 in
      let listed = neither (target_refusal columns names)
      (or_code (where_broken (nat_lt (length names) (length values)) TOO_MANY_VALUES) (or_code (where_broken (nat_lt (length values) (length names)) TOO_FEW_VALUES) None)) parts.0 in
      let few = unbroken (nat_lt (length names) (length values)) TOO_MANY_VALUES
      (neither (where_broken (nat_lt (length names) (length values)) TOO_MANY_VALUES) (or_code (where_broken (nat_lt (length values) (length names)) TOO_FEW_VALUES) None) listed.1).0 in
      free_by_columns columns names values (have_columns columns names listed.0) (not_less (length names) (length values) few)
      (sym (one_by_one columns names values listed.0) ∙ kinds)

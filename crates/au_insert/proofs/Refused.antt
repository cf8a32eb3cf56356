-- The first rule that the columns and values of an INSERT break.
use Rattle.std.proofs.Common.{◌≡◌, ◌∙◌, ℕ, Bool, true, false, List, map, refl, sym, ap, ap₂, subst}
use Rattle.std.specs.Prelude.{Option, Some, None, Ok, Err}
use Rattle.std.specs.List.{list_any}
use Rattle.au_base.specs.declared.cell.Cell.{Cell}
use Rattle.au_base.specs.declared.code.Code.{Code}
use Rattle.au_base.specs.declared.table.Column.{Column}
use Rattle.au_base.specs.Codes.{OVERFLOW}
use Rattle.au_expr.specs.Names.{or_code}
use Rattle.au_expr.specs.Sessions.{Session}
use Rattle.au_insert.specs.Inserting.{cell_of, listed_refusal, new_row, targets, value_overflows, value_refusal}
use Rattle.au_insert.specs.Inside.{MakesRow, fits, given_row, written_code}
use Rattle.au_query.specs.Refusals.{where_broken}
use Rattle.sql_ast.specs.declared.rows.Insert.{Insert}

early_at : (listed names kinds rest : Option Code) (code : Code) → or_code listed (or_code names (or_code kinds None)) ≡ Some code → or_code listed (or_code names (or_code kinds rest)) ≡ Some code
early_at (Some a) names kinds rest code is = is
early_at None (Some a) kinds rest code is = is
early_at None None (Some a) rest code is = is
early_at None None None rest code is = absurd (cc)

late_at : (listed names kinds rest : Option Code) → or_code listed (or_code names (or_code kinds None)) ≡ None → or_code listed (or_code names (or_code kinds rest)) ≡ rest
late_at (Some a) names kinds rest is = absurd (cc)
late_at None (Some a) kinds rest is = absurd (cc)
late_at None None (Some a) rest is = absurd (cc)
late_at None None None rest is = refl

over_at : (b : Bool) (rest : Option Code) → b ≡ true → or_code (where_broken b OVERFLOW) rest ≡ Some OVERFLOW
over_at true rest is = refl
over_at false rest is = absurd (cc)

under_at : (b : Bool) (rest : Option Code) → b ≡ false → or_code (where_broken b OVERFLOW) rest ≡ rest
under_at true rest is = absurd (cc)
under_at false rest is = refl

alone : (code : Option Code) → or_code code None ≡ code
alone None = refl
alone (Some code) = refl

module _ (session : Session) (columns : List Column) (insert : Insert) where
  abbrev overflow : Option Code
  overflow = where_broken (list_any (value_overflows session) insert.values) OVERFLOW

  abbrev behind : Option Code
  behind = or_code overflow (or_code (fits columns (new_row session columns insert)) None)

  pub written : (code : Code) (names : List (List ℕ)) → names ≡ targets columns insert → written_code columns names insert.values ≡ Some code → MakesRow session columns insert (Err code)
  written code names are is =
      let same : written_code columns (targets columns insert) insert.values ≡ Some code = subst (λ (x : List (List ℕ)). written_code columns x insert.values ≡ Some code) are is in
      early_at (listed_refusal columns insert) _ _ behind code same

  unwritten : (names : List (List ℕ)) → names ≡ targets columns insert → written_code columns names insert.values ≡ None
      → or_code (listed_refusal columns insert) (value_refusal session columns insert) ≡ behind
  unwritten names are is =
      let same : written_code columns (targets columns insert) insert.values ≡ None = subst (λ (x : List (List ℕ)). written_code columns x insert.values ≡ None) are is in
      late_at (listed_refusal columns insert) _ _ behind same

  pub overflown : (names : List (List ℕ)) → names ≡ targets columns insert → written_code columns names insert.values ≡ None → list_any (value_overflows session) insert.values ≡ true
      → MakesRow session columns insert (Err OVERFLOW)
  overflown names are is over = unwritten names are is ∙ over_at (list_any (value_overflows session) insert.values) (or_code (fits columns (new_row session columns insert)) None) over

  -- the row of the cells that the values give
  module _ (names : List (List ℕ)) (given cells : List Cell) (are : names ≡ targets columns insert) (unbroken : written_code columns names insert.values ≡ None)
      (small : list_any (value_overflows session) insert.values ≡ false) (gives : given ≡ map (cell_of session) insert.values) (row : cells ≡ given_row columns names given) where
    same_row : cells ≡ new_row session columns insert
    same_row = row ∙ ap₂ (given_row columns) are gives

    by_row : or_code (listed_refusal columns insert) (value_refusal session columns insert) ≡ fits columns cells
    by_row =
        unwritten names are unbroken
        ∙ under_at (list_any (value_overflows session) insert.values) (or_code (fits columns (new_row session columns insert)) None) small
        ∙ alone (fits columns (new_row session columns insert))
        ∙ ap (fits columns) (sym same_row)

    pub unfit : (code : Code) → fits columns cells ≡ Some code → MakesRow session columns insert (Err code)
    unfit code is = by_row ∙ is

    pub fitting : fits columns cells ≡ None → MakesRow session columns insert (Ok (record { cells = cells; named = names }))
    fitting is = (by_row ∙ is, λ i. record { cells = same_row i; named = are i })

-- What a column alone gives and names.
use Rattle.std.proofs.Common.{◌≡◌, ◌∙◌, refl, sym, ap, ℕ, Bool, true, false, ◌||◌, ◌&&◌, List, [], ◌∷◌}
use Rattle.std.specs.Prelude.{◌==◌}
use Rattle.std.specs.List.{list_any}
use Rattle.au_base.specs.declared.cell.Cell.{Cell}
use Rattle.au_expr.specs.declared.placed.Place.{Place}
use Rattle.au_expr.specs.declared.placed.Placed.TheOpen as part
use Rattle.au_expr.specs.declared.placed.Placed.TheVariants as tree
use Rattle.au_expr.specs.declared.placed.Placed.TheFolds.{fold-roll-Placed}
use Rattle.au_expr.specs.Placing.{cell_at, value_at, step}
use Rattle.au_expr.specs.Ranges as ranges
use Rattle.au_expr.specs.Ranges.{columns_in, names_column}
use Rattle.au_expr.specs.Sessions.{Session}
use Rattle.au_expr.specs.Values.{Value, cell_in, is_overflow}
use Rattle.au_query.specs.Combos.{Line, cells_of, overflows_over}

or_false : (a : Bool) → (a || false) ≡ a
or_false true = refl
or_false false = refl

pub column_value : (rows : List (List Cell)) (session : Session) (place : Place) → cell_in (value_at rows session (tree.Column place)) ≡ cell_at rows place
column_value rows session place = ap (λ t. cell_in (value_at rows session t)) (sym (tree.rolls-Column place)) ∙ ap cell_in (fold-roll-Placed Value (step rows session) (part.Column place))

pub column_names : (range column : ℕ) (place : Place) → names_column range column (tree.Column place) ≡ (place.range == range && place.column == column)
column_names range column place =
    ap (names_column range column) (sym (tree.rolls-Column place))
    ∙ ap (list_any (λ (p : Place). p.range == range && p.column == column)) (fold-roll-Placed (List Place) ranges.step (part.Column place))
    ∙ or_false (place.range == range && place.column == column)

-- a column never overflows
pub column_stands : (rows : List (List Cell)) (session : Session) (place : Place) → is_overflow (value_at rows session (tree.Column place)) ≡ false
column_stands rows session place = ap (λ t. is_overflow (value_at rows session t)) (sym (tree.rolls-Column place)) ∙ ap is_overflow (fold-roll-Placed Value (step rows session) (part.Column place))

pub column_never : (session : Session) (place : Place) (all : List (List Line)) → list_any (overflows_over session (tree.Column place)) all ≡ false
column_never session place [] = refl
column_never session place (combo ∷ all) = ap (λ b. b || list_any (overflows_over session (tree.Column place)) all) (column_stands (cells_of combo) session place) ∙ column_never session place all

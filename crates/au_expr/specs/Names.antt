-- Which column a name means, and the first name of an expression that means none or more than one (SQL Language
-- Reference, "Column Expressions" and "Database Object Names and Qualifiers"; the codes are this project's own table).
use Rattle.std.specs.Prelude.{◌≡◌, ℕ, List, [], ◌∷◌, map, Option, Some, None, Result, Ok, Err, if◌then◌else◌}
use Rattle.std.specs.List.{enumerate_from, filter, flat_map}
use Rattle.std.specs.Str.{bytes_eq}
use Rattle.au_base.specs.declared.code.Code.{Code}
use Rattle.au_base.specs.declared.table.Column.{Column}
use Rattle.au_base.specs.Codes.{UNKNOWN_COLUMN, AMBIGUOUS_COLUMN}
use Rattle.sql_ast.specs.declared.expression.Expr.{Expr}
use Rattle.sql_ast.specs.declared.expression.Expr.TheOpen as part
use Rattle.sql_ast.specs.declared.expression.Expr.TheFolds.{fold-Expr}
use Rattle.au_expr.specs.declared.placed.Place.{Place}
use Rattle.au_expr.specs.Rows.{Range, is_range}

abbrev pub place_of : ℕ → ℕ × Column → Place
place_of range p = record { range = range; column = p.0; kind = p.1.kind }

-- the places of the columns of this name in a range
abbrev pub places_in : ℕ → List ℕ → List Column → List Place
places_in range name columns = map (place_of range) (filter (λ (p : ℕ × Column). bytes_eq p.1.name name) (enumerate_from 0 columns))

abbrev pub places_of : Option (List ℕ) → List ℕ → ℕ × Range → List Place
places_of written name p = if is_range written p.1.0 then places_in p.0 name p.1.1 else []

-- the places of the columns of this name, in the ranges of the name that is written before it or in all of them
abbrev pub places : List Range → Option (List ℕ) → List ℕ → List Place
places ranges written name = flat_map (places_of written name) (enumerate_from 0 ranges)

-- 904 where the name means no column, 918 where it means more than one
abbrev pub code_of : List Place → Option Code
code_of [] = Some UNKNOWN_COLUMN
code_of (place ∷ []) = None
code_of (place ∷ _ ∷ _) = Some AMBIGUOUS_COLUMN

-- what a look-up of the name answers: the one place, and else the code
abbrev pub Finds : List Place → Result Place Code → Type 0
Finds found (Ok place) = found ≡ place ∷ []
Finds found (Err code) = code_of found ≡ Some code

abbrev pub or_code : Option Code → Option Code → Option Code
or_code (Some code) later = Some code
or_code None later = later

-- the first code in written order
abbrev pub first : List (Option Code) → Option Code
first [] = None
first (code ∷ codes) = or_code code (first codes)

abbrev pub step : List Range → part.Expr-F (Option Code) → Option Code
step ranges (part.Or parts) = first parts
step ranges (part.And parts) = first parts
step ranges (part.Not a) = a
step ranges (part.Compare asked a b) = first (a ∷ b ∷ [])
step ranges (part.IsNull a negated) = a
step ranges (part.Like text pattern negated) = first (text ∷ pattern ∷ [])
step ranges (part.In a choices negated) = first (a ∷ choices)
step ranges (part.Between a low high negated) = first (a ∷ low ∷ high ∷ [])
step ranges (part.Sum parts) = first (map (λ p. p.1) parts)
step ranges (part.Product parts) = first parts
step ranges (part.Negate a) = a
step ranges (part.Column written name) = code_of (places ranges written name)
step ranges _ = None

-- the code of the first column, in written order, whose name doesn't mean one column
abbrev pub name_code : List Range → Expr → Option Code
name_code ranges = fold-Expr (Option Code) (step ranges)

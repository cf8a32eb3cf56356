-- The codes of names, of conditions and of values are small.
use Rattle.std.proofs.Common.{◌≡◌, ◌<◌, ◌^◌, Bool, true, false, List, [], ◌∷◌, map, Option, Some, None, refl, arith}
use Rattle.std.specs.Prelude.{⊤, if◌then◌else◌}
use Rattle.std.specs.List.{AllByRecursion}
use Rattle.au_base.specs.Codes.{WRONG_KIND}
use Rattle.au_base.specs.declared.code.Code.{Code}
use Rattle.au_expr.specs.declared.placed.Place.{Place}
use Rattle.au_expr.specs.Kinds.{kind}
use Rattle.au_expr.specs.Names.{code_of as place_code, first, name_code, or_code}
use Rattle.au_expr.specs.Resolving.{condition_code, is_value, value_code}
use Rattle.au_expr.specs.Rows.{Range}
use Rattle.au_query.specs.Refusals.{code_if_there, where_broken}
use Rattle.au_ruling.proofs.Lists.{all_mapped}
use Rattle.sql_ast.specs.declared.expression.Expr.{Expr}
use Rattle.au_base.specs.declared.table.ColumnKind.{ColumnKind}

-- ---- what is known below

abbrev pub NamesFit : Type 0
NamesFit = (ranges : List Range) (x : Expr) (code : Code) → name_code ranges x ≡ Some code → code.0 < 2 ^ 32

abbrev pub ConditionsFit : Type 0
ConditionsFit = (ranges : List Range) (x : Expr) (code : Code) → condition_code ranges x ≡ Some code → code.0 < 2 ^ 32

-- ---- codes that are there

-- a code, where there is one, is small
abbrev pub Fits : Option Code → Type 0
Fits None = ⊤
Fits (Some code) = code.0 < 2 ^ 32

pub some_fits : (asked : Option Code) → ((code : Code) → asked ≡ Some code → code.0 < 2 ^ 32) → Fits asked
some_fits None small = tt
some_fits (Some code) small = small code refl

pub or_fits : (a b : Option Code) → Fits a → Fits b → Fits (or_code a b)
or_fits None b left right = right
or_fits (Some code) b left right = left

pub places_fit : (found : List Place) → Fits (place_code found)
places_fit [] = omega arith
places_fit (place ∷ []) = tt
places_fit (place ∷ other ∷ found) = omega arith

pub first_fits : (codes : List (Option Code)) → AllByRecursion Fits codes → Fits (first codes)
first_fits [] all = tt
first_fits (code ∷ codes) all = or_fits code (first codes) all.0 (first_fits codes all.1)

pub broken_fits : (broken : Bool) (code : Code) → code.0 < 2 ^ 32 → Fits (where_broken broken code)
broken_fits true code small = small
broken_fits false code small = tt

pub kind_fits : (is_kind : Bool) → Fits (if is_kind then None else Some WRONG_KIND)
kind_fits true = tt
kind_fits false = omega arith

pub there_fits : (code : Expr → Option Code) → ((e : Expr) → Fits (code e)) → (asked : Option Expr) → Fits (code_if_there code asked)
there_fits code fits None = tt
there_fits code fits (Some e) = fits e

-- the first code of some values
pub first_mapped : {A : Type 0} (code : A → Option Code) → ((x : A) → Fits (code x)) → (xs : List A) → Fits (first (map code xs))
first_mapped code fits xs = first_fits (map code xs) (all_mapped Fits code fits xs)

-- ---- the codes of expressions

pub names_fit : NamesFit → (ranges : List Range) (e : Expr) → Fits (name_code ranges e)
names_fit names ranges e = some_fits (name_code ranges e) (names ranges e)

pub condition_fits : ConditionsFit → (ranges : List Range) (e : Expr) → Fits (condition_code ranges e)
condition_fits conditions ranges e = some_fits (condition_code ranges e) (conditions ranges e)

pub value_fits : NamesFit → (wanted : Option ColumnKind) (ranges : List Range) (e : Expr) → Fits (value_code wanted ranges e)
value_fits names wanted ranges e = or_fits (name_code ranges e) _ (names_fit names ranges e) (kind_fits (is_value wanted (kind ranges e)))

-- ---- codes that are small

abbrev pub IsSmall : Code → Type 0
IsSmall code = code.0 < 2 ^ 32

-- The code of a query: the first rule that it breaks (the rules and their order are this project's profile).
use Rattle.std.specs.Prelude.{ℕ, Bool, nat_lt, List, [], ◌∷◌, ◌++◌, map, take, length, Option, None, Some, if◌then◌else◌}
use Rattle.std.specs.List.{enumerate_from}
use Rattle.au_base.specs.declared.code.Code.{Code}
use Rattle.au_base.specs.Codes.{OVERFLOW, TOO_MANY_COMBINATIONS, TOO_MANY_ROWS}
use Rattle.au_base.specs.Limits.{COMBINATIONS, FROM_TABLES, REPLY_ROWS}
use Rattle.sql_ast.specs.declared.expression.Expr.{Expr}
use Rattle.sql_ast.specs.declared.query.Item.{Item}
use Rattle.sql_ast.specs.declared.query.Items.{Items}
use Rattle.sql_ast.specs.declared.query.Items.TheVariants as items
use Rattle.sql_ast.specs.declared.query.Join.{Join}
use Rattle.sql_ast.specs.declared.query.Select.{Select}
use Rattle.sql_ast.specs.declared.query.SortKey.{SortKey}
use Rattle.au_expr.specs.Names.{code_of, first, name_code, places}
use Rattle.au_expr.specs.Resolving.{condition_code, value_code}
use Rattle.au_expr.specs.Rows.{Range}
use Rattle.au_expr.specs.Sessions.{Session}
use Rattle.au_query.specs.Combos.{Line, combos, overflows, product_size}
use Rattle.au_query.specs.Queries.{Query, keys_in, query_of}

-- the code where the rule is broken
abbrev pub where_broken : Bool → Code → Option Code
where_broken broken code = if broken then Some code else None

-- a code of each item
abbrev pub item_codes : (Expr → Option Code) → Items → List (Option Code)
item_codes code items.All = []
item_codes code (items.Listed list) = map (λ (item : Item). code item.value) list

abbrev pub code_if_there : (Expr → Option Code) → Option Expr → Option Code
code_if_there code None = None
code_if_there code (Some x) = code x

-- a code of each ON, over the ranges up to its own, the first of which is over 2
abbrev pub on_code : (List Range → Expr → Option Code) → List Range → ℕ × Join → Option Code
on_code code ranges p = code_if_there (code (take p.0 ranges)) p.1.on

abbrev pub on_codes : (List Range → Expr → Option Code) → List Range → List Join → List (Option Code)
on_codes code ranges joins = map (on_code code ranges) (enumerate_from 2 joins)

-- a code of WHERE
abbrev pub where_code : (List Range → Expr → Option Code) → List Range → Option Expr → Option Code
where_code code ranges condition = code_if_there (code ranges) condition

-- 904 or 918 of a key of the order
abbrev pub key_code : List Range → SortKey → Option Code
key_code ranges key = code_of (places ranges key.table key.column)

abbrev pub key_codes : List Range → Option (List SortKey) → List (Option Code)
key_codes ranges order = map (key_code ranges) (keys_in order)

-- the first 904 or 918 in written order: items, ON, WHERE, ORDER BY
abbrev pub name_refusal : List Range → Select → Option Code
name_refusal ranges select =
    first (
    first (item_codes (name_code ranges) select.items)
    ∷ first (on_codes name_code ranges select.from.joins)
    ∷ where_code name_code ranges select.condition
    ∷ first (key_codes ranges select.order)
    ∷ []
    )

-- the first 932 in written order, where no name is refused: an item is a value, and a condition is a truth
abbrev pub kind_refusal : List Range → Select → Option Code
kind_refusal ranges select =
    first (
    first (item_codes (value_code None ranges) select.items)
    ∷ first (on_codes condition_code ranges select.from.joins)
    ∷ where_code condition_code ranges select.condition
    ∷ []
    )

-- over 8 tables; over 10,000,000 combinations; an overflow over any of them, also over one that no condition lets
-- through; over 100,000 rows
abbrev pub too_many_tables : List Range → Option Code
too_many_tables ranges = where_broken (nat_lt FROM_TABLES (length ranges)) TOO_MANY_COMBINATIONS

abbrev pub too_many_combinations : List (List Line) → Option Code
too_many_combinations views = where_broken (nat_lt COMBINATIONS (product_size views)) TOO_MANY_COMBINATIONS

abbrev pub overflow_refusal : Session → Query → List (List Line) → Option Code
overflow_refusal session query views = where_broken (overflows session (query.conditions ++ query.items) views) OVERFLOW

abbrev pub too_many_rows : Session → Query → List (List Line) → Option Code
too_many_rows session query views = where_broken (nat_lt REPLY_ROWS (length (combos session query.conditions views))) TOO_MANY_ROWS

-- the first rule that a SELECT breaks, whose tables are there and allowed
abbrev pub select_refusal : Session → List Range → List (List Line) → Select → Option Code
select_refusal session ranges views select =
    first (
    too_many_tables ranges
    ∷ name_refusal ranges select
    ∷ kind_refusal ranges select
    ∷ too_many_combinations views
    ∷ overflow_refusal session (query_of ranges select) views
    ∷ too_many_rows session (query_of ranges select) views
    ∷ []
    )

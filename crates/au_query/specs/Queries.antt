-- A query with the places of its columns (SQL Language Reference, "SELECT").
use Rattle.std.specs.Prelude.{ℕ, Bool, List, [], ◌++◌, map, take, codes, Option, None, Some}
use Rattle.std.specs.List.{enumerate_from, flat_map}
use Rattle.std.specs.Option.{option_to_list}
use Rattle.std.specs.Fmt.{decimal}
use Rattle.au_base.specs.declared.table.Column.{Column}
use Rattle.sql_ast.specs.declared.expression.Expr.{Expr}
use Rattle.sql_ast.specs.declared.expression.Expr.TheOpen as part
use Rattle.sql_ast.specs.declared.expression.Expr.TheFolds.{fold-Expr}
use Rattle.sql_ast.specs.declared.query.Item.{Item}
use Rattle.sql_ast.specs.declared.query.Items.{Items}
use Rattle.sql_ast.specs.declared.query.Items.TheVariants as items
use Rattle.sql_ast.specs.declared.query.Join.{Join}
use Rattle.sql_ast.specs.declared.query.Select.{Select}
use Rattle.sql_ast.specs.declared.query.SortKey.{SortKey}
use Rattle.au_expr.specs.declared.placed.Place.{Place}
use Rattle.au_expr.specs.declared.placed.Placed.{Placed}
use Rattle.au_expr.specs.declared.placed.Placed.TheVariants as tree
use Rattle.au_expr.specs.Names.{place_of, places}
use Rattle.au_expr.specs.Resolving.{placed}
use Rattle.au_expr.specs.Rows.{Range}

-- the conditions, the items and the keys of the order, each of which is descending or not
pub record Query : Type 0 where
  pub conditions : List Placed
  pub items : List Placed
  pub order : List (Place × Bool)

-- the condition of a join, over the ranges up to its own
abbrev pub on_of : List Range → ℕ × Join → List Placed
on_of ranges p = map (placed (take p.0 ranges)) (option_to_list p.1.on)

-- the conditions of the joins, the first of which is over 2 ranges
abbrev pub ons_of : List Range → List Join → List Placed
ons_of ranges joins = flat_map (on_of ranges) (enumerate_from 2 joins)

-- ON of each join, and WHERE, in written order
abbrev pub conditions_of : List Range → Select → List Placed
conditions_of ranges select = ons_of ranges select.from.joins ++ map (placed ranges) (option_to_list select.condition)

abbrev pub columns_of_range : ℕ × Range → List Placed
columns_of_range p = map (λ (column : ℕ × Column). tree.Column (place_of p.0 column)) (enumerate_from 0 p.1.1)

-- all columns of all tables in order
abbrev pub all_columns : List Range → List Placed
all_columns ranges = flat_map columns_of_range (enumerate_from 0 ranges)

abbrev pub items_of : List Range → Items → List Placed
items_of ranges items.All = all_columns ranges
items_of ranges (items.Listed list) = map (λ (item : Item). placed ranges item.value) list

abbrev pub keys_in : Option (List SortKey) → List SortKey
keys_in None = []
keys_in (Some keys) = keys

-- the place of a key's column
abbrev pub places_of_key : List Range → SortKey → List (Place × Bool)
places_of_key ranges key = map (λ (place : Place). (place, key.descending)) (places ranges key.table key.column)

abbrev pub order_of : List Range → Option (List SortKey) → List (Place × Bool)
order_of ranges order = flat_map (places_of_key ranges) (keys_in order)

abbrev pub query_of : List Range → Select → Query
query_of ranges select = record {
  conditions = conditions_of ranges select;
  items = items_of ranges select.items;
  order = order_of ranges select.order;
}

abbrev pub bare_name : part.Expr-F (Option (List ℕ)) → Option (List ℕ)
bare_name (part.Column written name) = Some name
bare_name _ = None

-- the column's name where the expression is a column
abbrev pub column_name : Expr → Option (List ℕ)
column_name = fold-Expr (Option (List ℕ)) bare_name

-- `C` and the item's place from 1
abbrev pub numbered_name : ℕ → List ℕ
numbered_name n = codes "C" ++ decimal n

abbrev pub name_or : List ℕ → Option (List ℕ) → List ℕ
name_or otherwise None = otherwise
name_or otherwise (Some name) = name

-- the alias, else the name of a bare column, else `C` and the place
abbrev pub item_name : ℕ × Item → List ℕ
item_name p = name_or (name_or (numbered_name p.0) (column_name p.1.value)) p.1.alias

abbrev pub names_of_columns : List Column → List (List ℕ)
names_of_columns columns = map (λ (column : Column). column.name) columns

abbrev pub names_of_range : Range → List (List ℕ)
names_of_range range = names_of_columns range.1

-- the names of the reply's columns
abbrev pub column_names : List Range → Items → List (List ℕ)
column_names ranges items.All = flat_map names_of_range ranges
column_names ranges (items.Listed list) = map item_name (enumerate_from 1 list)

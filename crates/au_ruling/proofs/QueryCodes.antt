-- The code of what a query answers is small.
use Rattle.std.proofs.Common.{◌≡◌, ℕ, nat_lt, List, [], ◌∷◌, map, take, length, Option, Some, None, sym, subst, arith}
use Rattle.std.specs.List.{enumerate_from}
use Rattle.au_base.specs.Codes.{DONE, OVERFLOW, TOO_MANY_COMBINATIONS, TOO_MANY_ROWS}
use Rattle.au_base.specs.Limits.{COMBINATIONS}
use Rattle.au_base.specs.declared.code.Code.{Code}
use Rattle.au_expr.specs.declared.placed.Placed.{Placed}
use Rattle.au_expr.specs.Names.{first, name_code, places}
use Rattle.au_expr.specs.Resolving.{condition_code, value_code}
use Rattle.au_expr.specs.Rows.{Range}
use Rattle.au_expr.specs.Sessions.{Session}
use Rattle.au_query.specs.declared.selected.Selected.{Selected}
use Rattle.au_query.specs.Answers.{Comes}
use Rattle.au_query.specs.Combos.{Line, overflows}
use Rattle.au_query.specs.Counts.{condition_of, count_refusal, tally_refusal, where_refusal}
use Rattle.au_query.specs.Queries.{keys_in, query_of}
use Rattle.au_query.specs.Refusals.{code_if_there, item_codes, key_code, key_codes, kind_refusal, name_refusal, on_code, on_codes, overflow_refusal, select_refusal, too_many_combinations, too_many_rows, too_many_tables, where_broken, where_code}
use Rattle.au_world.specs.Selecting.{IsCountedFrom, IsDone, IsSelectedFrom, IsTally, Seen, rows_of_seen}
use Rattle.au_ruling.proofs.Lists.{all_mapped}
use Rattle.sql_ast.specs.declared.expression.Expr.{Expr}
use Rattle.sql_ast.specs.declared.query.Count.{Count as CountOf}
use Rattle.sql_ast.specs.declared.query.Item.{Item}
use Rattle.sql_ast.specs.declared.query.Items.{Items}
use Rattle.sql_ast.specs.declared.query.Items.TheVariants as items
use Rattle.sql_ast.specs.declared.query.Join.{Join}
use Rattle.sql_ast.specs.declared.query.Select.{Select as SelectOf}
use Rattle.sql_ast.specs.declared.query.SortKey.{SortKey}
use Rattle.au_ruling.proofs.Codes.{ConditionsFit, Fits, IsSmall, NamesFit, broken_fits, condition_fits, first_fits, names_fit, or_fits, places_fit, there_fits, value_fits}

-- ---- the codes of a query

items_fit : (code : Expr → Option Code) → ((e : Expr) → Fits (code e)) → (list : Items) → Fits (first (item_codes code list))
items_fit code fits items.All = tt
items_fit code fits (items.Listed list) = first_fits (map (λ (item : Item). code item.value) list) (all_mapped Fits (λ (item : Item). code item.value) (λ item. fits item.value) list)

ons_fit : (code : List Range → Expr → Option Code) → ((ranges : List Range) (e : Expr) → Fits (code ranges e)) → (ranges : List Range) (joins : List Join)
    → Fits (first (map (on_code code ranges) (enumerate_from 2 joins)))
ons_fit code fits ranges joins =
    first_fits (map (on_code code ranges) (enumerate_from 2 joins))
    (all_mapped Fits (on_code code ranges) (λ (p : ℕ × Join). there_fits (code (take p.0 ranges)) (fits (take p.0 ranges)) p.1.on) (enumerate_from 2 joins))

keys_fit : (ranges : List Range) (order : Option (List SortKey)) → Fits (first (map (key_code ranges) (keys_in order)))
keys_fit ranges order =
    first_fits (map (key_code ranges) (keys_in order)) (all_mapped Fits (key_code ranges) (λ key. places_fit (places ranges key.table key.column)) (keys_in order))

module _ (names : NamesFit) (conditions : ConditionsFit) where
  names_fit_in : (ranges : List Range) (select : SelectOf) → Fits (name_refusal ranges select)
  names_fit_in ranges select =
      first_fits (
      first (item_codes (name_code ranges) select.items)
      ∷ first (on_codes name_code ranges select.from.joins)
      ∷ where_code name_code ranges select.condition
      ∷ first (key_codes ranges select.order)
      ∷ []
      ) (
        items_fit (name_code ranges) (names_fit names ranges) select.items,
        (
          ons_fit name_code (names_fit names) ranges select.from.joins,
          (
            there_fits (name_code ranges) (names_fit names ranges) select.condition,
            (keys_fit ranges select.order, tt),
          ),
        ),
      )

  kinds_fit_in : (ranges : List Range) (select : SelectOf) → Fits (kind_refusal ranges select)
  kinds_fit_in ranges select =
      first_fits (
      first (item_codes (value_code None ranges) select.items)
      ∷ first (on_codes condition_code ranges select.from.joins)
      ∷ where_code condition_code ranges select.condition
      ∷ []
      ) (
        items_fit (value_code None ranges) (value_fits names None ranges) select.items,
        (
          ons_fit condition_code (condition_fits conditions) ranges select.from.joins,
          (there_fits (condition_code ranges) (condition_fits conditions ranges) select.condition, tt),
        ),
      )

  select_fits : (session : Session) (ranges : List Range) (views : List (List Line)) (select : SelectOf) → Fits (select_refusal session ranges views select)
  select_fits session ranges views select =
      first_fits (
      too_many_tables ranges
      ∷ name_refusal ranges select
      ∷ kind_refusal ranges select
      ∷ too_many_combinations views
      ∷ overflow_refusal session (query_of ranges select) views
      ∷ too_many_rows session (query_of ranges select) views
      ∷ []
      ) (
        broken_fits _ TOO_MANY_COMBINATIONS (omega arith),
        (
          names_fit_in ranges select,
          (
            kinds_fit_in ranges select,
            (
              broken_fits _ TOO_MANY_COMBINATIONS (omega arith),
              (
                broken_fits _ OVERFLOW (omega arith),
                (broken_fits _ TOO_MANY_ROWS (omega arith), tt),
              ),
            ),
          ),
        ),
      )

  tally_fits : (session : Session) (conditions : List Placed) (rows : List Line) → Fits (tally_refusal session conditions rows)
  tally_fits session asked rows =
      first_fits (where_broken (nat_lt COMBINATIONS (length rows)) TOO_MANY_COMBINATIONS ∷ where_broken (overflows session asked (rows ∷ [])) OVERFLOW ∷ []) (
        broken_fits _ TOO_MANY_COMBINATIONS (omega arith),
        (broken_fits _ OVERFLOW (omega arith), tt),
      )

  count_fits : (session : Session) (range : Range) (rows : List Line) (count : CountOf) → Fits (count_refusal session range rows count)
  count_fits session range rows count =
      or_fits (where_refusal (range ∷ []) count) (tally_refusal session (condition_of range count) rows)
      (or_fits (code_if_there (name_code (range ∷ [])) count.condition) (code_if_there (condition_code (range ∷ [])) count.condition)
      (there_fits (name_code (range ∷ [])) (names_fit names (range ∷ [])) count.condition) (there_fits (condition_code (range ∷ [])) (condition_fits conditions (range ∷ [])) count.condition))
      (tally_fits session (condition_of range count) rows)

-- ---- what is answered

comes_small : (code : Option Code) (Done : Selected → Type 0) (selected : Selected) → ((some : Selected) → Done some → some.code ≡ DONE)
    → Fits code → Comes code Done selected → IsSmall selected.code
comes_small None Done selected done fits comes = subst IsSmall (sym (done selected comes)) (omega arith)
comes_small (Some code) Done selected done fits comes = subst (λ (s : Selected). IsSmall s.code) (sym comes) fits

pub selected_small : NamesFit → ConditionsFit → (session : Session) (ranges : List Range) (seen : List Seen) (select : SelectOf) (selected : Selected)
    → IsSelectedFrom session ranges seen select selected → IsSmall selected.code
unfolding IsSelectedFrom
selected_small names conditions session ranges seen select selected is_so =
    comes_small (select_refusal session ranges (rows_of_seen seen) select) (IsDone session ranges seen select) selected (λ some done. done.code)
    (select_fits names conditions session ranges (rows_of_seen seen) select) is_so

pub counted_small : NamesFit → ConditionsFit → (session : Session) (range : Range) (seen : Seen) (count : CountOf) (selected : Selected)
    → IsCountedFrom session range seen count selected → IsSmall selected.code
unfolding IsCountedFrom
counted_small names conditions session range seen count selected is_so =
    comes_small (count_refusal session range seen.1 count) (IsTally session range seen (condition_of range count)) selected (λ some done. done.code)
    (count_fits names conditions session range seen.1 count) is_so

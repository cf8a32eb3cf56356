-- A query as the code holds it, with places in place of names. No promise of the crate rests on these.
use Rattle.std.specs.Prelude.{◌≡◌, ◌++◌, ◌∷◌, [], Bool, List, map, Option, None, Some, Result, Ok, Err}
use Rattle.au_base.specs.declared.code.Code.{Code}
use Rattle.sql_ast.specs.declared.query.Select.{Select}
use Rattle.au_expr.specs.Names.{first, or_code}
use Rattle.au_expr.specs.Rows.{Range}
use Rattle.au_expr.specs.Sessions.{Session}
use Rattle.au_query.specs.Combos.{Line}
use Rattle.au_expr.specs.declared.placed.Place.{Place}
use Rattle.au_expr.specs.declared.placed.Placed.{Placed}
use Rattle.au_query.specs.Answers.{column_tree}
use Rattle.au_query.specs.declared.planning.Plan.{Plan}
use Rattle.au_query.specs.descent.Outputs.{trees_in}
use Rattle.au_query.specs.Queries.{Query, conditions_of, items_of, order_of}
use Rattle.au_query.specs.Refusals.{kind_refusal, name_refusal, overflow_refusal, too_many_combinations, too_many_rows}

-- nothing refuses, and this is what is found, or else the code
abbrev pub Finds : {X : Type 0} → Option Code → (X → Type 0) → Result X Code → Type 0
Finds refusal Is (Ok x) = (refusal ≡ None) × Is x
Finds refusal Is (Err code) = refusal ≡ Some code

-- the plan is that of the query
pub record IsPlanOf (ranges : List Range) (select : Select) (plan : Plan) : Type 0 where
  pub conditions : plan.conditions.items ≡ conditions_of ranges select
  pub items : trees_in plan.outputs.items ≡ items_of ranges select.items
  pub order : plan.keys.items ≡ order_of ranges select.order

-- the first 904 or 918, and else the first 932
abbrev pub plan_refusal : List Range → Select → Option Code
plan_refusal ranges select = or_code (name_refusal ranges select) (kind_refusal ranges select)

abbrev pub IsPlanned : List Range → Select → Result Plan Code → Type 0
IsPlanned ranges select = Finds (plan_refusal ranges select) (IsPlanOf ranges select)

abbrev pub keys_trees : List (Place × Bool) → List Placed
keys_trees keys = map (λ (key : Place × Bool). column_tree key.0) keys

abbrev pub trees_in_plan : Plan → List Placed
trees_in_plan plan = plan.conditions.items ++ (trees_in plan.outputs.items ++ keys_trees plan.keys.items)

-- the first rule that is broken of those on combinations
abbrev pub run_refusal : Session → Query → List (List Line) → Option Code
run_refusal session query views = first (too_many_combinations views ∷ overflow_refusal session query views ∷ too_many_rows session query views ∷ [])

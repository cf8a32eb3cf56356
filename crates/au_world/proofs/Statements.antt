-- Which statements are queries.
use Rattle.std.proofs.Common.{◌≡◌, ◌⊎◌, inl, inr, refl}
use Rattle.au_expr.specs.Sessions.{Session}
use Rattle.au_query.specs.declared.selected.Selected.{Selected}
use Rattle.au_world.specs.declared.row_plan.RowPlan.{RowPlan}
use Rattle.au_world.specs.Plans.{IsPlanOf, Truths}
use Rattle.au_world.specs.Selecting.{IsAnswer}
use Rattle.au_world.specs.Sights.{Sight}
use Rattle.sql_ast.specs.declared.query.Count.{Count}
use Rattle.sql_ast.specs.declared.query.Select.{Select}
use Rattle.sql_ast.specs.declared.statement.Statement.{Statement}
use Rattle.sql_ast.specs.declared.statement.Statement.TheVariants as is

-- it has neither an answer nor a plan
pub record IsNoQuery (statement : Statement) : Type 0 where
  pub no_answer : (sight : Sight) (session : Session) (selected : Selected) → IsAnswer sight session statement selected → ⊥
  pub no_plan : (truth : Truths) (sight : Sight) (session : Session) (plan : RowPlan) → IsPlanOf truth sight session statement plan → ⊥

-- it is a SELECT, or a COUNT, or no query
abbrev pub Kind : Statement → Type 0
Kind statement = ((select : Select) × (statement ≡ is.Select select)) ⊎ (((count : Count) × (statement ≡ is.Count count)) ⊎ IsNoQuery statement)

pub kind_of : (statement : Statement) → Kind statement
kind_of (is.Select select) = inl (select, refl)
kind_of (is.Count count) = inr (inl (count, refl))
kind_of (is.Insert x) = inr (inr (record { no_answer = λ sight session selected never. never; no_plan = λ truth sight session plan never. never }))
kind_of (is.Update x) = inr (inr (record { no_answer = λ sight session selected never. never; no_plan = λ truth sight session plan never. never }))
kind_of (is.Delete x) = inr (inr (record { no_answer = λ sight session selected never. never; no_plan = λ truth sight session plan never. never }))
kind_of is.Commit = inr (inr (record { no_answer = λ sight session selected never. never; no_plan = λ truth sight session plan never. never }))
kind_of is.Rollback = inr (inr (record { no_answer = λ sight session selected never. never; no_plan = λ truth sight session plan never. never }))
kind_of (is.CreateTable x) = inr (inr (record { no_answer = λ sight session selected never. never; no_plan = λ truth sight session plan never. never }))
kind_of (is.DropTable x) = inr (inr (record { no_answer = λ sight session selected never. never; no_plan = λ truth sight session plan never. never }))
kind_of (is.CreateUser x y) = inr (inr (record { no_answer = λ sight session selected never. never; no_plan = λ truth sight session plan never. never }))
kind_of (is.AlterUser x y) = inr (inr (record { no_answer = λ sight session selected never. never; no_plan = λ truth sight session plan never. never }))
kind_of (is.DropUser x) = inr (inr (record { no_answer = λ sight session selected never. never; no_plan = λ truth sight session plan never. never }))
kind_of (is.CreateRole x) = inr (inr (record { no_answer = λ sight session selected never. never; no_plan = λ truth sight session plan never. never }))
kind_of (is.DropRole x) = inr (inr (record { no_answer = λ sight session selected never. never; no_plan = λ truth sight session plan never. never }))
kind_of (is.Grant x) = inr (inr (record { no_answer = λ sight session selected never. never; no_plan = λ truth sight session plan never. never }))
kind_of (is.CreatePolicy x) = inr (inr (record { no_answer = λ sight session selected never. never; no_plan = λ truth sight session plan never. never }))
kind_of (is.DropPolicy x) = inr (inr (record { no_answer = λ sight session selected never. never; no_plan = λ truth sight session plan never. never }))
kind_of (is.Audit x) = inr (inr (record { no_answer = λ sight session selected never. never; no_plan = λ truth sight session plan never. never }))
kind_of (is.Noaudit x y) = inr (inr (record { no_answer = λ sight session selected never. never; no_plan = λ truth sight session plan never. never }))
kind_of (is.Call x) = inr (inr (record { no_answer = λ sight session selected never. never; no_plan = λ truth sight session plan never. never }))

-- Statements by what they come to.
use Rattle.au_base.specs.declared.numbers.ClientNo.{ClientNo}
use Rattle.au_expr.specs.Sessions.{Session}
use Rattle.au_world.specs.declared.row_plan.RowPlan.{RowPlan}
use Rattle.au_world.specs.Plans.{Truths}
use Rattle.au_world.specs.Sights.{Sight}
use Rattle.au_plan.specs.Plans.{IsPlanOf}
use Rattle.sql_ast.specs.declared.query.Count.{Count}
use Rattle.sql_ast.specs.declared.query.Select.{Select}
use Rattle.sql_ast.specs.declared.rows.Delete.{Delete}
use Rattle.sql_ast.specs.declared.rows.Insert.{Insert}
use Rattle.sql_ast.specs.declared.rows.Update.{Update}
use Rattle.sql_ast.specs.declared.statement.Statement.{Statement}
use Rattle.sql_ast.specs.declared.statement.Statement.TheVariants as is

-- the statement isn't on rows, and has no plan
abbrev pub HasNoPlan : Statement → Type 0
HasNoPlan statement = (truth : Truths) (sight : Sight) (client : ClientNo) (session : Session) (plan : RowPlan) → IsPlanOf truth sight client session statement plan → ⊥

module _ (P : Statement → Type 0) (select : (x : Select) → P (is.Select x)) (count : (x : Count) → P (is.Count x)) (insert : (x : Insert) → P (is.Insert x)) (update : (x : Update) → P (is.Update x)) (delete : (x : Delete) → P (is.Delete x)) (other : (statement : Statement) → HasNoPlan statement → P statement) where
  pub by_statement : (statement : Statement) → P statement
  by_statement (is.Select x) = select x
  by_statement (is.Count x) = count x
  by_statement (is.Insert x) = insert x
  by_statement (is.Update x) = update x
  by_statement (is.Delete x) = delete x
  by_statement is.Commit = other is.Commit (λ truth sight client session plan never. never)
  by_statement is.Rollback = other is.Rollback (λ truth sight client session plan never. never)
  by_statement (is.CreateTable x) = other (is.CreateTable x) (λ truth sight client session plan never. never)
  by_statement (is.DropTable x) = other (is.DropTable x) (λ truth sight client session plan never. never)
  by_statement (is.CreateUser x y) = other (is.CreateUser x y) (λ truth sight client session plan never. never)
  by_statement (is.AlterUser x y) = other (is.AlterUser x y) (λ truth sight client session plan never. never)
  by_statement (is.DropUser x) = other (is.DropUser x) (λ truth sight client session plan never. never)
  by_statement (is.CreateRole x) = other (is.CreateRole x) (λ truth sight client session plan never. never)
  by_statement (is.DropRole x) = other (is.DropRole x) (λ truth sight client session plan never. never)
  by_statement (is.Grant x) = other (is.Grant x) (λ truth sight client session plan never. never)
  by_statement (is.CreatePolicy x) = other (is.CreatePolicy x) (λ truth sight client session plan never. never)
  by_statement (is.DropPolicy x) = other (is.DropPolicy x) (λ truth sight client session plan never. never)
  by_statement (is.Audit x) = other (is.Audit x) (λ truth sight client session plan never. never)
  by_statement (is.Noaudit x y) = other (is.Noaudit x y) (λ truth sight client session plan never. never)
  by_statement (is.Call x) = other (is.Call x) (λ truth sight client session plan never. never)

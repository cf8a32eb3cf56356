use Rattle.std.proofs.Common.{◌≡◌, ◌≢◌, [], ap}
use Rattle.au_base.specs.declared.action.Action.TheVariants as action
use Rattle.au_base.specs.Codes.{DONE}
use Rattle.au_change.specs.Deleting.{IsDeletion}
use Rattle.au_change.specs.Updating.{IsUpdate}
use Rattle.au_insert.specs.Inserting.{IsInsertion}
use Rattle.au_query.specs.Answers.{refused}
use Rattle.sql_ast.specs.declared.statement.Statement.{Statement}
use Rattle.sql_ast.specs.declared.statement.Statement.TheVariants as statements
use Rattle.au_plan.specs.Plans.{IsPlanOf, meant}
use Rattle.au_plan.proofs.OnePlan.{change_alike, change_once, change_refused}
use Rattle.au_plan.proofs.Statements.{by_statement}
use Rattle.au_plan.proofs.laws.plans_hold.Goals as goal

pub returns-clause-one : goal.returns-clause-one
returns-clause-one c = λ truth sight client session statement one other.
    let rights = c.rights_have_one_answer.ensures in
    by_statement (λ (s : Statement). IsPlanOf truth sight client session s one → IsPlanOf truth sight client session s other → one ≡ other)
    (λ x a b. c.plans_hold.ensures.one truth sight session (statements.Select x) one other a b)
    (λ x a b. c.plans_hold.ensures.one truth sight session (statements.Count x) one other a b)
    (λ x. let table = meant session x.table in change_once truth sight session action.Insert table (IsInsertion sight client session table x) rights (c.insertions_are_one.ensures.one sight client session table x) one other)
    (λ x. let table = meant session x.table in change_once truth sight session action.Update table (IsUpdate sight client session table x) rights (c.changes_are_one.ensures.one_update sight client session table x) one other)
    (λ x. let table = meant session x.table in change_once truth sight session action.Delete table (IsDeletion sight client session table x) rights (c.changes_are_one.ensures.one_deletion sight client session table x) one other)
    (λ s never a b. absurd (never truth sight client session one a))
    statement

pub returns-clause-refused : goal.returns-clause-refused
returns-clause-refused c = λ truth sight client session statement plan.
    let nothing = c.refused_statements_fire_nothing.ensures in
    by_statement (λ (s : Statement). IsPlanOf truth sight client session s plan → plan.code ≢ DONE → (plan.reply ≡ (refused plan.code).reply) × (plan.changes ≡ []) × (plan.fired ≡ []))
    (λ x is not_done. c.plans_hold.ensures.refused truth sight session (statements.Select x) plan is not_done)
    (λ x is not_done. c.plans_hold.ensures.refused truth sight session (statements.Count x) plan is not_done)
    (λ x. let table = meant session x.table in change_refused truth sight session action.Insert table (IsInsertion sight client session table x) nothing (c.insertions_are_one.ensures.refused sight client session table x) plan)
    (λ x. let table = meant session x.table in change_refused truth sight session action.Update table (IsUpdate sight client session table x) nothing (c.changes_are_one.ensures.refused_update sight client session table x) plan)
    (λ x. let table = meant session x.table in change_refused truth sight session action.Delete table (IsDeletion sight client session table x) nothing (c.changes_are_one.ensures.refused_deletion sight client session table x) plan)
    (λ s never is not_done. absurd (never truth sight client session plan is))
    statement

pub returns-clause-same : goal.returns-clause-same
returns-clause-same c = λ truth a b client session statement plan same.
    by_statement (λ (s : Statement). IsPlanOf truth a client session s plan → IsPlanOf truth b client session s plan)
    (λ x is. c.plans_hold.ensures.same truth a b session (statements.Select x) plan same is)
    (λ x is. c.plans_hold.ensures.same truth a b session (statements.Count x) plan same is)
    (λ x. let table = meant session x.table in change_alike truth a b same session action.Insert table (IsInsertion a client session table x) (IsInsertion b client session table x) (λ m. c.insertions_are_one.ensures.same a b client session table x m same) plan)
    (λ x. let table = meant session x.table in change_alike truth a b same session action.Update table (IsUpdate a client session table x) (IsUpdate b client session table x) (λ m. c.changes_are_one.ensures.same_update a b client session table x m same) plan)
    (λ x. let table = meant session x.table in change_alike truth a b same session action.Delete table (IsDeletion a client session table x) (IsDeletion b client session table x) (λ m. c.changes_are_one.ensures.same_deletion a b client session table x m same) plan)
    (λ s never is. absurd (never truth a client session plan is))
    statement

-- The plan of a query, by its rights and by what it answers.
use Rattle.std.proofs.Common.{◌≡◌, ◌≢◌, ℕ, true, false, List, [], sym, ap, subst, arith}
use Rattle.std.specs.Prelude.{◌==◌}
use Rattle.std.proofs.lemmas.Bool.Decides.{nat_tests}
use Rattle.au_audit.specs.Firing.{fired}
use Rattle.au_audit.specs.Statements.{tables_of}
use Rattle.au_base.specs.declared.action.Action.TheVariants as action
use Rattle.au_base.specs.declared.privilege.Privilege.{Privilege}
use Rattle.au_expr.specs.Sessions.{Session}
use Rattle.au_query.specs.declared.selected.Selected.{Selected}
use Rattle.au_query.specs.Answers.{refused}
use Rattle.au_world.specs.declared.rights.TableRights.{TableRights}
use Rattle.au_world.specs.declared.row_plan.RowPlan.{RowPlan}
use Rattle.au_world.specs.Plans.{FollowsRights, IsAnswered, IsQueryPlan, Truths, row_facts}
use Rattle.au_world.specs.Rights.{AreTableRights}
use Rattle.au_world.specs.Selecting.{IsAnswer}
use Rattle.au_world.specs.Sights.{Sight}
use Rattle.sql_ast.specs.declared.statement.Statement.{Statement}

pub not_zero : (n : ℕ) → n ≢ 0 → (n == 0) ≡ false
not_zero n other = grind (arith, nat_tests, other)

pub is_zero : (n : ℕ) → n ≡ 0 → (n == 0) ≡ true
is_zero n is = grind (arith, nat_tests, is)

module _ (truth : Truths) (sight : Sight) (session : Session) (statement : Statement) where
  -- a plan with what a query answers
  pub answered_plan : (used : List Privilege) (selected : Selected) (plan : RowPlan) → IsAnswer sight session statement selected
      → plan ≡ record { code = selected.code; used = used; reply = selected.reply; changes = []; fired = fired truth selected.code (row_facts sight selected) sight.catalog.fga }
      → IsAnswered truth sight session statement plan
  answered_plan used selected plan answer is = record {
    selected = selected;
    answer = answer;
    code = ap (λ (p : RowPlan). p.code) is;
    reply = ap (λ (p : RowPlan). p.reply) is;
    policies = ap (λ (p : RowPlan). p.fired) is;
  }

  -- a query whose rights have another code than 0
  pub refused_plan : (rights : TableRights) (plan : RowPlan) → AreTableRights sight.catalog.tables sight.grants session.user action.Select (tables_of session.user statement) rights → rights.code.0 ≢ 0
      → plan ≡ record { code = rights.code; used = rights.used; reply = (refused rights.code).reply; changes = []; fired = [] }
      → IsQueryPlan truth sight session statement plan
  refused_plan rights plan are other is = record {
    rights = rights;
    are = are;
    used = ap (λ (p : RowPlan). p.used) is;
    changes = ap (λ (p : RowPlan). p.changes) is;
    comes = subst (λ b. FollowsRights b truth sight session statement rights.code plan) (sym (not_zero rights.code.0 other))
        (record { code = ap (λ (p : RowPlan). p.code) is; reply = ap (λ (p : RowPlan). p.reply) is; policies = ap (λ (p : RowPlan). p.fired) is });
  }

  -- a query whose rights have the code 0
  pub allowed_plan : (rights : TableRights) (plan : RowPlan) → AreTableRights sight.catalog.tables sight.grants session.user action.Select (tables_of session.user statement) rights → rights.code.0 ≡ 0
      → plan.used ≡ rights.used → plan.changes ≡ [] → IsAnswered truth sight session statement plan → IsQueryPlan truth sight session statement plan
  allowed_plan rights plan are done used changes answered = record {
    rights = rights;
    are = are;
    used = used;
    changes = changes;
    comes = subst (λ b. FollowsRights b truth sight session statement rights.code plan) (sym (is_zero rights.code.0 done)) answered;
  }

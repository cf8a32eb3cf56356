-- The plan of an INSERT, UPDATE or DELETE, by its right and by what it makes of rows.
use Rattle.std.proofs.Common.{◌≡◌, ◌≢◌, List, [], ◌∷◌, sym, ap, subst}
use Rattle.au_audit.specs.Firing.{fired}
use Rattle.au_base.specs.declared.action.Action.{Action}
use Rattle.au_base.specs.declared.table.TableName.{TableName}
use Rattle.au_expr.specs.Sessions.{Session}
use Rattle.au_modify.specs.declared.modification.Modification.{Modification}
use Rattle.au_query.specs.Answers.{refused}
use Rattle.au_world.specs.declared.rights.TableRights.{TableRights}
use Rattle.au_world.specs.declared.row_plan.RowPlan.{RowPlan}
use Rattle.au_world.specs.Plans.{Truths}
use Rattle.au_world.specs.Rights.{AreTableRights}
use Rattle.au_world.specs.Sights.{Sight}
use Rattle.au_plan.specs.Plans.{FollowsRight, IsChangePlan, facts_of, reply_of}
use Rattle.au_plan.proofs.Queries.{is_zero, not_zero}

module _ (truth : Truths) (sight : Sight) (session : Session) (action : Action) (table : TableName) (Is : Modification → Type 0) (rights : TableRights) (plan : RowPlan) (are : AreTableRights sight.catalog.tables sight.grants session.user action (table ∷ []) rights) where
  -- where the right has another code than 0
  pub barred_plan : rights.code.0 ≢ 0 → plan ≡ record { code = rights.code; used = rights.used; reply = (refused rights.code).reply; changes = []; fired = [] } → IsChangePlan truth sight session action table Is plan
  barred_plan other is = record {
    rights = rights;
    are = are;
    used = ap (λ (p : RowPlan). p.used) is;
    comes = subst (λ b. FollowsRight b truth sight action table Is rights.code plan) (sym (not_zero rights.code.0 other))
        (record {
          refused = record { code = ap (λ (p : RowPlan). p.code) is; reply = ap (λ (p : RowPlan). p.reply) is; policies = ap (λ (p : RowPlan). p.fired) is };
          changes = ap (λ (p : RowPlan). p.changes) is;
        });
  }

  -- where it has the code 0
  pub made_plan : (made : Modification) → rights.code.0 ≡ 0 → Is made
      → plan ≡ record { code = made.code; used = rights.used; reply = reply_of made; changes = made.changes; fired = fired truth made.code (facts_of action table made) sight.catalog.fga }
      → IsChangePlan truth sight session action table Is plan
  made_plan made done is_so is = record {
    rights = rights;
    are = are;
    used = ap (λ (p : RowPlan). p.used) is;
    comes = subst (λ b. FollowsRight b truth sight action table Is rights.code plan) (sym (is_zero rights.code.0 done))
        (record {
          modification = made;
          is_so = is_so;
          code = ap (λ (p : RowPlan). p.code) is;
          reply = ap (λ (p : RowPlan). p.reply) is;
          changes = ap (λ (p : RowPlan). p.changes) is;
          policies = ap (λ (p : RowPlan). p.fired) is;
        });
  }

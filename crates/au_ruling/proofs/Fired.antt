-- The fine-grained policies that fire are some of those that are kept, whose names are names.
use Rattle.std.proofs.Common.{◌≤◌, ◌+◌, ◌==◌, Bool, true, false, not, List, [], ◌∷◌, ◌++◌, map, filter, length, refl, sym, subst, arith}
use Rattle.std.proofs.lemmas.List.{length-append}
use Rattle.std.proofs.lemmas.List.Filters.{length-filter_both}
use Rattle.std.specs.List.{AllByRecursion}
use Rattle.au_admin.specs.Names.{IsAuditSpelled}
use Rattle.au_audit.specs.Firing.{fires, in_record_order, record_before}
use Rattle.au_base.specs.Order.{placed}
use Rattle.au_base.specs.declared.action.Action.{Action}
use Rattle.au_base.specs.declared.action.Action.TheVariants as action
use Rattle.au_base.specs.declared.code.Code.{Code}
use Rattle.au_base.specs.declared.numbers.ClientNo.{ClientNo}
use Rattle.au_base.specs.declared.table.TableName.{TableName}
use Rattle.au_change.specs.Deleting.{IsDeletion}
use Rattle.au_change.specs.Updating.{IsUpdate}
use Rattle.au_entries.specs.Imaging.{archive_changes, enablement_change, fga_change, image_changes, object_change, policy_change, role_change, role_grant_change, row_change, system_change, table_change, user_change}
use Rattle.au_entries.specs.declared.change.Change.{Change}
use Rattle.au_entries.specs.declared.change.Change.TheVariants.{Start}
use Rattle.au_entries.specs.declared.fine_grained.FgaName.{FgaName}
use Rattle.au_entries.specs.declared.fine_grained.FgaPolicy.{FgaPolicy}
use Rattle.au_entries.specs.declared.kept.Kept.{Kept}
use Rattle.au_insert.specs.Inserting.{IsInsertion}
use Rattle.au_modify.specs.declared.modification.Modification.{Modification}
use Rattle.au_plan.specs.Plans.{FollowsRight, IsChangePlan, IsPlanOf, facts_of, meant}
use Rattle.au_ruling.proofs.Lists.{all_before, all_behind, all_filtered, all_joined, filter_fewer, mapped_long}
use Rattle.au_ruling.specs.Sound.{IsNamedFga}
use Rattle.au_expr.specs.Sessions.{Session}
use Rattle.au_world.specs.declared.row_plan.RowPlan.{RowPlan}
use Rattle.au_world.specs.Plans.{FollowsRights, IsQueryPlan, Truths, row_facts}
use Rattle.au_world.specs.Sights.{Sight}
use Rattle.rec_codec.specs.Changes.{IsChangeSpellable, fga, fga_name}
use Rattle.rec_parts.specs.Parts.{name, table}
use Rattle.sql_ast.specs.declared.statement.Statement.{Statement}
use Rattle.sql_ast.specs.declared.statement.Statement.TheVariants as is

-- ---- those that are kept

policy_named : (policy : FgaPolicy) → IsChangeSpellable (fga_change policy) → IsNamedFga policy.name
unfolding fga fga_name table name
policy_named policy it = (it.0.0.0.1, it.0.0.1.1, it.0.1.1)

policies_named : (policies : List FgaPolicy) → AllByRecursion IsChangeSpellable (map fga_change policies) → AllByRecursion (λ (policy : FgaPolicy). IsNamedFga policy.name) policies
policies_named [] all = tt
policies_named (policy ∷ policies) all = (policy_named policy all.0, policies_named policies all.1)

module _ (kept : Kept) (spelled : AllByRecursion IsChangeSpellable (image_changes kept)) where
  abbrev P : Change → Type 0
  P change = IsChangeSpellable change

  from_policies : AllByRecursion P (map policy_change kept.policies ++ (map enablement_change kept.enabled ++ (map fga_change kept.fga ++ (archive_changes kept.archive ++ Start kept.instance ∷ []))))
  from_policies =
      all_behind P (map object_change kept.grants.object) _ (all_behind P (map row_change kept.rows) _ (all_behind P (map table_change kept.tables) _
      (all_behind P (map role_grant_change kept.grants.role) _ (all_behind P (map system_change kept.grants.system) _ (all_behind P (map role_change kept.roles) _
      (all_behind P (map user_change kept.users) _ spelled))))))

  from_enabled : AllByRecursion P (map enablement_change kept.enabled ++ (map fga_change kept.fga ++ (archive_changes kept.archive ++ Start kept.instance ∷ [])))
  from_enabled = all_behind P (map policy_change kept.policies) _ from_policies

  fga_spelled : AllByRecursion P (map fga_change kept.fga)
  fga_spelled = all_before P (map fga_change kept.fga) _ (all_behind P (map enablement_change kept.enabled) _ from_enabled)

  -- what statements on auditing write back can be written
  pub audit_spelled : IsAuditSpelled kept
  audit_spelled = (all_before P (map enablement_change kept.enabled) _ from_enabled, fga_spelled)

  pub kept_named : AllByRecursion (λ (policy : FgaPolicy). IsNamedFga policy.name) kept.fga
  kept_named = policies_named kept.fga fga_spelled

-- ---- those that fire

placed_named : (one : FgaName) (names : List FgaName) → IsNamedFga one → AllByRecursion IsNamedFga names → AllByRecursion IsNamedFga (placed record_before one names)
placed_named one names first rest =
    all_joined IsNamedFga (filter (λ (other : FgaName). record_before other one) names) (one ∷ filter (λ (other : FgaName). not (record_before other one)) names)
    (all_filtered IsNamedFga (λ (other : FgaName). record_before other one) names rest)
    (first, all_filtered IsNamedFga (λ (other : FgaName). not (record_before other one)) names rest)

ordered_named : (policies : List FgaPolicy) → AllByRecursion (λ (policy : FgaPolicy). IsNamedFga policy.name) policies → AllByRecursion IsNamedFga (in_record_order (map (λ (policy : FgaPolicy). policy.name) policies))
ordered_named [] all = tt
ordered_named (policy ∷ policies) all =
    placed_named policy.name (in_record_order (map (λ (other : FgaPolicy). other.name) policies)) all.0 (ordered_named policies all.1)

pub fired_named : (test : FgaPolicy → Bool) (policies : List FgaPolicy) → AllByRecursion (λ (policy : FgaPolicy). IsNamedFga policy.name) policies
    → AllByRecursion IsNamedFga (in_record_order (map (λ (policy : FgaPolicy). policy.name) (filter test policies)))
fired_named test policies all = ordered_named (filter test policies) (all_filtered (λ (policy : FgaPolicy). IsNamedFga policy.name) test policies all)

-- ---- how many

placed_longer : (one : FgaName) (names : List FgaName) → length (placed record_before one names) ≤ 1 + length names
placed_longer one names =
    let whole = length-append (filter (λ (other : FgaName). record_before other one) names) (one ∷ filter (λ (other : FgaName). not (record_before other one)) names) in
    let parts = length-filter_both (λ (other : FgaName). record_before other one) (λ (other : FgaName). not (record_before other one)) (λ other. refl) names in
    omega (arith, whole, parts)

ordered_long : (names : List FgaName) → length (in_record_order names) ≤ length names
ordered_long [] = omega arith
ordered_long (one ∷ names) = let here = placed_longer one (in_record_order names) in let rest = ordered_long names in omega (arith, here, rest)

pub fired_few : (test : FgaPolicy → Bool) (policies : List FgaPolicy) → length (in_record_order (map (λ (policy : FgaPolicy). policy.name) (filter test policies))) ≤ length policies
fired_few test policies =
    let a = ordered_long (map (λ (policy : FgaPolicy). policy.name) (filter test policies)) in
    let b = mapped_long (λ (policy : FgaPolicy). policy.name) (filter test policies) in
    let c = filter_fewer test policies in
    omega (arith, a, b, c)

-- ---- those of a plan

module _ (P : List FgaName → Type 0) (none : P []) (truth : Truths) (sight : Sight) (client : ClientNo) (session : Session)
    (some : (test : FgaPolicy → Bool) → P (in_record_order (map (λ (policy : FgaPolicy). policy.name) (filter test sight.catalog.fga)))) where
  follows : (allowed : Bool) (x : Statement) (code : Code) (plan : RowPlan) → FollowsRights allowed truth sight session x code plan → P plan.fired
  follows true x code plan is_so = subst P (sym is_so.policies) (some (fires truth is_so.selected.code (row_facts sight is_so.selected)))
  follows false x code plan is_so = subst P (sym is_so.policies) none

  planned : (x : Statement) (plan : RowPlan) → IsQueryPlan truth sight session x plan → P plan.fired
  planned x plan is_plan = follows (is_plan.rights.code.0 == 0) x is_plan.rights.code plan is_plan.comes

  follows_right : (allowed : Bool) (asked : Action) (table : TableName) (Is : Modification → Type 0) (code : Code) (plan : RowPlan) → FollowsRight allowed truth sight asked table Is code plan → P plan.fired
  follows_right true asked table Is code plan made = subst P (sym made.policies) (some (fires truth made.modification.code (facts_of asked table made.modification)))
  follows_right false asked table Is code plan barred = subst P (sym barred.refused.policies) none

  changing : (asked : Action) (table : TableName) (Is : Modification → Type 0) (plan : RowPlan) → IsChangePlan truth sight session asked table Is plan → P plan.fired
  changing asked table Is plan is_plan = follows_right (is_plan.rights.code.0 == 0) asked table Is is_plan.rights.code plan is_plan.comes

  pub plan_fired : (x : Statement) (plan : RowPlan) → IsPlanOf truth sight client session x plan → P plan.fired
  plan_fired (is.Select x) plan is_plan = planned (is.Select x) plan is_plan
  plan_fired (is.Count x) plan is_plan = planned (is.Count x) plan is_plan
  plan_fired (is.Insert x) plan is_plan = changing action.Insert (meant session x.table) (IsInsertion sight client session (meant session x.table) x) plan is_plan
  plan_fired (is.Update x) plan is_plan = changing action.Update (meant session x.table) (IsUpdate sight client session (meant session x.table) x) plan is_plan
  plan_fired (is.Delete x) plan is_plan = changing action.Delete (meant session x.table) (IsDeletion sight client session (meant session x.table) x) plan is_plan
  plan_fired is.Commit plan is_plan = absurd is_plan
  plan_fired is.Rollback plan is_plan = absurd is_plan
  plan_fired (is.CreateTable x) plan is_plan = absurd is_plan
  plan_fired (is.DropTable x) plan is_plan = absurd is_plan
  plan_fired (is.CreateUser x y) plan is_plan = absurd is_plan
  plan_fired (is.AlterUser x y) plan is_plan = absurd is_plan
  plan_fired (is.DropUser x) plan is_plan = absurd is_plan
  plan_fired (is.CreateRole x) plan is_plan = absurd is_plan
  plan_fired (is.DropRole x) plan is_plan = absurd is_plan
  plan_fired (is.Grant x) plan is_plan = absurd is_plan
  plan_fired (is.CreatePolicy x) plan is_plan = absurd is_plan
  plan_fired (is.DropPolicy x) plan is_plan = absurd is_plan
  plan_fired (is.Audit x) plan is_plan = absurd is_plan
  plan_fired (is.Noaudit x y) plan is_plan = absurd is_plan
  plan_fired (is.Call x) plan is_plan = absurd is_plan

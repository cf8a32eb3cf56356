-- A query has one plan, and the same over sights that show the same.
use Rattle.std.proofs.Common.{◌≡◌, ◌≢◌, ◌∙◌, ◌∷◌, [], Bool, true, false, ◌&&◌, ◌==◌, eqb-true, inl, inr, List, map, filter, refl, sym, ap, ap₂, subst}
use Rattle.std.specs.List.{AllZip, list_any}
use Rattle.au_audit.specs.Firing.{RowFacts, are_referenced, fired, in_record_order, meets, names_type, of_table}
use Rattle.au_audit.specs.Statements.{tables_of}
use Rattle.au_base.specs.declared.action.Action.{Action}
use Rattle.au_base.specs.declared.action.Action.TheVariants as action
use Rattle.au_base.specs.declared.cell.Cell.{Cell}
use Rattle.au_base.specs.declared.code.Code.{Code}
use Rattle.au_base.specs.declared.numbers.RowNo.{RowNo}
use Rattle.au_base.specs.declared.table.TableName.{TableName}
use Rattle.au_base.specs.Codes.{DONE}
use Rattle.au_entries.specs.declared.fine_grained.FgaPolicy.{FgaPolicy}
use Rattle.au_entries.specs.declared.table.Table.{Table}
use Rattle.au_expr.specs.Sessions.{Session}
use Rattle.au_grants.specs.declared.grants.Grants.{Grants}
use Rattle.au_grants.specs.Rights.{Name}
use Rattle.au_priv.specs.declared.allowed.Allowed.{Allowed}
use Rattle.au_priv.specs.Allowing.{AllowedIs}
use Rattle.au_query.specs.declared.selected.Selected.{Selected}
use Rattle.au_query.specs.Answers.{refused}
use Rattle.au_query.specs.Combos.{Line}
use Rattle.au_world.specs.declared.rights.TableRights.{TableRights}
use Rattle.au_world.specs.declared.row_plan.RowPlan.{RowPlan}
use Rattle.au_world.specs.Plans.{FollowsRights, IsAnswered, IsPlanOf, IsQueryPlan, IsRefused, ShowTheSame, Truths, cells_touched, is_one_of, row_facts}
use Rattle.au_world.specs.Rights.{Answers, AnswersIfThere, AreTableRights, code_or_done, refusal, used_unless}
use Rattle.au_world.specs.Sights.{Sight, is_there}
use Rattle.au_world.proofs.OneAnswer.{RepliesAreOne, answer_refused, answered_alike, answered_once, map_same, same_rows}
use Rattle.au_world.proofs.Statements.{Kind, kind_of}
use Rattle.sql_ast.specs.declared.statement.Statement.{Statement}
use Rattle.sql_ast.specs.declared.statement.Statement.TheVariants as statements

differs : true ≡ false → ⊥
differs e = cc

abbrev pub RightsAreOne : Type 0
RightsAreOne = (grants : Grants) (user : Name) (table : TableName) (action : Action) (one other : Allowed) → AllowedIs grants user table action one → AllowedIs grants user table action other → one ≡ other

-- ---- the rights

right_at : RightsAreOne → (b : Bool) (grants : Grants) (user : Name) (action : Action) (table : TableName) (one other : Allowed)
    → AnswersIfThere b grants user action table one → AnswersIfThere b grants user action table other → one ≡ other
right_at once true grants user action table one other a b = once grants user table action one other a b
right_at once false grants user action table one other a b = a ∙ sym b

rights_at : RightsAreOne → (catalog : List Table) (grants : Grants) (user : Name) (action : Action) (tables : List TableName) (one other : List Allowed)
    → AllZip (Answers catalog grants user action) tables one → AllZip (Answers catalog grants user action) tables other → one ≡ other
rights_at once catalog grants user action [] [] [] a b = refl
rights_at once catalog grants user action [] [] (y ∷ other) a b = absurd b
rights_at once catalog grants user action [] (x ∷ one) other a b = absurd a
rights_at once catalog grants user action (table ∷ tables) [] other a b = absurd a
rights_at once catalog grants user action (table ∷ tables) (x ∷ one) [] a b = absurd b
rights_at once catalog grants user action (table ∷ tables) (x ∷ one) (y ∷ other) a b =
    ap₂ (λ z zs. z ∷ zs) (right_at once (is_there catalog table) grants user action table x y a.0 b.0) (rights_at once catalog grants user action tables one other a.1 b.1)

rights_once : RightsAreOne → (catalog : List Table) (grants : Grants) (user : Name) (action : Action) (tables : List TableName) (one other : TableRights)
    → AreTableRights catalog grants user action tables one → AreTableRights catalog grants user action tables other → one ≡ other
rights_once once catalog grants user action tables one other a b =
    let same = rights_at once catalog grants user action tables a.answers b.answers a.each b.each in
    let code = a.code ∙ ap (λ answers. code_or_done (refusal answers)) same ∙ sym b.code in
    let used = a.used ∙ ap (λ answers. used_unless (refusal answers) answers) same ∙ sym b.used in
    λ i. record { code = code i; used = used i }

-- ---- plans

module _ (replies : RepliesAreOne) (once : RightsAreOne) (truth : Truths) (sight : Sight) (session : Session) (statement : Statement) where
  same_comes : (b : Bool) (code : Code) (one other : RowPlan) → FollowsRights b truth sight session statement code one → FollowsRights b truth sight session statement code other
      → (one.code ≡ other.code) × (one.reply ≡ other.reply) × (one.fired ≡ other.fired)
  same_comes true code one other a b =
      let same = answered_once replies sight session statement a.selected b.selected (kind_of statement) a.answer b.answer in (
        a.code ∙ ap (λ (s : Selected). s.code) same ∙ sym b.code,
        a.reply ∙ ap (λ (s : Selected). s.reply) same ∙ sym b.reply,
        a.policies ∙ ap (λ (s : Selected). fired truth s.code (row_facts sight s) sight.catalog.fga) same ∙ sym b.policies,
      )
  same_comes false code one other a b = (a.code ∙ sym b.code, a.reply ∙ sym b.reply, a.policies ∙ sym b.policies)

  query_once : (one other : RowPlan) → IsQueryPlan truth sight session statement one → IsQueryPlan truth sight session statement other → one ≡ other
  query_once one other a b =
      let rights = rights_once once sight.catalog.tables sight.grants session.user action.Select (tables_of session.user statement) a.rights b.rights a.are b.are in
      let same = same_comes (b.rights.code.0 == 0) b.rights.code one other
      (subst (λ (r : TableRights). FollowsRights (r.code.0 == 0) truth sight session statement r.code one) rights a.comes) b.comes in
      let used = a.used ∙ ap (λ (r : TableRights). r.used) rights ∙ sym b.used in
      let changes = a.changes ∙ sym b.changes in
      λ i. record { code = same.0 i; used = used i; reply = same.1 i; changes = changes i; fired = same.2 i }

-- a plan that is there is a query's
pub query_plan : (truth : Truths) (sight : Sight) (session : Session) (statement : Statement) (plan : RowPlan) → Kind statement → IsPlanOf truth sight session statement plan → IsQueryPlan truth sight session statement plan
query_plan truth sight session statement plan kind is = elim kind [
  | inl query ↦ subst (λ (s : Statement). IsQueryPlan truth sight session s plan) (sym query.1) (subst (λ (s : Statement). IsPlanOf truth sight session s plan) query.1 is)
  | inr rest ↦ (elim rest [
    | inl query ↦ subst (λ (s : Statement). IsQueryPlan truth sight session s plan) (sym query.1) (subst (λ (s : Statement). IsPlanOf truth sight session s plan) query.1 is)
    | inr neither ↦ absurd (neither.no_plan truth sight session plan is)
  ])
]

-- and back, where the statement has any plan
pub plan_of_query : (truth : Truths) (a b : Sight) (session : Session) (statement : Statement) (plan : RowPlan) → Kind statement → IsPlanOf truth a session statement plan
    → IsQueryPlan truth b session statement plan → IsPlanOf truth b session statement plan
plan_of_query truth a b session statement plan kind is new = elim kind [
  | inl query ↦ subst (λ (s : Statement). IsPlanOf truth b session s plan) (sym query.1) (subst (λ (s : Statement). IsQueryPlan truth b session s plan) query.1 new)
  | inr rest ↦ (elim rest [
    | inl query ↦ subst (λ (s : Statement). IsPlanOf truth b session s plan) (sym query.1) (subst (λ (s : Statement). IsQueryPlan truth b session s plan) query.1 new)
    | inr neither ↦ absurd (neither.no_plan truth a session plan is)
  ])
]

pub planned_once : RepliesAreOne → RightsAreOne → (truth : Truths) (sight : Sight) (session : Session) (statement : Statement) (one other : RowPlan)
    → IsPlanOf truth sight session statement one → IsPlanOf truth sight session statement other → one ≡ other
planned_once replies once truth sight session statement one other a b =
    query_once replies once truth sight session statement one other (query_plan truth sight session statement one (kind_of statement) a) (query_plan truth sight session statement other (kind_of statement) b)

-- ---- sights that show the same

filter_same : {X : Type 0} (test : X → Bool) (xs ys : List X) → xs ≡ ys → filter test xs ≡ filter test ys
filter_same test xs ys same = ap (filter test) same

same_touched : (a b : Sight) → ShowTheSame a b → (entry : TableName × List RowNo) → cells_touched a entry ≡ cells_touched b entry
same_touched a b same entry =
    ap (λ (rows : List (List Cell)). (entry.0, rows)) (ap (map (λ (line : Line). line.1)) (filter_same (is_one_of entry.1) _ _ (same_rows a b same entry.0)))

same_facts : (a b : Sight) → ShowTheSame a b → (selected : Selected) → row_facts a selected ≡ row_facts b selected
same_facts a b same selected =
    ap (λ (touched : List (TableName × List (List Cell))). record { action = action.Select; touched = touched; named = selected.named })
    (map_same (cells_touched a) (cells_touched b) (same_touched a b same) selected.touched)

comes_alike : (truth : Truths) (a b : Sight) (session : Session) (statement : Statement) (plan : RowPlan) (t : Bool) (code : Code) → ShowTheSame a b
    → FollowsRights t truth a session statement code plan → FollowsRights t truth b session statement code plan
comes_alike truth a b session statement plan false code same is = is
comes_alike truth a b session statement plan true code same is = record {
  selected = is.selected;
  answer = answered_alike a b session statement is.selected (kind_of statement) same is.answer;
  code = is.code;
  reply = is.reply;
  policies = is.policies
      ∙ ap (λ facts. fired truth is.selected.code facts a.catalog.fga) (same_facts a b same is.selected)
      ∙ ap (λ catalog. fired truth is.selected.code (row_facts b is.selected) catalog.fga) same.catalog;
}

pub planned_alike : (truth : Truths) (a b : Sight) (session : Session) (statement : Statement) (plan : RowPlan) → ShowTheSame a b → IsPlanOf truth a session statement plan → IsPlanOf truth b session statement plan
planned_alike truth a b session statement plan same is =
    let query = query_plan truth a session statement plan (kind_of statement) is in
    let tables = tables_of session.user statement in
    plan_of_query truth a b session statement plan (kind_of statement) is
    (record {
      rights = query.rights;
      are = subst (λ grants. AreTableRights b.catalog.tables grants session.user action.Select tables query.rights) same.grants
          (subst (λ catalog. AreTableRights catalog.tables a.grants session.user action.Select tables query.rights) same.catalog query.are);
      used = query.used;
      changes = query.changes;
      comes = comes_alike truth a b session statement plan (query.rights.code.0 == 0) query.rights.code same query.comes;
    })

-- ---- plans that are refused

not_zero : (code : Code) (b : Bool) → (code.0 == 0) ≡ b → code ≢ DONE → b ≡ false
not_zero code true is not_done = absurd (not_done (let e : code.0 ≡ 0 = eqb-true code.0 0 is in λ i. record { 0 = e i }))
not_zero code false is not_done = refl

none_of : {X : Type 0} (test : X → Bool) (xs : List X) → filter (λ x. false && test x) xs ≡ []
none_of test [] = refl
none_of test (x ∷ xs) = none_of test xs

none_fired : (truth : Truths) (code : Code) (facts : RowFacts) (policies : List FgaPolicy) → code ≢ DONE → fired truth code facts policies ≡ []
none_fired truth code facts policies not_done =
    ap (λ (b : Bool). in_record_order (map (λ (policy : FgaPolicy). policy.name) (filter (λ (policy : FgaPolicy). b && (policy.enabled && (names_type policy.types facts.action
    && (are_referenced policy.columns policy.all (of_table policy.name.table facts.named)
    && list_any (meets truth policy.name.table policy.condition) (of_table policy.name.table facts.touched))))) policies)))
    (not_zero code (code.0 == 0) refl not_done)
    ∙ ap (λ (left : List FgaPolicy). in_record_order (map (λ (policy : FgaPolicy). policy.name) left))
    (none_of (λ (policy : FgaPolicy). policy.enabled && (names_type policy.types facts.action
    && (are_referenced policy.columns policy.all (of_table policy.name.table facts.named)
    && list_any (meets truth policy.name.table policy.condition) (of_table policy.name.table facts.touched)))) policies)

comes_refused : (truth : Truths) (sight : Sight) (session : Session) (statement : Statement) (plan : RowPlan) (t : Bool) (code : Code)
    → FollowsRights t truth sight session statement code plan → plan.code ≢ DONE → (plan.reply ≡ (refused plan.code).reply) × (plan.fired ≡ [])
comes_refused truth sight session statement plan false code is not_done = (is.reply ∙ ap (λ (c : Code). (refused c).reply) (sym is.code), is.policies)
comes_refused truth sight session statement plan true code is not_done =
    let other = λ (e : is.selected.code ≡ DONE). not_done (is.code ∙ e) in (
      is.reply ∙ ap (λ (s : Selected). s.reply) (answer_refused sight session statement is.selected (kind_of statement) is.answer other) ∙ ap (λ (c : Code). (refused c).reply) (sym is.code),
      is.policies ∙ none_fired truth is.selected.code (row_facts sight is.selected) sight.catalog.fga other,
    )

pub plan_refused : (truth : Truths) (sight : Sight) (session : Session) (statement : Statement) (plan : RowPlan) → IsPlanOf truth sight session statement plan → plan.code ≢ DONE
    → (plan.reply ≡ (refused plan.code).reply) × (plan.changes ≡ []) × (plan.fired ≡ [])
plan_refused truth sight session statement plan is not_done =
    let query = query_plan truth sight session statement plan (kind_of statement) is in
    let rest = comes_refused truth sight session statement plan (query.rights.code.0 == 0) query.rights.code query.comes not_done in
    (rest.0, query.changes, rest.1)

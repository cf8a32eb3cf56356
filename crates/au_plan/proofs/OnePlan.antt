-- INSERT, UPDATE and DELETE have one plan, and the same over sights that show the same.
use Rattle.std.proofs.Common.{◌≡◌, ◌≢◌, ◌∙◌, Bool, true, false, List, [], ◌∷◌, length, refl, sym, ap, ap₂, subst}
use Rattle.std.specs.Prelude.{◌==◌}
use Rattle.std.specs.List.{AllZip}
use Rattle.au_audit.specs.Firing.{RowFacts, fired}
use Rattle.au_base.specs.declared.action.Action.{Action}
use Rattle.au_base.specs.declared.code.Code.{Code}
use Rattle.au_base.specs.declared.table.TableName.{TableName}
use Rattle.au_base.specs.Codes.{DONE}
use Rattle.au_catalog.specs.declared.catalog.Catalog.{Catalog}
use Rattle.au_entries.specs.declared.fine_grained.FgaPolicy.{FgaPolicy}
use Rattle.au_entries.specs.declared.table.Table.{Table}
use Rattle.au_expr.specs.Sessions.{Session}
use Rattle.au_grants.specs.declared.grants.Grants.{Grants}
use Rattle.au_grants.specs.Rights.{Name}
use Rattle.au_modify.specs.declared.modification.Modification.{Modification}
use Rattle.au_modify.specs.Modifying as modifying
use Rattle.au_priv.specs.declared.allowed.Allowed.{Allowed}
use Rattle.au_priv.specs.Allowing.{AllowedIs}
use Rattle.au_query.specs.Answers.{refused}
use Rattle.au_world.specs.declared.rights.TableRights.{TableRights}
use Rattle.au_world.specs.declared.row_plan.RowPlan.{RowPlan}
use Rattle.au_world.specs.Plans.{ShowTheSame, Truths}
use Rattle.au_world.specs.Rights.{Answers, AnswersIfThere, AreTableRights, code_or_done, refusal, used_unless}
use Rattle.au_world.specs.Sights.{Sight, is_there}
use Rattle.au_plan.specs.Plans.{FollowsRight, IsChangePlan, facts_of, reply_of}

abbrev pub RightsAreOne : Type 0
RightsAreOne = (grants : Grants) (user : Name) (table : TableName) (action : Action) (one other : Allowed) → AllowedIs grants user table action one → AllowedIs grants user table action other → one ≡ other

-- what is refused fires nothing
abbrev pub FiresNothing : Type 0
FiresNothing = (truth : Truths) (code : Code) (facts : RowFacts) (policies : List FgaPolicy) → code.0 ≢ 0 → fired truth code facts policies ≡ []

-- ---- the rights

right_at : RightsAreOne → (b : Bool) (grants : Grants) (user : Name) (action : Action) (table : TableName) (one other : Allowed)
    → AnswersIfThere b grants user action table one → AnswersIfThere b grants user action table other → one ≡ other
right_at once true grants user action table one other a b = once grants user table action one other a b
right_at once false grants user action table one other a b = a ∙ sym b

rights_at : RightsAreOne → (catalog : List Table) (grants : Grants) (user : Name) (action : Action) (tables : List TableName) (one other : List Allowed)
    → AllZip (Answers catalog grants user action) tables one → AllZip (Answers catalog grants user action) tables other → one ≡ other
rights_at once catalog grants user action [] [] [] a b = refl
rights_at once catalog grants user action [] [] (y ∷ other) a b = absurd b
rights_at once catalog grants user action [] (x ∷ one) other a b = absurd a
rights_at once catalog grants user action (table ∷ tables) [] other a b = absurd a
rights_at once catalog grants user action (table ∷ tables) (x ∷ one) [] a b = absurd b
rights_at once catalog grants user action (table ∷ tables) (x ∷ one) (y ∷ other) a b =
    ap₂ (λ z zs. z ∷ zs) (right_at once (is_there catalog table) grants user action table x y a.0 b.0) (rights_at once catalog grants user action tables one other a.1 b.1)

rights_once : RightsAreOne → (catalog : List Table) (grants : Grants) (user : Name) (action : Action) (tables : List TableName) (one other : TableRights)
    → AreTableRights catalog grants user action tables one → AreTableRights catalog grants user action tables other → one ≡ other
rights_once once catalog grants user action tables one other a b =
    let same = rights_at once catalog grants user action tables a.answers b.answers a.each b.each in
    let code = a.code ∙ ap (λ answers. code_or_done (refusal answers)) same ∙ sym b.code in
    let used = a.used ∙ ap (λ answers. used_unless (refusal answers) answers) same ∙ sym b.used in
    λ i. record { code = code i; used = used i }

-- ---- plans

-- the code, the reply, the changes and the policies are the same
pub record AreAlike (one other : RowPlan) : Type 0 where
  pub code : one.code ≡ other.code
  pub reply : one.reply ≡ other.reply
  pub changes : one.changes ≡ other.changes
  pub policies : one.fired ≡ other.fired

module _ (truth : Truths) (sight : Sight) (session : Session) (action : Action) (table : TableName) (Is : Modification → Type 0) where
  alike : ((a b : Modification) → Is a → Is b → a ≡ b) → (b : Bool) (code : Code) (one other : RowPlan)
      → FollowsRight b truth sight action table Is code one → FollowsRight b truth sight action table Is code other → AreAlike one other
  alike is_one true code one other a b =
      let same = is_one a.modification b.modification a.is_so b.is_so in record {
        code = a.code ∙ ap (λ (m : Modification). m.code) same ∙ sym b.code;
        reply = a.reply ∙ ap reply_of same ∙ sym b.reply;
        changes = a.changes ∙ ap (λ (m : Modification). m.changes) same ∙ sym b.changes;
        policies = a.policies ∙ ap (λ (m : Modification). fired truth m.code (facts_of action table m) sight.catalog.fga) same ∙ sym b.policies;
      }
  alike is_one false code one other a b = record {
    code = a.refused.code ∙ sym b.refused.code;
    reply = a.refused.reply ∙ sym b.refused.reply;
    changes = a.changes ∙ sym b.changes;
    policies = a.refused.policies ∙ sym b.refused.policies;
  }

  pub change_once : RightsAreOne → ((a b : Modification) → Is a → Is b → a ≡ b) → (one other : RowPlan)
      → IsChangePlan truth sight session action table Is one → IsChangePlan truth sight session action table Is other → one ≡ other
  change_once once is_one one other a b =
      let rights = rights_once once sight.catalog.tables sight.grants session.user action (table ∷ []) a.rights b.rights a.are b.are in
      let same = alike is_one (b.rights.code.0 == 0) b.rights.code one other
      (subst (λ (r : TableRights). FollowsRight (r.code.0 == 0) truth sight action table Is r.code one) rights a.comes) b.comes in
      let used = a.used ∙ ap (λ (r : TableRights). r.used) rights ∙ sym b.used in
      λ i. record { code = same.code i; used = used i; reply = same.reply i; changes = same.changes i; fired = same.policies i }

  follows_refused : FiresNothing → ((m : Modification) → Is m → m.code ≢ DONE → m ≡ modifying.refused m.code) → (b : Bool) (code : Code) (plan : RowPlan) → FollowsRight b truth sight action table Is code plan
      → plan.code ≢ DONE → (plan.reply ≡ (refused plan.code).reply) × (plan.changes ≡ []) × (plan.fired ≡ [])
  follows_refused nothing is_refused true code plan is not_done =
      let made = is.modification in
      let other = λ (e : made.code ≡ DONE). not_done (is.code ∙ e) in
      let alone = is_refused made is.is_so other in (
        is.reply ∙ ap reply_of alone ∙ ap (λ (c : Code). (refused c).reply) (sym is.code),
        is.changes ∙ ap (λ (m : Modification). m.changes) alone,
        is.policies ∙ nothing truth made.code (facts_of action table made) sight.catalog.fga (λ zero. other (λ i. record { 0 = zero i })),
      )
  follows_refused nothing is_refused false code plan is not_done =
      (is.refused.reply ∙ ap (λ (c : Code). (refused c).reply) (sym is.refused.code), is.changes, is.refused.policies)

  pub change_refused : FiresNothing → ((m : Modification) → Is m → m.code ≢ DONE → m ≡ modifying.refused m.code) → (plan : RowPlan) → IsChangePlan truth sight session action table Is plan
      → plan.code ≢ DONE → (plan.reply ≡ (refused plan.code).reply) × (plan.changes ≡ []) × (plan.fired ≡ [])
  change_refused nothing is_refused plan is not_done = follows_refused nothing is_refused (is.rights.code.0 == 0) is.rights.code plan is.comes not_done

-- ---- sights that show the same

module _ (truth : Truths) (a b : Sight) (same : ShowTheSame a b) (session : Session) (action : Action) (table : TableName) (InA InB : Modification → Type 0) (carried : (m : Modification) → InA m → InB m) where
  follows_alike : (t : Bool) (code : Code) (plan : RowPlan) → FollowsRight t truth a action table InA code plan → FollowsRight t truth b action table InB code plan
  follows_alike false code plan is = is
  follows_alike true code plan is = record {
    modification = is.modification;
    is_so = carried is.modification is.is_so;
    code = is.code;
    reply = is.reply;
    changes = is.changes;
    policies = is.policies ∙ ap (λ (catalog : Catalog). fired truth is.modification.code (facts_of action table is.modification) catalog.fga) same.catalog;
  }

  pub change_alike : (plan : RowPlan) → IsChangePlan truth a session action table InA plan → IsChangePlan truth b session action table InB plan
  change_alike plan is = record {
    rights = is.rights;
    are = subst (λ (grants : Grants). AreTableRights b.catalog.tables grants session.user action (table ∷ []) is.rights) same.grants
        (subst (λ (catalog : Catalog). AreTableRights catalog.tables a.grants session.user action (table ∷ []) is.rights) same.catalog is.are);
    used = is.used;
    comes = follows_alike (is.rights.code.0 == 0) is.rights.code plan is.comes;
  }

use Rattle.std.proofs.Common.{◌∙◌, ℕ, List, ap, subst}
use Rattle.au_base.specs.declared.action.Action.TheVariants as action
use Rattle.au_base.specs.declared.table.TableName.{TableName}
use Rattle.au_base.specs.BuiltIn.{resolved_table}
use Rattle.au_fga.specs.Testing.{truth_over}
use Rattle.au_change.specs.Deleting.{IsDeletion}
use Rattle.au_world.specs.Sights.{sight_of}
use Rattle.au_plan.specs.Inside.{IsOfCatalog}
use Rattle.au_plan.specs.Plans.{IsChangePlan}
use Rattle.au_plan.proofs.Allowed.{changed_table, deletes}
use Rattle.au_plan.proofs.Changes.{barred_plan, made_plan}
use Rattle.au_plan.proofs.changing.delete_plan.Goals as goal

pub delete-requires-clause-sound : goal.delete-requires-clause-sound
delete-requires-clause-sound c = c.sound_worlds_are_sound_for_clients.ensures c.args.world.now c.args.client c.requires.sound

pub delete-requires-clause-created : goal.delete-requires-clause-created
delete-requires-clause-created c =
    let world = c.args.world.now in
    (changed_table (λ a b. c.same_is_equal.ensures.table a b) world.catalog.now.tables world.grants.now c.args.session.now.user action.Delete deletes c.in_ok-table.table c.in_ok-rights.rights c.in_ok-rights.ensures c.if-rights-ne0.false).created

pub delete-requires-clause-there : goal.delete-requires-clause-there
delete-requires-clause-there c =
    let world = c.args.world.now in
    (changed_table (λ a b. c.same_is_equal.ensures.table a b) world.catalog.now.tables world.grants.now c.args.session.now.user action.Delete deletes c.in_ok-table.table c.in_ok-rights.rights c.in_ok-rights.ensures c.if-rights-ne0.false).there

pub made-requires-clause-fit : goal.made-requires-clause-fit
made-requires-clause-fit c =
    let world = c.args.world.now in
    let of_catalog = changed_table (λ a b. c.same_is_equal.ensures.table a b) world.catalog.now.tables world.grants.now c.args.session.now.user action.Delete deletes c.in_ok-table.table c.in_ok-rights.rights c.in_ok-rights.ensures c.if-rights-ne0.false in
    c.changed_rows_fit.ensures.deleted world c.args.client c.args.session.now c.in_ok-table.table c.args.delete.now c.in_ok-modification.modification c.requires.sound c.requires.planned c.holds_together.ensures.rows of_catalog c.in_ok-modification.ensures

pub returns-then-rights-ne0 : goal.returns-then-rights-ne0
returns-then-rights-ne0 c =
    let world = c.args.world.now in
    let truth = truth_over c.args.session.now world.catalog.now.tables in
    let sight = sight_of world c.args.client in
    let meant = c.in_ok-table.ensures ∙ ap (λ (user : List ℕ). resolved_table user c.args.delete.now.table) c.user.ensures in
    subst (λ (table : TableName). IsChangePlan truth sight c.args.session.now action.Delete table (IsDeletion sight c.args.client c.args.session.now table c.args.delete.now) c.refused.result) meant
    (barred_plan truth sight c.args.session.now action.Delete c.in_ok-table.table (IsDeletion sight c.args.client c.args.session.now c.in_ok-table.table c.args.delete.now) c.in_ok-rights.rights c.refused.result c.in_ok-rights.ensures c.if-rights-ne0.true c.refused.ensures)

pub returns : goal.returns
returns c =
    let world = c.args.world.now in
    let truth = truth_over c.args.session.now world.catalog.now.tables in
    let sight = sight_of world c.args.client in
    let meant = c.in_ok-table.ensures ∙ ap (λ (user : List ℕ). resolved_table user c.args.delete.now.table) c.user.ensures in
    subst (λ (table : TableName). IsChangePlan truth sight c.args.session.now action.Delete table (IsDeletion sight c.args.client c.args.session.now table c.args.delete.now) c.in_ok-plan.plan) meant
    (made_plan truth sight c.args.session.now action.Delete c.in_ok-table.table (IsDeletion sight c.args.client c.args.session.now c.in_ok-table.table c.args.delete.now) c.in_ok-rights.rights c.in_ok-plan.plan c.in_ok-rights.ensures
    c.in_ok-modification.modification c.if-rights-ne0.false c.in_ok-modification.ensures c.in_ok-plan.ensures)

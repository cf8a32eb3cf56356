use Rattle.au_base.specs.declared.action.Action.TheVariants as action
use Rattle.au_audit.specs.Statements.{tables_of}
use Rattle.au_fga.specs.Testing.{truth_over}
use Rattle.au_world.specs.Sights.{sight_of}
use Rattle.au_plan.proofs.Allowed.{selects, there_where_done}
use Rattle.au_plan.proofs.Queries.{allowed_plan, refused_plan}
use Rattle.au_plan.proofs.querying.by_rights.Goals as goal

pub returns-then-rights-ne0 : goal.returns-then-rights-ne0
returns-then-rights-ne0 c =
    let world = c.args.world.now in
    refused_plan (truth_over c.args.session.now world.catalog.now.tables) (sight_of world c.args.client) c.args.session.now c.args.statement.now c.args.rights _ c.requires.rights c.if-rights-ne0.true c.refused.ensures

pub allowed-requires-clause-there : goal.allowed-requires-clause-there
allowed-requires-clause-there c =
    let world = c.args.world.now in
    there_where_done (λ a b. c.same_is_equal.ensures.table a b) world.catalog.now.tables world.grants.now c.args.session.now.user action.Select selects (tables_of c.args.session.now.user c.args.statement.now) c.args.rights c.requires.rights c.if-rights-ne0.false

pub returns : goal.returns
returns c =
    let world = c.args.world.now in
    allowed_plan (truth_over c.args.session.now world.catalog.now.tables) (sight_of world c.args.client) c.args.session.now c.args.statement.now c.args.rights _ c.requires.rights c.if-rights-ne0.false c.in_ok-plan.ensures.used c.in_ok-plan.ensures.changes c.in_ok-plan.ensures.answered

use Rattle.std.proofs.Common.{◌==◌, ap, refl, subst}
use Rattle.au_expr.specs.Sessions.{Session}
use Rattle.au_fga.specs.Testing.{truth_over}
use Rattle.au_kept.specs.Keeping.{desk_of}
use Rattle.au_plan.specs.Plans.{IsPlanOf}
use Rattle.au_replay.specs.Reading.{conditions}
use Rattle.au_ruling.specs.Rulings.{sight_in}
use Rattle.au_step.specs.Step.{ground_of}
use Rattle.au_txn.specs.Desks.{Contents as Desk, laid_by}
use Rattle.au_world.specs.Sights.{sight_of}
use Rattle.au_engine.specs.Reserved.{contents_of}
use Rattle.au_engine.proofs.Plans.{on_rows, plan_in, shows_same, truth_over_table}
use Rattle.au_engine.proofs.Views.{nothing_laid}
use Rattle.au_engine.proofs.engine.Engine.plan_on_rows.Goals as goal

pub plan-requires-clause-planned : goal.plan-requires-clause-planned
plan-requires-clause-planned c =
    c.lawful_catalogues_can_be_planned.ensures conditions c.args.self.now.state.kept c.world.result truth_over_table c.holds_together.ensures.lawful.kept.lawful c.world.ensures.catalog

pub plan-requires-clause-laid : goal.plan-requires-clause-laid
plan-requires-clause-laid c = rw c.world.ensures.desk (nothing_laid (c.args.session.now.client.0 == 0))

pub plan-requires-clause-on_rows : goal.plan-requires-clause-on_rows
plan-requires-clause-on_rows c = on_rows c.args.statement.now c.requires.on_rows

pub returns : goal.returns
returns c =
    let a = c.args in
    let m = a.self.now.state in
    let basis = ground_of m a.session.now a.statement.now a.stamp.0 in
    let world = c.world.result in
    let client = a.session.now.client in
    let contents = contents_of a.self.now in
    let shows = shows_same world client contents basis refl refl c.world.ensures.catalog c.world.ensures.grants c.world.ensures.desk c.world.ensures.records c.holds_together.ensures.open_to in
    let carries = c.plans_hold.ensures.same (truth_over basis.session m.kept.tables) (sight_of world client) (sight_in basis) client basis.session a.statement.now c.in_ok-plan.plan shows in
    let given = subst (λ (s : Session). IsPlanOf (truth_over s world.catalog.now.tables) (sight_of world client) client s a.statement.now c.in_ok-plan.plan) c.in_ok-facts.ensures c.in_ok-plan.ensures in
    plan_in world client basis a.statement.now c.in_ok-plan.plan c.world.ensures.catalog refl carries given
